-- The histories of a house, what its two ends then hold, and what is promised of it.
use Rattle.std.specs.Prelude.{◌≡◌, ℕ, ◌^◌, ◌<◌, not, [], ◌∷◌, replicate, None}
use Rattle.wire.specs.Wire.{request_message, reply_message}
use Rattle.common.specs.Search.{when_found}
use Rattle.service.specs.Service.{ServiceLaws}
use Rattle.channel.specs.Channel.{ChannelLaws}
use Rattle.server.specs.Server.{SessionM, SlotM, new_slot, session_of, slot_at}
use Rattle.terminal.specs.Terminal.{TerminalM, EndM, new_end, end_at, is_busy}
use Rattle.exactly_once.specs.History.{Asked, History}
use Rattle.exactly_once.specs.Promise.{Ends, KeptPromise}
use Rattle.exactly_once.specs.Steps.{Parts, Model, terminal_at, act, event_of}

-- what the parts keep
pub record PartsLaws (P : Parts) : Type 0 where
  pub service : ServiceLaws P.service
  pub requests : ChannelLaws P.requests
  pub replies : ChannelLaws P.replies

module _ (P : Parts) where
  -- a house as it is made: no session, no terminal, empty channels, a boot number and a first count of 64 bits
  pub record Fresh (first : P.service.Content) (m : Model P) : Type 0 where
    pub boot : m.server.boot < 2 ^ 64
    pub count : m.server.count < 2 ^ 64
    pub sessions : m.server.sessions ≡ replicate 8 None
    pub terminals : m.terminals ≡ replicate 8 None
    pub content : m.content ≡ first
    pub requests : P.requests.waits m.requests ≡ []
    pub replies : P.replies.waits m.replies ≡ []

  -- the house made with that first content has that history and is now so
  pub data Lived (first : P.service.Content) : History → Model P → Type 0 where
    made : {m : Model P} → Fresh first m → Lived first [] m
    met : {h : History} {m n : Model P} (a : Asked) → Lived first h m → n ≡ (act P m a).after → Lived first (event_of P m a ∷ h) n

  -- a slot of the record at a place
  abbrev pub end_of : Model P → ℕ → ℕ → EndM
  end_of m p s = when_found new_end (λ (t : TerminalM). end_at t s) (terminal_at P m p)

  -- the same slot at the server, if that record's session stands
  abbrev pub slot_of : Model P → ℕ → ℕ → SlotM
  slot_of m p s = when_found new_slot (λ (t : TerminalM). when_found new_slot (λ (x : SessionM). slot_at x s) (session_of m.server t.id)) (terminal_at P m p)

  -- what the two ends hold of it
  abbrev pub ends : Model P → Ends
  ends m = record {
    at_rest = λ p s. not (is_busy (end_of m p s));
    usable = λ p s. (end_of m p s).usable;
    terminal_number = λ p s. (end_of m p s).number;
    server_number = λ p s. (slot_of m p s).number;
    server_open = λ p s. (slot_of m p s).is_open;
  }

  -- every house keeps its promise, after every history
  abbrev pub Keeps : Type 0
  Keeps = (first : P.service.Content) (h : History) (m : Model P) → Lived first h m → KeptPromise P.service.next P.service.reply request_message reply_message h first (ends m) m.content
