-- What a house stands for, and what is said of each call that it meets.
use Rattle.std.specs.Prelude.{◌≡◌, ℕ, ◌∷◌, map, replicate, None, Option}
use Rattle.std.specs.Option.{option_map}
use Rattle.common.specs.Bytes.{Bytes}
use Rattle.service.specs.declared.Service as service
use Rattle.channel.specs.declared.Channel as channel
use Rattle.wire.specs.Wire.{request_message, reply_message}
use Rattle.server.specs.Calls.{new_server}
use Rattle.server.specs.Models.{model}
use Rattle.terminal.specs.Terminal.{TerminalM}
use Rattle.terminal.specs.Models.{terminal_model}
use Rattle.exactly_once.specs.History.{Asked, Answer, History}
use Rattle.exactly_once.specs.Houses.{parts}
use Rattle.exactly_once.specs.Lived.{Lived, ends}
use Rattle.exactly_once.specs.Promise.{KeptPromise}
use Rattle.exactly_once.specs.Steps.{Model, act, event_of}
use Rattle.house.specs.declared.places.Place.{Place}
use Rattle.house.specs.declared.state.House.{House}

-- the record at a place
abbrev pub place_model : Place → Option TerminalM
place_model p = option_map terminal_model p.terminal

module _ {S Q R : Type 0} (s : service.Ghosts S) (q : channel.Ghosts Q) (r : channel.Ghosts R) where
  -- the house
  abbrev pub house_state : House S Q R → Model (parts s q r)
  house_state h = record {
    server = model h.server;
    terminals = map place_model h.places;
    content = s.content h.service;
    requests = q.state h.requests;
    replies = r.state h.replies;
  }

  -- a house as it is made
  abbrev pub new_house : S → Q → R → ℕ → ℕ → Model (parts s q r)
  new_house service requests replies boot count = record {
    server = new_server boot count;
    terminals = replicate 8 None;
    content = s.content service;
    requests = q.state requests;
    replies = r.state replies;
  }

  -- A call met. It answers and leaves what the written step says, and every history goes on with its event.
  pub record Met (before after : House S Q R) (asked : Asked) (answered : Answer) : Type 0 where
    pub answer : answered ≡ (act (parts s q r) (house_state before) asked).answer
    pub state : house_state after ≡ (act (parts s q r) (house_state before) asked).after
    pub lives : (first : s.model.Content) (h : History) → Lived (parts s q r) first h (house_state before) → Lived (parts s q r) first (event_of (parts s q r) (house_state before) asked ∷ h) (house_state after)

  -- the message that a call puts into a channel
  abbrev pub puts : House S Q R → Asked → Option Bytes
  puts before asked = (act (parts s q r) (house_state before) asked).put

  -- the message that it takes from one
  abbrev pub takes : House S Q R → Asked → Option Bytes
  takes before asked = (act (parts s q r) (house_state before) asked).took

  -- whatever its history is, the house keeps the promise of sessions
  abbrev pub Promised : House S Q R → Type 0
  Promised now = (first : s.model.Content) (h : History) → Lived (parts s q r) first h (house_state now) → KeptPromise s.model.next s.model.reply request_message reply_message h first (ends (parts s q r) (house_state now)) (s.content now.service)
