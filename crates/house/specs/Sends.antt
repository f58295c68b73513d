-- What order, part and resend have in common.
use Rattle.std.specs.Prelude.{◌≡◌, ℕ, ◌≤◌, List, length, IfOk, Some, Ok, Err, Option, Result, slice_set}
use Rattle.std.specs.Borrow.{MutBor}
use Rattle.std.specs.Fn.{Once}
use Rattle.common.specs.Bytes.{Bytes}
use Rattle.common.specs.Search.{when_found}
use Rattle.service.specs.declared.Service as service
use Rattle.channel.specs.declared.Channel as channel
use Rattle.channel.specs.Channel.{laid}
use Rattle.wire.specs.declared.refusals.Refusal.{Refusal as CodeRefusal}
use Rattle.wire.specs.Wire.{Refusal, no_terminal}
use Rattle.wire.specs.Models.{answer_model, itself}
use Rattle.terminal.specs.declared.sends.Sent.{Sent}
use Rattle.terminal.specs.declared.state.Terminal.{Terminal}
use Rattle.terminal.specs.Models.{terminal_model}
use Rattle.terminal.specs.Terminal.{TerminalM, Sending, after_sending}
use Rattle.terminal.specs.Sends.{in_scratch, told, scratch_after, message_of, front_of}
use Rattle.exactly_once.specs.History.{Answer}
use Rattle.exactly_once.specs.Houses.{parts}
use Rattle.exactly_once.specs.Steps.{send_step}
use Rattle.house.specs.declared.state.House.{House}
use Rattle.house.specs.Answers.{answer_by}
use Rattle.house.specs.Houses.{house_state}

-- what the record at a place sends, if there is one
abbrev pub sends_in : ℕ → (TerminalM → Result Sending Refusal) → Option TerminalM → Result Sending Refusal
sends_in room send o = when_found (Err no_terminal) (λ t. in_scratch room (send t)) o

-- the record at a place after it was to send; a refusal alters nothing
abbrev pub place_after : Option TerminalM → Result Sending Refusal → Option TerminalM
place_after o (Ok s) = Some s.after
place_after o (Err e) = o

-- and all of them
abbrev pub placed : List (Option TerminalM) → ℕ → Result Sending Refusal → List (Option TerminalM)
placed ts p (Ok s) = slice_set ts p (Some s.after)
placed ts p (Err e) = ts

-- what was to be sent, the scratch before and after, and the answer
pub record Wrote (sent : Result Sending Refusal) (before after : Bytes) (r : Result Sent CodeRefusal) : Type 0 where
  pub answer : answer_model itself r ≡ told sent
  pub scratch : after ≡ scratch_after before sent
  pub message : front_of r after ≡ message_of sent

module _ {F : Type 0} (g : Once F (MutBor Terminal × (MutBor Bytes × Unit {0})) (Result Sent CodeRefusal × (MutBor Terminal × (MutBor Bytes × Unit {0})))) (f : F) where
  -- f may be called at any terminal and any scratch, and its messages fit the room of one
  pub record CanWrite : Type 0 where
    pub may : (t : MutBor Terminal) (b : MutBor Bytes) → g.pre f (t, (b, tt))
    pub fits : (t t' : MutBor Terminal) (b b' : MutBor Bytes) (r : Result Sent CodeRefusal) → g.post f (t, (b, tt)) (r, (t', (b', tt))) → IfOk r (λ (s : Sent). s.len ≤ 304)

  -- f does what `send` says
  pub record Writes (send : TerminalM → Result Sending Refusal) : Type 0 where
    pub wrote : (t t' : MutBor Terminal) (b b' : MutBor Bytes) (r : Result Sent CodeRefusal) → g.post f (t, (b, tt)) (r, (t', (b', tt))) → Wrote (in_scratch (length b.now) (send (terminal_model t.now))) b.now b'.now r
    pub after : (t t' : MutBor Terminal) (b b' : MutBor Bytes) (r : Result Sent CodeRefusal) → g.post f (t, (b, tt)) (r, (t', (b', tt))) → terminal_model t'.now ≡ after_sending (terminal_model t.now) (in_scratch (length b.now) (send (terminal_model t.now)))

module _ {S Q R : Type 0} (s : service.Ghosts S) (q : channel.Ghosts Q) (r : channel.Ghosts R) where
  -- the terminal at a place sent, with the answer said in its own way
  pub record SentBy (before after : House S Q R) (scratch scratch_then : Bytes) (p : ℕ) (say : ℕ → Answer) (send : TerminalM → Result Sending Refusal) (result : Result ℕ CodeRefusal) : Type 0 where
    pub answer : answer_by say result ≡ (send_step (parts s q r) (house_state s q r before) p (length scratch) say send).answer
    pub state : house_state s q r after ≡ (send_step (parts s q r) (house_state s q r before) p (length scratch) say send).after
    pub put : scratch_then ≡ laid (send_step (parts s q r) (house_state s q r before) p (length scratch) say send).put scratch
