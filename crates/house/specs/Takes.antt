-- A reply handed to the terminal whose session id it bears.
use Rattle.std.specs.Prelude.{ℕ, ◌≤◌, Bool, false, List, length, Some, None, Ok, Err, Option, Result, slice_index_or, slice_set}
use Rattle.std.specs.Option.{option_map}
use Rattle.common.specs.Bytes.{Bytes}
use Rattle.common.specs.Search.{when_found, lowest_at}
use Rattle.wire.specs.Wire.{SessionId, same_id, Reply, Refusal, no_call}
use Rattle.terminal.specs.declared.replies.Effect.{Effect as CodeEffect}
use Rattle.terminal.specs.Terminal.{TerminalM, Effect, answered, done, unknown, still_open, accept_effect, after_accept}
use Rattle.terminal.specs.Replies.{effect_by, accept_answer}
use Rattle.exactly_once.specs.History.{Answer, taken}
use Rattle.exactly_once.specs.Steps.{refusal, bears}
use Rattle.house.specs.declared.takes.Taken.{Taken}

-- what a reply did, a kept body as its bytes
abbrev pub closing_model : CodeEffect Bytes → Effect
closing_model = effect_by (λ bytes. bytes)

-- what take answers
abbrev pub taken_answer : Taken → Answer
taken_answer t = taken t.terminal t.slot (closing_model t.closing)

-- the bytes of an answer fit a body
abbrev pub Short : Effect → Type 0
Short (answered bytes) = length bytes ≤ 256
Short done = Unit {0}
Short unknown = Unit {0}
Short (still_open status) = Unit {0}

-- the record at a place has that session id
abbrev pub bears_id : SessionId → Option TerminalM → Bool
bears_id id o = when_found false (λ (t : TerminalM). same_id t.id id) o

-- what a reply does at a place
abbrev pub accepts : Option TerminalM → Reply → Result Effect Refusal
accepts o r = when_found (Err no_call) (λ t. accept_answer t r) o

-- and the record there after it
abbrev pub settled : Option TerminalM → Reply → Option TerminalM
settled o r = option_map (λ t. after_accept t r) o

-- the records after a reply was handed over, and the answer
pub record Handing : Type 0 where
  pub records : List (Option TerminalM)
  pub answer : Answer

-- it belongs to no open call
abbrev pub unclaimed : List (Option TerminalM) → Handing
unclaimed ts = record { records = ts; answer = refusal no_call }

-- it belongs to an open call of the record t at p
abbrev pub claimed_by : List (Option TerminalM) → Reply → ℕ → TerminalM → Effect → Handing
claimed_by ts r p t e = record { records = slice_set ts p (Some (after_accept t r)); answer = taken p r.slot e }

-- handed to the record at p
abbrev pub handed_in : List (Option TerminalM) → Reply → ℕ → Option TerminalM → Handing
handed_in ts r p o = when_found (unclaimed ts) (λ (t : TerminalM). when_found (unclaimed ts) (claimed_by ts r p t) (accept_effect t r)) o

-- handed to the lowest record that has its session id
abbrev pub handed : List (Option TerminalM) → Reply → Handing
handed ts r = when_found (unclaimed ts) (λ p. handed_in ts r p (slice_index_or ts p None)) (lowest_at (bears r) ts 0)

-- a message, read and handed over
abbrev pub received : List (Option TerminalM) → Result Reply Refusal → Handing
received ts (Ok r) = handed ts r
received ts (Err e) = record { records = ts; answer = refusal e }
