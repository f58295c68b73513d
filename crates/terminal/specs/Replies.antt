-- What accept answers, and the open call that a reply belongs to.
use Rattle.std.specs.Prelude.{ℕ, cond, ◌&&◌, None, Ok, Err, Option, Result, ◌==◌, nat_le}
use denote.Ref.{Bor}
use Rattle.common.specs.Bytes.{Bytes}
use Rattle.common.specs.Search.{when_found}
use Rattle.wire.specs.Wire.{Reply, Refusal, same_id, no_call}
use Rattle.wire.specs.Models.{status_number}
use Rattle.terminal.specs.declared.replies.Effect.{Effect as CodeEffect}
use Rattle.terminal.specs.declared.replies.Effect.TheVariants.{Answered, Done, Unknown, StillOpen}
use Rattle.terminal.specs.Terminal.{OpenCall, EndM, TerminalM, Effect, answered, done, unknown, still_open, end_at, accept_effect}

-- each effect by its case; an answer by the bytes that its holder shows
abbrev pub effect_by : {B : Type 0} → (B → Bytes) → CodeEffect B → Effect
effect_by bytes (Answered body) = answered (bytes body)
effect_by bytes Done = done
effect_by bytes Unknown = unknown
effect_by bytes (StillOpen status) = still_open (status_number status)

-- and one lent, by the bytes it points to
abbrev pub effect_model : CodeEffect (Bor Bytes) → Effect
effect_model = effect_by (λ body. body.now)

-- the effect, or that no open call has that reply
abbrev pub accept_answer : TerminalM → Reply → Result Effect Refusal
accept_answer t r = when_found (Err no_call) Ok (accept_effect t r)

-- a slot's open call, if it has that number
abbrev pub call_numbered : ℕ → EndM → Option OpenCall
call_numbered number x = cond (x.number == number) x.call None

-- the open call that a reply belongs to
abbrev pub call_of : TerminalM → Reply → Option OpenCall
call_of t r = cond (same_id t.id r.id && nat_le r.slot 15) (call_numbered r.number (end_at t r.slot)) None
