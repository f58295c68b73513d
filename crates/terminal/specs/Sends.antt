-- What order, part and resend leave to their caller.
use Rattle.std.specs.Prelude.{ℕ, cond, ◌++◌, length, take, drop, Ok, Err, Result, nat_lt}
use Rattle.common.specs.Bytes.{Bytes}
use Rattle.wire.specs.Wire.{Refusal, short_scratch}
use Rattle.wire.specs.declared.refusals.Refusal.{Refusal as CodeRefusal}
use Rattle.wire.specs.Models.{refusal_model}
use Rattle.terminal.specs.declared.sends.Sent.{Sent}
use Rattle.terminal.specs.Terminal.{Sending}

-- a scratch of fewer than 304 bytes is refused first
abbrev pub in_scratch : ℕ → Result Sending Refusal → Result Sending Refusal
in_scratch room s = cond (nat_lt room 304) (Err short_scratch) s

-- the answer: the slot, and how many bytes the message has
abbrev pub told : Result Sending Refusal → Result Sent Refusal
told (Ok s) = Ok (record { slot = s.slot; len = length s.message })
told (Err e) = Err e

-- the scratch after: the message in front, and behind it what was there
abbrev pub scratch_after : Bytes → Result Sending Refusal → Bytes
scratch_after scratch (Ok s) = s.message ++ drop (length s.message) scratch
scratch_after scratch (Err e) = scratch

-- the message, or why there is none
abbrev pub message_of : Result Sending Refusal → Result Bytes Refusal
message_of (Ok s) = Ok s.message
message_of (Err e) = Err e

-- the bytes of a buffer that an answer tells of
abbrev pub front_of : Result Sent CodeRefusal → Bytes → Result Bytes Refusal
front_of (Ok s) buffer = Ok (take s.len buffer)
front_of (Err e) buffer = Err (refusal_model e)

-- the slot of a sending
abbrev pub slot_of : Result Sending Refusal → Result ℕ Refusal
slot_of (Ok s) = Ok s.slot
slot_of (Err e) = Err e
