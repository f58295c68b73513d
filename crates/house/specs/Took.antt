-- What hear and take have in common: a message is taken from a channel.
use Rattle.std.specs.Prelude.{ℕ, cond, take, Ok, Err, Result, nat_lt}
use Rattle.common.specs.Bytes.{Bytes}
use Rattle.common.specs.Search.{when_found}
use Rattle.channel.specs.Channel.{ChannelModel}
use Rattle.wire.specs.declared.refusals.Refusal.{Refusal as CodeRefusal}
use Rattle.wire.specs.Wire.{Refusal, short_scratch, nothing_waits}
use Rattle.wire.specs.Models.{refusal_model}

-- the message, or why there is none
abbrev pub took : (C : ChannelModel) → C.State → ℕ → Result Bytes Refusal
took C s room = cond (nat_lt room 304) (Err short_scratch) (when_found (Err nothing_waits) Ok (C.gives s))

-- the bytes of a buffer that an answer tells of
abbrev pub front : Result ℕ CodeRefusal → Bytes → Result Bytes Refusal
front (Ok n) buffer = Ok (take n buffer)
front (Err e) buffer = Err (refusal_model e)
