-- What a channel is: a state, the messages that wait in it, and its own steps for put and take.
use Rattle.std.specs.Prelude.{◌≡◌, ℕ, ◌≤◌, Bool, cond, ◌⊎◌, List, ◌++◌, length, take, drop, Some, None, Option, ◌==◌, nat_le}
use Rattle.common.specs.Bytes.{Bytes}
use Rattle.common.specs.Search.{In}

-- a channel's meaning
pub record ChannelModel : Type 1 where
  pub State : Type 0
  -- the messages that wait
  pub waits : State → List Bytes
  -- the put step
  pub puts : State → Bytes → State
  -- the take step, with a buffer that is long enough: what it gives, and what is left
  pub gives : State → Option Bytes
  pub rests : State → State

-- what every channel keeps
pub record ChannelLaws (C : ChannelModel) : Type 0 where
  -- after a put, each one waiting waited before or is the one put, which then has at most 304 bytes
  pub put_keeps : (s : C.State) (b m : Bytes) → In m (C.waits (C.puts s b)) → ((m ≡ b) × (length b ≤ 304)) ⊎ In m (C.waits s)
  -- a take gives none, or one that waited
  pub give_waited : (s : C.State) (m : Bytes) → C.gives s ≡ Some m → In m (C.waits s)
  -- and nothing new waits afterwards
  pub rest_waited : (s : C.State) (m : Bytes) → In m (C.waits (C.rests s)) → In m (C.waits s)

-- what is left by a take with a buffer of that length: under 304 bytes it alters nothing
abbrev pub take_step : (C : ChannelModel) → C.State → ℕ → C.State
take_step C s room = cond (nat_le 304 room) (C.rests s) s

-- and what it gives: then none
abbrev pub take_gives : (C : ChannelModel) → C.State → ℕ → Option Bytes
take_gives C s room = cond (nat_le 304 room) (C.gives s) None

-- the message that take handed over: the front of the buffer, by the length that it answered
abbrev pub taken : Option ℕ → Bytes → Option Bytes
taken None buffer = None
taken (Some n) buffer = Some (take n buffer)

-- the buffer after a take: the message given lies at its front, and the bytes behind it stay
abbrev pub laid : Option Bytes → Bytes → Bytes
laid None buffer = buffer
laid (Some m) buffer = m ++ drop (length m) buffer

-- whether no message waits
abbrev pub none_waits : (C : ChannelModel) → C.State → Bool
none_waits C s = length (C.waits s) == 0
