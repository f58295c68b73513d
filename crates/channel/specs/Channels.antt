-- The four channels, each by its own steps.
use Rattle.std.specs.Prelude.{ℕ, ◌+◌, ◌%◌, cond, ◌&&◌, List, [], ◌∷◌, ◌++◌, length, drop, Some, None, Option, ◌==◌, nat_le, nat_lt, slice_index, slice_index_or}
use Rattle.std.specs.List.{remove}
use Rattle.common.specs.Bytes.{Bytes}
use Rattle.channel.specs.Channel.{ChannelModel}

-- A rack holds up to eight messages, the oldest first; one more, or one over 304 bytes, is lost.
abbrev pub racked : List Bytes → Bytes → List Bytes
racked ms m = cond (nat_lt (length ms) 8 && nat_le (length m) 304) (ms ++ (m ∷ [])) ms

-- the oldest
abbrev pub oldest : List Bytes → Option Bytes
oldest [] = None
oldest (m ∷ ms) = Some m

-- Pipe: take gives the oldest
abbrev pub pipe_model : ChannelModel
pipe_model = record { State = List Bytes; waits = λ ms. ms; puts = racked; gives = oldest; rests = drop 1 }

-- what a shelf holds
pub record ShelfState : Type 0 where
  pub messages : List Bytes
  -- the choices that are left
  pub choices : List ℕ

-- the next choice, 0 when they are used up
abbrev pub choice : ShelfState → ℕ
choice s = slice_index s.choices 0

-- the message that a choice names among those waiting
abbrev pub picked : List Bytes → ℕ → Option Bytes
picked [] b = None
picked (m ∷ ms) b = Some (slice_index_or (m ∷ ms) (b % length (m ∷ ms)) [])

-- what is then left: it stays if the choice is 128 or more
abbrev pub left : List Bytes → ℕ → List Bytes
left ms b = cond (nat_le 128 b) ms (remove ms (b % length ms))

-- a take from a shelf that is not empty uses a choice
abbrev pub shelf_rests : ShelfState → ShelfState
shelf_rests s = record {
  messages = left s.messages (choice s);
  choices = cond (nat_lt 0 (length s.messages)) (drop 1 s.choices) s.choices;
}

-- Shelf: take goes by choices
abbrev pub shelf_model : ChannelModel
shelf_model = record {
  State = ShelfState;
  waits = λ s. s.messages;
  puts = λ s m. record { messages = racked s.messages m; choices = s.choices };
  gives = λ s. picked s.messages (choice s);
  rests = shelf_rests;
}

-- which put is lost (0: none), how many were made since the last loss, and the channel below
pub record LossState (S : Type 0) : Type 0 where
  pub every : ℕ
  pub since : ℕ
  pub inner : S

-- a loss as it is made
abbrev pub loss_start : {S : Type 0} → ℕ → S → LossState S
loss_start k s = record { every = k; since = 0; inner = s }

-- each put counts, and every k-th goes no further
abbrev pub loss_puts : (C : ChannelModel) → LossState C.State → Bytes → LossState C.State
loss_puts C s m = record {
  every = s.every;
  since = cond (nat_lt (s.since + 1) s.every) (s.since + 1) 0;
  inner = cond (s.since + 1 == s.every) s.inner (C.puts s.inner m);
}

-- take is that of the channel below
abbrev pub loss_rests : (C : ChannelModel) → LossState C.State → LossState C.State
loss_rests C s = record { every = s.every; since = s.since; inner = C.rests s.inner }

-- Loss, over any channel
abbrev pub loss_model : ChannelModel → ChannelModel
loss_model C = record {
  State = LossState C.State;
  waits = λ s. C.waits s.inner;
  puts = loss_puts C;
  gives = λ s. C.gives s.inner;
  rests = loss_rests C;
}

-- Double, over any channel: each message is put twice
abbrev pub double_model : ChannelModel → ChannelModel
double_model C = record {
  State = C.State;
  waits = C.waits;
  puts = λ s m. C.puts (C.puts s m) m;
  gives = C.gives;
  rests = C.rests;
}
