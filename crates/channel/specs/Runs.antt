-- Runs of puts and takes, and the laws that the channels keep over them.
use Rattle.std.specs.Prelude.{◌≡◌, ℕ, ◌+◌, ◌%◌, ◌≤◌, Bool, cond, ◌&&◌, ◌⊎◌, List, [], ◌∷◌, ◌++◌, length, Some, None, Option, ◌==◌, nat_lt}
use Rattle.common.specs.Bytes.{Bytes}
use Rattle.common.specs.Search.{In}
use Rattle.channel.specs.Channel.{ChannelModel, take_step, take_gives}
use Rattle.channel.specs.Channels.{pipe_model, loss_start, loss_model, double_model}

-- one call on a channel: a put of a message, or a take with a buffer of that length
pub data Deed : Type 0 where
  putting : Bytes → Deed
  taking : ℕ → Deed

-- a run, its first call first
abbrev pub Run : Type 0
Run = List Deed

-- the messages put
abbrev pub all_put : Run → List Bytes
all_put [] = []
all_put (putting m ∷ r) = m ∷ all_put r
all_put (taking n ∷ r) = all_put r

-- a message, if one was given, ahead of others
abbrev pub ahead : Option Bytes → List Bytes → List Bytes
ahead None ms = ms
ahead (Some m) ms = m ∷ ms

module _ (C : ChannelModel) where
  -- the channel after a run
  abbrev pub after : C.State → Run → C.State
  after s [] = s
  after s (putting m ∷ r) = after (C.puts s m) r
  after s (taking n ∷ r) = after (take_step C s n) r

  -- the messages that its takes gave
  abbrev pub given : C.State → Run → List Bytes
  given s [] = []
  given s (putting m ∷ r) = given (C.puts s m) r
  given s (taking n ∷ r) = ahead (take_gives C s n) (given (take_step C s n) r)

  -- and after them those that still wait
  abbrev pub all_out : C.State → Run → List Bytes
  all_out s r = given s r ++ C.waits (after s r)

  -- that holds, at each put, of the channel and the message
  abbrev pub AtPuts : (C.State → Bytes → Type 0) → C.State → Run → Type 0
  AtPuts Holds s [] = Unit {0}
  AtPuts Holds s (putting m ∷ r) = Holds s m × AtPuts Holds (C.puts s m) r
  AtPuts Holds s (taking n ∷ r) = AtPuts Holds (take_step C s n) r

  -- k of eight places are free, and the message has at most 304 bytes
  abbrev pub Room : ℕ → C.State → Bytes → Type 0
  Room k s m = (length (C.waits s) + k ≤ 8) × (length m ≤ 304)

-- Any channel: what comes out waited at first or was put, and then has at most 304 bytes.
abbrev pub NothingNew : ChannelModel → Type 0
NothingNew C = (s : C.State) (r : Run) (m : Bytes) → In m (all_out C s r) → In m (C.waits s) ⊎ (In m (all_put r) × (length m ≤ 304))

-- Pipe: while it never fills, what comes out is what waited at first and what was put, in order, each once.
abbrev pub KeepsOrder : Type 0
KeepsOrder = (s : List Bytes) (r : Run) → AtPuts pipe_model (Room pipe_model 1) s r → all_out pipe_model s r ≡ s ++ all_put r

-- And a take with a buffer that suffices gives none only when nothing waits.
abbrev pub GivesWhileWaiting : Type 0
GivesWhileWaiting = (s : List Bytes) (n : ℕ) → 304 ≤ n → take_gives pipe_model s n ≡ None → s ≡ []

-- whether the i-th put is lost: every k-th is, and with k = 0 none
abbrev pub is_lost : ℕ → ℕ → Bool
is_lost k i = nat_lt 0 k && i % k == 0

-- a run without every k-th put, where the next put is the i-th
abbrev pub without : ℕ → ℕ → Run → Run
without k i [] = []
without k i (putting m ∷ r) = cond (is_lost k i) (without k (i + 1) r) (putting m ∷ without k (i + 1) r)
without k i (taking n ∷ r) = taking n ∷ without k i r

-- Loss: the channel below is as after the run without every k-th put, and so is what the takes gave.
abbrev pub LosesEvery : ChannelModel → Type 0
LosesEvery C = (k : ℕ) (s : C.State) (r : Run) → ((after (loss_model C) (loss_start k s) r).inner ≡ after C s (without k 1 r)) × (given (loss_model C) (loss_start k s) r ≡ given C s (without k 1 r))

-- the second list has each message of the first at most twice, in order, and no other
pub data AtMostTwice : List Bytes → List Bytes → Type 0 where
  done : AtMostTwice [] []
  never : {m : Bytes} {ms out : List Bytes} → AtMostTwice ms out → AtMostTwice (m ∷ ms) out
  once : {m : Bytes} {ms out : List Bytes} → AtMostTwice ms out → AtMostTwice (m ∷ ms) (m ∷ out)
  twice : {m : Bytes} {ms out : List Bytes} → AtMostTwice ms out → AtMostTwice (m ∷ ms) (m ∷ m ∷ out)

-- each message twice
abbrev pub each_twice : List Bytes → List Bytes
each_twice [] = []
each_twice (m ∷ ms) = m ∷ m ∷ each_twice ms

-- Double over Pipe, empty at first: what comes out is each message put, at most twice;
abbrev pub GivesAtMostTwice : Type 0
GivesAtMostTwice = (r : Run) → AtMostTwice (all_put r) (all_out (double_model pipe_model) [] r)

-- and each exactly twice, while two places are free at each put.
abbrev pub GivesTwice : Type 0
GivesTwice = (r : Run) → AtPuts (double_model pipe_model) (Room (double_model pipe_model) 2) [] r → all_out (double_model pipe_model) [] r ≡ each_twice (all_put r)
