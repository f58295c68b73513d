-- What happened to a house: each call that it met, refused ones too, with its arguments, its answer,
-- and the messages that it put and took.
use Rattle.std.specs.Prelude.{◌≡◌, ℕ, Bool, ◌⊎◌, List, [], ◌∷◌, length, Option}
use Rattle.common.specs.Bytes.{Bytes}
use Rattle.terminal.specs.Terminal.{Effect}

-- what a hear is told to do with a new call
pub data Told : Type 0 where
  run : Told
  aside : Told

-- a call with its arguments; `room` is the length of the scratch
pub data Asked : Type 0 where
  asked_open : (target : ℕ) → Asked
  asked_order : (terminal : ℕ) (keep : Bool) (body : Bytes) (room : ℕ) → Asked
  asked_part : (terminal slot room : ℕ) → Asked
  asked_resend : (terminal slot room : ℕ) → Asked
  asked_hear : (told : Told) (room : ℕ) → Asked
  asked_resume : (terminal slot room : ℕ) → Asked
  asked_take : (room : ℕ) → Asked
  asked_retarget : (terminal target : ℕ) → Asked
  asked_close : (terminal : ℕ) → Asked

-- what a call answers; only an unreadable message is refused with an offset other than 0
pub data Answer : Type 0 where
  refused : (number offset : ℕ) → Answer
  opened : (terminal : ℕ) → Answer
  ordered : (slot : ℕ) → Answer
  ran : Answer
  set_aside : Answer
  again : Answer
  status : ℕ → Answer
  taken : (terminal slot : ℕ) → Effect → Answer
  ok : Answer

-- a call met
pub record Event : Type 0 where
  pub asked : Asked
  pub answer : Answer
  pub put : Option Bytes
  pub took : Option Bytes

-- the newest event first; the time of an event is the number of events before it
abbrev pub History : Type 0
History = List Event

-- the event at a time
abbrev pub At : History → ℕ → Event → Type 0
At [] t e = ⊥
At (x ∷ h) t e = ((t ≡ length h) × (e ≡ x)) ⊎ At h t e
