-- What holds of the ledger over any run of bodies, and of each single one.
use Rattle.std.specs.Prelude.{◌≡◌, ℕ, ◌+◌, ◌<◌, ◌≤◌, ◌⊎◌, List, [], ◌∷◌, length, Some, Ok, Err, Result, sum, ◌≢◌, slice_index}
use Rattle.common.specs.Bytes.{Bytes}
use Rattle.ledger.specs.Ledger.{LedgerAsk, move, count, unfit, ledger_ask, ledger_after, ledger_answer, ledger_model}
use Rattle.ledger.specs.Forms.{move_bytes, count_bytes, reply_bytes, reply_read}
use Rattle.ledger.specs.declared.refused.Refused.{Refused}
use Rattle.ledger.specs.declared.reply.Answer.{Answer}
use Rattle.ledger.specs.declared.reply.Answer.TheVariants.{Moved, Counted}

-- the grams in all bins together
abbrev pub grams : List ℕ → ℕ
grams bins = sum bins

-- 32 bins, each of 32 bits
pub record Sound (bins : List ℕ) : Type 0 where
  pub whole : length bins ≡ 32
  pub small : (i : ℕ) → slice_index bins i < 4294967296

-- the bins after a run of bodies, the first one first
abbrev pub after_run : List ℕ → List Bytes → List ℕ
after_run bins [] = bins
after_run bins (body ∷ bodies) = after_run (ledger_model.next bins body) bodies

-- no run of bodies makes or loses a gram, and every bin stays one of 32 bits
pub record RunKeeps : Type 0 where
  pub total : (bins : List ℕ) (bodies : List Bytes) → length bins ≡ 32 → grams (after_run bins bodies) ≡ grams bins
  pub sound : (bins : List ℕ) (bodies : List Bytes) → Sound bins → Sound (after_run bins bodies)

-- a reply's first byte: 0 is done
abbrev pub first_byte : Bytes → ℕ
first_byte reply = slice_index reply 0

-- what single bodies leave and alter
pub record Alters : Type 0 where
  -- a body that is refused leaves every bin
  pub refused : (bins : List ℕ) (body : Bytes) → (first_byte (ledger_model.reply bins body) ≢ 0) → ledger_model.next bins body ≡ bins
  -- a count does
  pub counted : (bins : List ℕ) (body : Bytes) (bin : ℕ) → ledger_ask body ≡ count bin → ledger_model.next bins body ≡ bins
  -- a move leaves every other bin
  pub others : (bins : List ℕ) (from to amount i : ℕ) → (i ≢ from) → (i ≢ to) → slice_index (ledger_after bins (move from to amount)) i ≡ slice_index bins i
  -- done, it takes the amount from one bin and adds it to the other
  pub took : (bins : List ℕ) (from to amount : ℕ) → length bins ≡ 32 → (from ≢ to) → first_byte (ledger_answer bins (move from to amount)) ≡ 0 → slice_index (ledger_after bins (move from to amount)) from + amount ≡ slice_index bins from
  pub gave : (bins : List ℕ) (from to amount : ℕ) → length bins ≡ 32 → (from ≢ to) → first_byte (ledger_answer bins (move from to amount)) ≡ 0 → slice_index (ledger_after bins (move from to amount)) to ≡ slice_index bins to + amount
  -- within one bin it leaves every bin
  pub within : (bins : List ℕ) (bin amount : ℕ) → ledger_after bins (move bin bin amount) ≡ bins

-- when a status applies: 1 not of a form, 2 a bin above 31, 3 an amount above what from holds, 4 a count that would pass 32 bits
abbrev pub Applies : List ℕ → LedgerAsk → ℕ → Type 0
Applies bins (move from to amount) status =
    ((status ≡ 2) × ((31 < from) ⊎ (31 < to)))
    ⊎ (((status ≡ 3) × (slice_index bins from < amount))
    ⊎ ((status ≡ 4) × (from ≢ to) × (4294967295 < slice_index bins to + amount)))
Applies bins (count bin) status = (status ≡ 2) × (31 < bin)
Applies bins unfit status = status ≡ 1

-- the reply begins with 0 where none applies, and else with the smallest that does
pub record Smallest : Type 0 where
  pub done : (bins : List ℕ) (ask : LedgerAsk) (status : ℕ) → first_byte (ledger_answer bins ask) ≡ 0 → Applies bins ask status → ⊥
  pub applies : (bins : List ℕ) (ask : LedgerAsk) → (first_byte (ledger_answer bins ask) ≢ 0) → Applies bins ask (first_byte (ledger_answer bins ask))
  pub least : (bins : List ℕ) (ask : LedgerAsk) (status : ℕ) → Applies bins ask status → first_byte (ledger_answer bins ask) ≤ status

-- counts of 32 bits
abbrev pub Fits : Result Answer Refused → Type 0
Fits (Ok (Moved from to)) = (from < 4294967296) × (to < 4294967296)
Fits (Ok (Counted n)) = n < 4294967296
Fits (Err _) = Unit {0}

-- bodies and replies as bytes
pub record Readable : Type 0 where
  -- a body asks what it was made for, and a reply says what was answered
  pub moves : (from to amount : ℕ) → amount < 4294967296 → ledger_ask (move_bytes from to amount) ≡ move from to amount
  pub counts : (bin : ℕ) → ledger_ask (count_bytes bin) ≡ count bin
  pub answers : (outcome : Result Answer Refused) → Fits outcome → reply_read (reply_bytes outcome) ≡ Some outcome
  -- a move's body has 7 bytes, and its reply, done, 9
  pub body_7 : (body : Bytes) (from to amount : ℕ) → ledger_ask body ≡ move from to amount → length body ≡ 7
  pub reply_9 : (bins : List ℕ) (from to amount : ℕ) → first_byte (ledger_answer bins (move from to amount)) ≡ 0 → length (ledger_answer bins (move from to amount)) ≡ 9
