-- The ledger: 32 bins, each a count of grams.
use Rattle.std.specs.Prelude.{ℕ, ◌+◌, ◌-◌, cond, not, ◌&&◌, ◌||◌, List, [], ◌∷◌, ◌++◌, length, ◌==◌, nat_lt, slice_index, slice_set}
use Rattle.common.specs.Bytes.{Bytes, be32, bytes4}
use Rattle.service.specs.Service.{ServiceModel}

-- what a body asks
pub data LedgerAsk : Type 0 where
  move : (from to amount : ℕ) → LedgerAsk
  count : (bin : ℕ) → LedgerAsk
  unfit : LedgerAsk

-- a move is 1, from, to and a 4-byte amount; a count is 2 and a bin
abbrev pub ledger_ask : Bytes → LedgerAsk
ledger_ask b =
    cond (slice_index b 0 == 1 && length b == 7) (move (slice_index b 1) (slice_index b 2) (be32 b 3))
    (cond (slice_index b 0 == 2 && length b == 2) (count (slice_index b 1)) unfit)

-- the smallest status that applies; 0 is done
abbrev pub move_status : List ℕ → ℕ → ℕ → ℕ → ℕ
move_status bins from to amount =
    cond (nat_lt 31 from || nat_lt 31 to) 2
    (cond (nat_lt (slice_index bins from) amount) 3
    (cond (not (from == to) && nat_lt 4294967295 (slice_index bins to + amount)) 4 0))

-- the bins after a move that is done; from = to alters nothing
abbrev pub moved : List ℕ → ℕ → ℕ → ℕ → List ℕ
moved bins from to amount =
    cond (from == to) bins (slice_set (slice_set bins from (slice_index bins from - amount)) to (slice_index bins to + amount))

-- the bins after
abbrev pub ledger_after : List ℕ → LedgerAsk → List ℕ
ledger_after bins (move from to amount) = cond (move_status bins from to amount == 0) (moved bins from to amount) bins
ledger_after bins (count bin) = bins
ledger_after bins unfit = bins

-- 0 and the two new counts
abbrev pub two_counts : List ℕ → ℕ → ℕ → Bytes
two_counts bins from to = 0 ∷ bytes4 (slice_index bins from) ++ bytes4 (slice_index bins to)

-- the reply
abbrev pub ledger_answer : List ℕ → LedgerAsk → Bytes
ledger_answer bins (move from to amount) =
    cond (move_status bins from to amount == 0) (two_counts (moved bins from to amount) from to) (move_status bins from to amount ∷ [])
ledger_answer bins (count bin) = cond (nat_lt 31 bin) (2 ∷ []) (0 ∷ bytes4 (slice_index bins bin))
ledger_answer bins unfit = 1 ∷ []

-- the ledger as a service
abbrev pub ledger_model : ServiceModel
ledger_model = record {
  Content = List ℕ;
  next = λ bins b. ledger_after bins (ledger_ask b);
  reply = λ bins b. ledger_answer bins (ledger_ask b);
}
