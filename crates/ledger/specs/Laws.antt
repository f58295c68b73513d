-- A reply of the ledger has 1 to 256 bytes.
use Rattle.std.specs.Prelude.{ℕ, ◌≤◌, Bool, true, false, cond, List, [], ◌∷◌, length, ◌==◌, nat_lt}
use Rattle.std.proofs.Common.{arith}
use Rattle.common.specs.Bytes.{Bytes}
use Rattle.service.specs.Service.{ServiceLaws}
use Rattle.ledger.specs.Ledger.{LedgerAsk, move, count, unfit, ledger_answer, ledger_ask, move_status, two_counts, moved, ledger_model}

-- a reply of one of two lengths from 1 to 256
one_of : (t : Bool) (x y : Bytes) → (1 ≤ length x) × (length x ≤ 256) → (1 ≤ length y) × (length y ≤ 256) → (1 ≤ length (cond t x y)) × (length (cond t x y) ≤ 256)
one_of true x y p q = p
one_of false x y p q = q

ledger_short : (bins : List ℕ) (a : LedgerAsk) → (1 ≤ length (ledger_answer bins a)) × (length (ledger_answer bins a) ≤ 256)
ledger_short bins (move from to amount) = one_of (move_status bins from to amount == 0) (two_counts (moved bins from to amount) from to) (move_status bins from to amount ∷ []) (omega arith) (omega arith)
ledger_short bins (count bin) = one_of (nat_lt 31 bin) _ _ (omega arith) (omega arith)
ledger_short bins unfit = omega arith

pub ledger_laws : ServiceLaws ledger_model
ledger_laws = record { some = λ c b. (ledger_short c (ledger_ask b)).0; short = λ c b. (ledger_short c (ledger_ask b)).1 }
