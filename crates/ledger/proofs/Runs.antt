-- A body keeps the grams and the size of every bin; so does a run of them.
use Rattle.std.proofs.Common.{◌≡◌, ℕ, ◌+◌, ◌-◌, ◌<◌, ◌≤◌, Bool, true, false, cond, eqb, ◌⊎◌, List, [], ◌∷◌, length, get_or, set, sym, refl, ap, ◌∙◌, inl, inr, arith}
use Rattle.std.proofs.lemmas.List.{length-set, get_or-set_same, get_or-set_other, set_past}
use Rattle.std.proofs.lemmas.List.Sums.{sum_by-set}
use Rattle.std.proofs.lemmas.Bool.{cases_eq, cases_lt, eqb-true, eqb-false}
use Rattle.std.proofs.lemmas.Bool.Decides.{nat_tests}
use Rattle.common.specs.Bytes.{Bytes}
use Rattle.ledger.specs.Ledger.{LedgerAsk, move, count, unfit, ledger_ask, move_status, moved, ledger_after, ledger_model}
use Rattle.ledger.specs.Runs.{grams, after_run}

-- a move that can be done
record Doable (bins : List ℕ) (from to amount : ℕ) : Type 0 where
  pub from_in : from ≤ 31
  pub to_in : to ≤ 31
  pub enough : amount ≤ get_or bins from 0
  pub room : (from ≡ to → ⊥) → get_or bins to 0 + amount ≤ 4294967295

doable : (bins : List ℕ) (from to amount : ℕ) → move_status bins from to amount ≡ 0 → Doable bins from to amount
doable bins from to amount e =
    record { from_in = grind (arith, nat_tests); to_in = grind (arith, nat_tests); enough = grind (arith, nat_tests); room = λ n. grind (arith, nat_tests) }

-- what a law says of the bins before and after
pub record Keeps (bins after : List ℕ) : Type 0 where
  pub total : grams after ≡ grams bins
  pub whole : length after ≡ 32
  pub small : ((i : ℕ) → get_or bins i 0 < 4294967296) → (i : ℕ) → get_or after i 0 < 4294967296

same : (bins : List ℕ) → length bins ≡ 32 → Keeps bins bins
same bins w = record { total = refl; whole = w; small = λ s. s }

-- every count of 32 bits, and one more written
set_small : (bins : List ℕ) (at n : ℕ) → n < 4294967296 → ((i : ℕ) → get_or bins i 0 < 4294967296) → (i : ℕ) → get_or (set bins at n) i 0 < 4294967296
set_small bins at n h s i = go (cases_eq i at) (cases_lt at (length bins))
  where
    go : (i ≡ at) ⊎ (i ≡ at → ⊥) → (at < length bins) ⊎ (length bins ≤ at) → get_or (set bins at n) i 0 < 4294967296
    go (inr other) _ = rw (get_or-set_other bins at i n 0 other) (s i)
    go (inl e) (inl l) = rw e (rw (get_or-set_same bins at n 0 l) h)
    go (inl e) (inr past) = rw (set_past bins at n past) (s i)

-- two counts written, the one as much lower as the other is higher
two : (bins : List ℕ) (from to amount : ℕ) → length bins ≡ 32 → (from ≡ to → ⊥) → Doable bins from to amount → Keeps bins (set (set bins from (get_or bins from 0 - amount)) to (get_or bins to 0 + amount))
two bins from to amount w n d =
    record {
      total =
          let a = sum_by-set (λ (x : ℕ). x) bins from less 0 (omega arith) in
          let l : to < length (set bins from less) = simp length-set (omega arith) in
          let b = sum_by-set (λ (x : ℕ). x) (set bins from less) to more 0 l in
          let c : get_or (set bins from less) to 0 ≡ get_or bins to 0 = get_or-set_other bins from to less 0 (λ e. n (sym e)) in
          omega arith;
      whole = simp length-set w;
      small = λ s. set_small (set bins from less) to more (omega (arith, d.room n)) (set_small bins from less (omega (arith, s from)) s);
    }
  where
    less : ℕ
    less = get_or bins from 0 - amount

    more : ℕ
    more = get_or bins to 0 + amount

moved_keeps : (bins : List ℕ) (from to amount : ℕ) → length bins ≡ 32 → Doable bins from to amount → Keeps bins (moved bins from to amount)
moved_keeps bins from to amount w d = go (eqb from to) refl
  where
    go : (t : Bool) → eqb from to ≡ t → Keeps bins (cond t bins (set (set bins from (get_or bins from 0 - amount)) to (get_or bins to 0 + amount)))
    go true e = same bins w
    go false e = two bins from to amount w (eqb-false from to e) d

step_keeps : (bins : List ℕ) (ask : LedgerAsk) → length bins ≡ 32 → Keeps bins (ledger_after bins ask)
step_keeps bins (move from to amount) w = go (eqb (move_status bins from to amount) 0) refl
  where
    go : (t : Bool) → eqb (move_status bins from to amount) 0 ≡ t → Keeps bins (cond t (moved bins from to amount) bins)
    go true e = moved_keeps bins from to amount w (doable bins from to amount (eqb-true (move_status bins from to amount) 0 e))
    go false e = same bins w
step_keeps bins (count bin) w = same bins w
step_keeps bins unfit w = same bins w

pub run_keeps : (bins : List ℕ) (bodies : List Bytes) → length bins ≡ 32 → Keeps bins (after_run bins bodies)
run_keeps bins [] w = same bins w
run_keeps bins (body ∷ bodies) w =
    let k = step_keeps bins (ledger_ask body) w in
    let r = run_keeps (ledger_model.next bins body) bodies k.whole in
    record { total = r.total ∙ k.total; whole = r.whole; small = λ s. r.small (k.small s) }

-- the grams that a run led to are those of its first bins
pub grams_kept : (bins first : List ℕ) (bodies : List Bytes) → bins ≡ after_run first bodies → length first ≡ 32 → grams bins ≡ grams first
grams_kept bins first bodies e w = ap grams e ∙ (run_keeps first bodies w).total
