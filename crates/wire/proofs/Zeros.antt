-- Padding is all zeros where no byte of it is found to be another.
use Rattle.std.proofs.Common.{◌≡◌, ℕ, zero, suc, ◌+◌, ◌-◌, ◌≤◌, Bool, true, false, not, cond, eqb, length, get_or, take, drop, Some, None, Ok, Err, Option, Result, sym, refl, ap, ◌∙◌, add-zero, arith}
use Rattle.std.specs.List.{position, position_from}
use Rattle.std.proofs.lemmas.List.{drop_more}
use Rattle.std.proofs.lemmas.Iterator.Adapters.{position_from-zero}
use Rattle.common.specs.Bytes.{Bytes}
use Rattle.wire.specs.Wire.{Refusal, unreadable, zeros_at}

-- by where the first other byte was found, counted from an offset
abbrev pub stops : ℕ → Option ℕ → Result (Unit {0}) Refusal
stops at None = Ok tt
stops at (Some i) = Err (unreadable (at + i))

abbrev pub is_other : ℕ → Bool
is_other b = not (eqb b 0)

chosen : (at i : ℕ) (b : Bool) (o : Option ℕ) → cond b (stops at o) (Err (unreadable (at + i))) ≡ stops at (cond (not b) (Some i) o)
chosen at i true o = refl
chosen at i false o = refl

zeros_from : (bs : Bytes) (at n i : ℕ) → at + i + n ≤ length bs → zeros_at n bs (at + i) ≡ stops at (position_from is_other i (take n (drop (at + i) bs)))
zeros_from bs at zero i h = refl
zeros_from bs at (suc n) i h =
    let x = get_or bs (at + i) 0 in
    let next : at + (i + 1) ≡ at + i + 1 = omega arith in
    let rest = ap (λ k. zeros_at n bs k) (sym next) ∙ zeros_from bs at n (i + 1) (omega arith) ∙ ap (λ k. stops at (position_from is_other (i + 1) (take n (drop k bs)))) next in
    ap (λ r. cond (eqb x 0) r (Err (unreadable (at + i)))) rest
    ∙ chosen at i (eqb x 0) (position_from is_other (i + 1) (take n (drop (at + i + 1) bs)))
    ∙ ap (λ l. stops at (position_from is_other i (take (suc n) l))) (sym (drop_more bs (at + i) 0 (omega arith)))

pub zeros_are : (bs : Bytes) (at n : ℕ) → at + n ≤ length bs → zeros_at n bs at ≡ stops at (position is_other (take (at + n - at) (drop at bs)))
zeros_are bs at n h =
    let size : n ≡ at + n - at = omega arith in
    ap (λ k. zeros_at n bs k) (sym (add-zero at))
    ∙ zeros_from bs at n 0 (omega arith)
    ∙ (λ i. stops at (position_from is_other 0 (take (size i) (drop (add-zero at i) bs))))
    ∙ ap (stops at) (sym (position_from-zero is_other (take (at + n - at) (drop at bs))))
