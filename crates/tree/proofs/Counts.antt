-- How many numbers below n pass a test.
use Rattle.std.proofs.Common.{◌≡◌, ℕ, zero, suc, ◌+◌, ◌<◌, ◌≤◌, Bool, true, false, ◌⊎◌, sym, refl, ap, ◌∙◌, inl, inr, arith}
use borrow.Author.Tests.{clash}
use Rattle.std.proofs.lemmas.Bool.{cases_eq, cases_lt}

abbrev bit : Bool → ℕ
bit true = 1
bit false = 0

bit_le : (t : Bool) → bit t ≤ 1
bit_le true = omega arith
bit_le false = omega arith

bit_mono : (s t : Bool) → (s ≡ true → t ≡ true) → bit s ≤ bit t
bit_mono false t h = omega arith
bit_mono true true h = omega arith
bit_mono true false h = absurd (clash (h refl))

bit_more : (s t : Bool) → s ≡ false → t ≡ true → bit s + 1 ≤ bit t
bit_more s t e f = rw (e, f) (omega arith)

abbrev pub count : (ℕ → Bool) → ℕ → ℕ
count f zero = 0
count f (suc n) = bit (f n) + count f n

pub count_le : (f : ℕ → Bool) (n : ℕ) → count f n ≤ n
count_le f zero = omega arith
count_le f (suc n) = omega (arith, count_le f n, bit_le (f n))

count_mono : (f g : ℕ → Bool) (n : ℕ) → ((i : ℕ) → f i ≡ true → g i ≡ true) → count f n ≤ count g n
count_mono f g zero h = omega arith
count_mono f g (suc n) h = omega (arith, count_mono f g n h, bit_mono (f n) (g n) (h n))

le_apart : (j n : ℕ) → j < suc n → (j ≡ n → ⊥) → j < n
le_apart j n lt ne = go (cases_lt j n)
  where
    go : (j < n) ⊎ (n ≤ j) → j < n
    go (inl l) = l
    go (inr g) = absurd (ne (omega arith))

-- one more passes
pub count_more : (f g : ℕ → Bool) (n : ℕ) → ((i : ℕ) → f i ≡ true → g i ≡ true) → (j : ℕ) → j < n → f j ≡ false → g j ≡ true → count f n < count g n
count_more f g zero h j lt fails passes = absurd (omega arith)
count_more f g (suc n) h j lt fails passes = go (count_more f g n h j) (cases_eq j n)
  where
    go : (j < n → f j ≡ false → g j ≡ true → count f n < count g n) → (j ≡ n) ⊎ (j ≡ n → ⊥) → bit (f n) + count f n < bit (g n) + count g n
    go rest (inl e) = omega (arith, count_mono f g n h, bit_more (f n) (g n) (ap f (sym e) ∙ fails) (ap g (sym e) ∙ passes))
    go rest (inr ne) = omega (arith, rest (le_apart j n lt ne) fails passes, bit_mono (f n) (g n) (h n))
