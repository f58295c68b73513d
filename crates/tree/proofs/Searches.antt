-- A search through a list is that of std.
use Rattle.std.proofs.Common.{◌≡◌, ℕ, zero, suc, ◌+◌, ◌<◌, Bool, true, false, not, ◌&&◌, ◌||◌, cond, eqb, List, [], ◌∷◌, map, length, set, is_some, Some, None, Option, refl, ap, ◌∙◌, arith}
use Rattle.std.specs.List.{position, position_from, prefix_len, list_all, list_any, enumerate_from}
use Rattle.std.proofs.lemmas.Iterator.Adapters.{position_from-zero}
use Rattle.std.proofs.lemmas.Bool.{ne_eqb, eq-eqb}
use Rattle.common.specs.Search.{lowest_at}

-- all pass where the longest prefix that passes is the list
pub all_is_prefix : {X : Type 0} (test : X → Bool) (xs : List X) → list_all test xs ≡ eqb (prefix_len test xs) (length xs)
all_is_prefix test [] = refl
all_is_prefix test (x ∷ xs) = go (test x) (all_is_prefix test xs)
  where
    go : (t : Bool) → list_all test xs ≡ eqb (prefix_len test xs) (length xs) → (t && list_all test xs) ≡ eqb (cond t (1 + prefix_len test xs) 0) (suc (length xs))
    go true e = grind arith
    go false e = grind arith

module _ {X Y : Type 0} (test : Y → Bool) (f : X → Y) where
  lowest_from : (xs : List X) (i : ℕ) → position_from (λ x. test (f x)) i xs ≡ lowest_at test (map f xs) i
  lowest_from [] i = refl
  lowest_from (x ∷ xs) i = ap (cond (test (f x)) (Some i)) (lowest_from xs (i + 1))

  pub lowest_is_position : (xs : List X) → position (λ x. test (f x)) xs ≡ lowest_at test (map f xs) 0
  lowest_is_position xs = position_from-zero (λ x. test (f x)) xs ∙ lowest_from xs 0

  pub any_is_lowest : (xs : List X) (i : ℕ) → list_any (λ x. test (f x)) xs ≡ is_some (lowest_at test (map f xs) i)
  any_is_lowest [] i = refl
  any_is_lowest (x ∷ xs) i = go (test (f x)) (any_is_lowest xs (i + 1))
    where
      go : (t : Bool) → list_any (λ y. test (f y)) xs ≡ is_some (lowest_at test (map f xs) (i + 1)) → (t || list_any (λ y. test (f y)) xs) ≡ is_some (cond t (Some i) (lowest_at test (map f xs) (i + 1)))
      go true e = refl
      go false e = e

module _ {X Y : Type 0} (test : Option Y → Bool) (f : X → Option Y) (fails : test None ≡ false) (n : ℕ) where
  -- the test of all but place n
  abbrev pub elsewhere : ℕ × X → Bool
  elsewhere p = not (eqb p.0 n) && test (f p.1)

  past : (k : ℕ) (xs : List X) → n < k → list_any elsewhere (enumerate_from k xs) ≡ list_any (λ x. test (f x)) xs
  past k [] lt = refl
  past k (x ∷ xs) lt = rw (ne_eqb k n (λ e. omega arith), past (k + 1) xs (omega arith)) refl

  others : (k m i : ℕ) (xs : List X) → n ≡ k + m → list_any elsewhere (enumerate_from k xs) ≡ is_some (lowest_at test (set (map f xs) m None) i)
  others k m i [] e = refl
  others k zero i (x ∷ xs) e =
      rw (eq-eqb k n (omega arith), fails, past (k + 1) xs (omega arith)) (any_is_lowest test f xs (i + 1))
  others k (suc m) i (x ∷ xs) e = rw (ne_eqb k n (λ h. omega arith)) (go (test (f x)) (others (k + 1) m (i + 1) xs (omega arith)))
    where
      go : (t : Bool) → list_any elsewhere (enumerate_from (k + 1) xs) ≡ is_some (lowest_at test (set (map f xs) m None) (i + 1)) → (t || list_any elsewhere (enumerate_from (k + 1) xs)) ≡ is_some (cond t (Some i) (lowest_at test (set (map f xs) m None) (i + 1)))
      go true h = refl
      go false h = h

  pub other_is_lowest : (xs : List X) → list_any elsewhere (enumerate_from 0 xs) ≡ is_some (lowest_at test (set (map f xs) n None) 0)
  other_is_lowest xs = others 0 n 0 xs (omega arith)
