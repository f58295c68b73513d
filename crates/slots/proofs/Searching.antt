-- A search finds what passes, and nothing beyond it does.
use Rattle.std.proofs.Common.{◌≡◌, ℕ, zero, suc, ◌+◌, ◌<◌, ◌≤◌, Bool, true, false, cond, List, [], ◌∷◌, length, get_or, Some, None, Option, unwrap_or, sym, refl, ap, ◌∙◌, ⊎_elim, arith}
use Rattle.std.proofs.lemmas.Bool.{cases_lt}
use Rattle.std.proofs.lemmas.List.Quantifiers.{position-Some}
use Rattle.std.proofs.lemmas.Iterator.Adapters.{position_from-zero}
use borrow.Author.Tests.{clash}
use Rattle.common.specs.Search.{lowest_at}
use Rattle.slots.specs.Slots.{highest_at}
use Rattle.slots.specs.Laws.{passes_at, Searches}

module _ {X : Type 0} (test : X → Bool) where
  none_found : (xs : List X) (k : ℕ) → lowest_at test xs k ≡ None → (j : ℕ) → passes_at test xs j ≡ false
  none_found [] k e j = refl
  none_found (x ∷ xs) k e j = go (test x) refl (none_found xs (k + 1)) e j
    where
      go : (b : Bool) → test x ≡ b → (lowest_at test xs (k + 1) ≡ None → (j : ℕ) → passes_at test xs j ≡ false) → cond b (Some k) (lowest_at test xs (k + 1)) ≡ None → (j : ℕ) → passes_at test (x ∷ xs) j ≡ false
      go true h rest q j = absurd (let z : ◌≡◌ {A = ℕ} 0 1 = cc in omega arith)
      go false h rest q zero = h
      go false h rest q (suc j) = rest q j

  passes_get : (xs : List X) (k : ℕ) (d : X) → k < length xs → passes_at test xs k ≡ test (get_or xs k d)
  passes_get [] k d l = absurd (omega arith)
  passes_get (x ∷ xs) zero d l = refl
  passes_get (x ∷ xs) (suc k) d l = passes_get xs k d (omega arith)

  passes_past : (xs : List X) (k : ℕ) → length xs ≤ k → passes_at test xs k ≡ false
  passes_past [] k l = refl
  passes_past (x ∷ xs) zero l = absurd (omega arith)
  passes_past (x ∷ xs) (suc k) l = passes_past xs k (omega arith)

  lowest_found : (xs : List X) (i : ℕ) → lowest_at test xs 0 ≡ Some i → (passes_at test xs i ≡ true) × ((j : ℕ) → j < i → passes_at test xs j ≡ false)
  lowest_found [] i e = absurd (let z : ◌≡◌ {A = ℕ} 0 1 = cc in omega arith)
  lowest_found (x ∷ xs) i e =
      let first = position-Some test (x ∷ xs) i x (position_from-zero test (x ∷ xs) ∙ e) in
      (passes_get (x ∷ xs) i x first.0 ∙ first.1, λ j l. passes_get (x ∷ xs) j x (omega (arith, first.0)) ∙ first.2 j l)

  -- where nothing passes, the highest is the one known before
  none_higher : (xs : List X) (k best : ℕ) → ((j : ℕ) → passes_at test xs j ≡ false) → highest_at test xs k best ≡ best
  none_higher [] k best h = refl
  none_higher (x ∷ xs) k best h = none_higher xs (k + 1) (cond (test x) k best) (λ j. h (suc j)) ∙ ap (λ b. cond b k best) (h 0)

  -- the highest is at n, counted from k, and j is not above it
  record High (xs : List X) (k best j : ℕ) : Type 0 where
    pub at : ℕ
    pub is : highest_at test xs k best ≡ k + at
    pub holds : passes_at test xs at ≡ true
    pub least : j ≤ at

  highest_found : (xs : List X) (k best j : ℕ) → passes_at test xs j ≡ true → High xs k best j
  highest_found [] k best j p = absurd (clash p)
  highest_found (x ∷ xs) k best (suc j) p =
      let r = highest_found xs (k + 1) (cond (test x) k best) j p in
      record { at = suc r.at; is = r.is ∙ omega arith; holds = r.holds; least = omega (arith, r.least) }
  highest_found (x ∷ xs) k best zero p = go (highest_found xs (k + 1) (cond (test x) k best)) (lowest_at test xs 0) refl
    where
      go : ((i : ℕ) → passes_at test xs i ≡ true → High xs (k + 1) (cond (test x) k best) i) → (o : Option ℕ) → lowest_at test xs 0 ≡ o → High (x ∷ xs) k best 0
      go rest None e = record { at = 0; is = none_higher xs (k + 1) (cond (test x) k best) (none_found xs 0 e) ∙ ap (λ b. cond b k best) p ∙ omega arith; holds = p; least = omega arith }
      go rest (Some i) e =
          let r = rest i (lowest_found xs i e).0 in
          record { at = suc r.at; is = r.is ∙ omega arith; holds = r.holds; least = omega arith }

  above_none : (xs : List X) (i : ℕ) (d : X) → ((k : ℕ) (d : X) → i ≤ k → k < length xs → test (get_or xs k d) ≡ false) → (k : ℕ) → i ≤ k → passes_at test xs k ≡ false
  above_none xs i d h k l = ⊎_elim (λ in_list. passes_get xs k d in_list ∙ h k d l in_list) (passes_past xs k) (cases_lt k (length xs))

  highest_none : (xs : List X) → ((k : ℕ) (d : X) → k < length xs → test (get_or xs k d) ≡ false) → 0 ≡ highest_at test xs 0 0
  highest_none [] h = refl
  highest_none (x ∷ xs) h = sym (none_higher (x ∷ xs) 0 0 (λ j. above_none (x ∷ xs) 0 x (λ k d l. h k d) j (omega arith)))

  -- the test holds last at i
  pub record LastAt (xs : List X) (i : ℕ) : Type 0 where
    pub within : i < length xs
    pub holds : (d : X) → test (get_or xs i d) ≡ true
    pub above : (k : ℕ) (d : X) → i < k → k < length xs → test (get_or xs k d) ≡ false

  highest_some : (xs : List X) (i : ℕ) → LastAt xs i → i ≡ highest_at test xs 0 0
  highest_some [] i last = absurd (omega arith)
  highest_some (x ∷ xs) i last =
      let r = highest_found (x ∷ xs) 0 0 i (passes_get (x ∷ xs) i x last.within ∙ last.holds x) in
      let past : i < r.at → passes_at test (x ∷ xs) r.at ≡ false = above_none (x ∷ xs) (suc i) x (λ k d m. last.above k d (omega arith)) r.at in
      ⊎_elim (λ more. absurd (clash (sym (past more) ∙ r.holds))) (λ no_more. omega (arith, r.is, r.least)) (cases_lt i r.at)

  -- what a search from the back finds
  pub highest_is : (xs : List X) (o : Option ℕ) → (o ≡ None → (k : ℕ) (d : X) → k < length xs → test (get_or xs k d) ≡ false) → ((i : ℕ) → o ≡ Some i → LastAt xs i) → unwrap_or o 0 ≡ highest_at test xs 0 0
  highest_is xs None none some = highest_none xs (none refl)
  highest_is xs (Some i) none some = highest_some xs i (some i refl)

  pub searches : Searches test
  searches = record {
    lowest = lowest_found;
    none = λ xs. none_found xs 0;
    highest = top;
  }
    where
      top : (xs : List X) (j : ℕ) → passes_at test xs j ≡ true → (passes_at test xs (highest_at test xs 0 0) ≡ true) × (j ≤ highest_at test xs 0 0)
      top xs j p =
          let r = highest_found xs 0 0 j p in
          let e : highest_at test xs 0 0 ≡ r.at = r.is ∙ omega arith in
          (ap (passes_at test xs) e ∙ r.holds, omega (arith, e, r.least))
