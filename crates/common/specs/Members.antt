-- Membership in a list.
use Rattle.std.specs.Prelude.{◌≡◌, ℕ, zero, suc, ◌<◌, ◌⊎◌, List, [], ◌∷◌, ◌++◌, length, take, drop, slice_index_or, refl}
use Rattle.std.proofs.Common.{inl, inr, ⊎_elim, arith}
use Rattle.common.specs.Search.{In}

pub in_push : {A : Type 0} (x y : A) (ys : List A) → In x (ys ++ y ∷ []) → (x ≡ y) ⊎ In x ys
in_push x y [] (inl e) = inl e
in_push x y [] (inr h) = absurd h
in_push x y (z ∷ zs) (inl e) = inr (inl e)
in_push x y (z ∷ zs) (inr h) = ⊎_elim inl (λ k. inr (inr k)) (in_push x y zs h)

pub in_append : {A : Type 0} (x : A) (ys zs : List A) → In x (ys ++ zs) → In x ys ⊎ In x zs
in_append x [] zs h = inr h
in_append x (y ∷ ys) zs (inl e) = inl (inl e)
in_append x (y ∷ ys) zs (inr h) = ⊎_elim (λ k. inl (inr k)) inr (in_append x ys zs h)

pub in_take : {A : Type 0} (x : A) (n : ℕ) (ys : List A) → In x (take n ys) → In x ys
in_take x zero ys h = absurd h
in_take x (suc n) [] h = h
in_take x (suc n) (y ∷ ys) (inl e) = inl e
in_take x (suc n) (y ∷ ys) (inr h) = inr (in_take x n ys h)

pub in_drop : {A : Type 0} (x : A) (n : ℕ) (ys : List A) → In x (drop n ys) → In x ys
in_drop x zero ys h = h
in_drop x (suc n) [] h = h
in_drop x (suc n) (y ∷ ys) h = inr (in_drop x n ys h)

pub in_getD : {A : Type 0} (ys : List A) (i : ℕ) (d : A) → i < length ys → In (slice_index_or ys i d) ys
in_getD [] i d lt = absurd (omega arith)
in_getD (y ∷ ys) zero d lt = inl refl
in_getD (y ∷ ys) (suc i) d lt = inr (in_getD ys i d (omega arith))
