-- Searching a list: what is found there, where, and what is one of it.
use Rattle.std.specs.Prelude.{◌≡◌, ℕ, Bool, ◌⊎◌, List, [], ◌∷◌, Some, None, Option}
use Rattle.std.specs.List.{position_from}

-- x is one of the list
abbrev pub In : {A : Type 0} → A → List A → Type 0
In x [] = ⊥
In x (y ∷ ys) = (x ≡ y) ⊎ In x ys

-- by what was found, or `none` where nothing was
abbrev pub when_found : {A X : Type 0} → X → (A → X) → Option A → X
when_found none go None = none
when_found none go (Some a) = go a

-- the lowest index, counted from i, at which a test holds
abbrev pub lowest_at : {X : Type 0} → (X → Bool) → List X → ℕ → Option ℕ
lowest_at test xs i = position_from test i xs
