-- What a search of a list amounts to.
use Rattle.std.specs.Prelude.{◌≡◌, ℕ, ◌<◌, ◌≤◌, Bool, true, false, List, Some, None}
use Rattle.std.specs.List.{slice_get}
use Rattle.common.specs.Search.{lowest_at, when_found}
use Rattle.slots.specs.Slots.{highest_at}

-- there is an index i, and a test holds there
abbrev pub passes_at : {X : Type 0} → (X → Bool) → List X → ℕ → Bool
passes_at test xs i = when_found false test (slice_get xs i)

-- what is found passes, and nothing beyond it does
pub record Searches {X : Type 0} (test : X → Bool) : Type 0 where
  -- the lowest passes, and none below it
  pub lowest : (xs : List X) (i : ℕ) → lowest_at test xs 0 ≡ Some i → (passes_at test xs i ≡ true) × ((j : ℕ) → j < i → passes_at test xs j ≡ false)
  -- where none is found, none passes
  pub none : (xs : List X) → lowest_at test xs 0 ≡ None → (j : ℕ) → passes_at test xs j ≡ false
  -- the highest passes if any does, and none above it
  pub highest : (xs : List X) (j : ℕ) → passes_at test xs j ≡ true → (passes_at test xs (highest_at test xs 0 0) ≡ true) × (j ≤ highest_at test xs 0 0)
