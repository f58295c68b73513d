-- The slot table: what is asked of a list of records, at both ends alike.
use Rattle.std.specs.Prelude.{ℕ, ◌+◌, Bool, cond, List, [], ◌∷◌, ◌++◌, map, take, drop, nat_lt}

-- the highest index, counted from i, at which a test holds, or else `best`
abbrev pub highest_at : {X : Type 0} → (X → Bool) → List X → ℕ → ℕ → ℕ
highest_at test [] i best = best
highest_at test (x ∷ xs) i best = highest_at test xs (i + 1) (cond (test x) i best)

-- the first n changed
abbrev pub front_changed : {X : Type 0} → (X → X) → ℕ → List X → List X
front_changed change n xs = map change (take n xs) ++ drop n xs

-- the number of the call behind the one with that number
abbrev pub next_number : ℕ → ℕ
next_number n = n + 1

-- there is such a number
abbrev pub has_next : ℕ → Bool
has_next n = nat_lt n 4294967295
