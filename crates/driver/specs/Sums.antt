-- Sums as the driver keeps them.
use Rattle.std.specs.Prelude.{ℕ, ◌+◌, ◌-◌, ◌^◌, min}

-- a sum stops at the greatest number of 64 bits
abbrev pub sum : ℕ → ℕ → ℕ
sum a b = min (a + b) (2 ^ 64 - 1)

-- a count stops at the greatest number of 32 bits
abbrev pub counted : ℕ → ℕ
counted n = min (n + 1) (2 ^ 32 - 1)
