-- The generator of numbers that look random.
use Rattle.std.specs.Prelude.{ℕ, ◌+◌, ◌*◌, ◌%◌, ◌^◌}

-- a step
abbrev pub stepped : ℕ → ℕ
stepped n = (n * 6364136223846793005 % 2 ^ 64 + 1442695040888963407) % 2 ^ 64
