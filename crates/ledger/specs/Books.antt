-- What the ledger's book tells.
use Rattle.std.specs.Prelude.{ℕ, cond, List, Some, None, Option, nat_lt, slice_index}

-- what a bin holds, if there is such a bin
abbrev pub held : List ℕ → ℕ → Option ℕ
held bins bin = cond (nat_lt 31 bin) None (Some (slice_index bins bin))
