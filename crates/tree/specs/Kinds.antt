-- The code's kinds: the letter of each.
use Rattle.std.specs.Prelude.{ℕ, cond, Ok, Err, Result, ◌==◌}
use Rattle.tree.specs.declared.nodes.kinds.Kind.{Kind}
use Rattle.tree.specs.declared.nodes.kinds.Kind.TheVariants.{Folder, Card}
use Rattle.tree.specs.declared.nodes.kinds.NoKind.{NoKind}

-- the letter of a kind
abbrev pub kind_letter : Kind → ℕ
kind_letter Folder = 100
kind_letter Card = 102

-- the kind of a letter
abbrev pub read_kind : ℕ → Result Kind NoKind
read_kind k = cond (k == 100) (Ok Folder) (cond (k == 102) (Ok Card) (Err (record { 0 = k })))
