use Rattle.std.proofs.Common.{rules}
use Rattle.tree.proofs.Bodies.{asks_none}
use Rattle.tree.proofs.body.Ask.read.Goals as goal
use Rattle.tree.proofs.body.Ask.read.Goals.{in_default-via-then-body-lt2, in_default-via-else-body-lt2+then-body-lt3+in_default-1, in_default-via-else-body-lt2+else-body-lt3+then-body-lt4+in_default-1, in_default-via-else-body-lt2+else-body-lt3+else-body-lt4+in_default-1}

pub returns-in_default : goal.returns-in_default
returns-in_default c = elim c.in_default.branch [
  | in_default-via-then-body-lt2 w ↦ search rules
  | in_default-via-else-body-lt2+then-body-lt3+in_default-1 w ↦ search rules
  | in_default-via-else-body-lt2+else-body-lt3+then-body-lt4+in_default-1 w ↦ search rules
  | in_default-via-else-body-lt2+else-body-lt3+else-body-lt4+in_default-1 w ↦ asks_none c.args.body.now (search rules) (search rules) (search rules) (search rules)
]
