-- What the code's asks mean.
use Rattle.std.specs.Prelude.{Some, None, Option}
use Rattle.tree.specs.Tree.{TreeAsk, make, remove, move, look, unfit}
use Rattle.tree.specs.Kinds.{kind_letter}
use Rattle.tree.specs.declared.body.Ask.{Ask}
use Rattle.tree.specs.declared.body.Ask.TheVariants as ask

-- what was read of a body; none is of no form
abbrev pub ask_model : Option Ask → TreeAsk
ask_model None = unfit
ask_model (Some (ask.Make parent node kind name)) = make parent node (kind_letter kind) name
ask_model (Some (ask.Remove node)) = remove node
ask_model (Some (ask.Move node parent name)) = move node parent name
ask_model (Some (ask.Look parent name)) = look parent name
