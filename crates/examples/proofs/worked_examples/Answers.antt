use Rattle.examples.proofs.Worked as proved
use Rattle.examples.proofs.worked_examples.Goals as goal

pub returns : goal.returns
returns c = proved.cases
