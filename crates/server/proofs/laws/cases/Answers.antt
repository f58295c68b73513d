use Rattle.server.proofs.Worked as proved
use Rattle.server.proofs.laws.cases.Goals as goal

pub returns : goal.returns
returns c = proved.cases
