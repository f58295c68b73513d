use Rattle.server.proofs.Repeated as proved
use Rattle.server.proofs.laws.repeats.Goals as goal

pub returns : goal.returns
returns g c = proved.repeated g.S.Service.model
