use Rattle.server.proofs.Manned as proved
use Rattle.server.proofs.laws.stays_manned.Goals as goal

pub returns : goal.returns
returns g c = proved.stays_manned g.S.Service.model
