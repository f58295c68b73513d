use Rattle.wire.proofs.Bounded.{body_bounds}
use Rattle.wire.proofs.laws.body_bounds.Goals as goal

pub returns : goal.returns
returns c = body_bounds
