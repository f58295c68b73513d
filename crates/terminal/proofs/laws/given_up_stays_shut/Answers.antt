use Rattle.terminal.proofs.Teaching.{given_up_stays_shut}
use Rattle.terminal.proofs.laws.given_up_stays_shut.Goals as goal

pub returns : goal.returns
returns c = given_up_stays_shut
