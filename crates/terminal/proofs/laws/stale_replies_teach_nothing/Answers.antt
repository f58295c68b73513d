use Rattle.terminal.proofs.Teaching.{stale_replies_teach_nothing}
use Rattle.terminal.proofs.laws.stale_replies_teach_nothing.Goals as goal

pub returns : goal.returns
returns c = stale_replies_teach_nothing
