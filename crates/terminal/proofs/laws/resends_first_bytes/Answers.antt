use Rattle.terminal.proofs.Runs.{resends_first_bytes}
use Rattle.terminal.proofs.laws.resends_first_bytes.Goals as goal

pub returns : goal.returns
returns c = resends_first_bytes
