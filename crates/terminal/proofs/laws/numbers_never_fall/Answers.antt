use Rattle.terminal.proofs.Runs.{numbers_never_fall}
use Rattle.terminal.proofs.laws.numbers_never_fall.Goals as goal

pub returns : goal.returns
returns c = numbers_never_fall
