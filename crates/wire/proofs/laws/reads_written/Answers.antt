use Rattle.wire.proofs.Exact.{reads_written}
use Rattle.wire.proofs.laws.reads_written.Goals as goal

pub returns : goal.returns
returns c = reads_written
