use Rattle.channel.proofs.Runs.{gives_at_most_twice, gives_twice}
use Rattle.channel.proofs.laws.double_gives_twice.Goals as goal

pub returns : goal.returns
returns c = record { at_most = gives_at_most_twice; exactly = gives_twice }
