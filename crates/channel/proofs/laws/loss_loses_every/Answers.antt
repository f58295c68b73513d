use Rattle.channel.proofs.Runs.{loses_every}
use Rattle.channel.proofs.laws.loss_loses_every.Goals as goal

pub returns : goal.returns
returns g c = loses_every g.C.Channel.model
