use Rattle.channel.proofs.Runs.{nothing_new}
use Rattle.channel.proofs.laws.nothing_new.Goals as goal

pub returns : goal.returns
returns g c = nothing_new g.C.Channel.model g.C.Channel.lawful
