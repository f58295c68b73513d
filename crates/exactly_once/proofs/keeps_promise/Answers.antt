use Rattle.exactly_once.specs.Houses.{parts}
use Rattle.exactly_once.proofs.Kept.{keeps}
use Rattle.exactly_once.proofs.keeps_promise.Goals as goal

-- src/lib.rt: the theorem at these parts, by the laws that each carries
pub returns : goal.returns
returns g c = keeps (parts g.S.Service g.Q.Channel g.R.Channel) (record { service = g.S.Service.lawful; requests = g.Q.Channel.lawful; replies = g.R.Channel.lawful })
