use Rattle.exactly_once.specs.Houses.{parts}
use Rattle.exactly_once.proofs.Kept.{keeps}
use Rattle.house.proofs.state.House.inspect.Goals as goal

pub returns-clause-keeps : goal.returns-clause-keeps
returns-clause-keeps g c =
    λ first h l. keeps (parts g.S.Service g.Q.Channel g.R.Channel) (record { service = g.S.Service.lawful; requests = g.Q.Channel.lawful; replies = g.R.Channel.lawful }) first h _ l
