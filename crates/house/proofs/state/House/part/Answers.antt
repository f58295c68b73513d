use Rattle.std.proofs.Common.{rules}
use Rattle.terminal.specs.Terminal.{part_sends}
use Rattle.exactly_once.specs.History.{ordered}
use Rattle.house.specs.Sends.{SentBy}
use Rattle.house.proofs.Meets.{meets}
use Rattle.house.proofs.state.House.part.Given.{Over}
use Rattle.house.proofs.state.House.part.Goals as goal
use Rattle.house.proofs.state.House.part.Goals.{After-send}

sent : (g : Over) (c : After-send g) → SentBy g.S.Service g.Q.Channel g.R.Channel c.args.self.now c.send.new.self c.args.scratch.now c.send.new.scratch c.args.terminal ordered (λ t. part_sends t c.args.slot) c.send.result
sent g c = c.send.ensures (λ t. part_sends t c.args.slot) ordered (record { wrote = λ t t' b b' r met. search rules; after = λ t t' b b' r met. search rules })

pub returns : goal.returns
returns g c =
    let a = sent g (goal.at.returns g c).After-send in
    record { met = meets a.answer a.state; scratch = a.put }
