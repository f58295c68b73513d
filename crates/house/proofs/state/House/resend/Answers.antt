use Rattle.std.proofs.Common.{◌≡◌, length, ap, ◌∙◌, sym, rules}
use Rattle.terminal.specs.Models.{terminal_model}
use Rattle.terminal.specs.Terminal.{resend_sends}
use Rattle.exactly_once.specs.History.{ok}
use Rattle.house.specs.Answers.{answer_by}
use Rattle.house.specs.Sends.{SentBy}
use Rattle.house.proofs.Meets.{meets}
use Rattle.house.proofs.Sending.{resend_stays}
use Rattle.house.proofs.state.House.resend.Given.{Over}
use Rattle.house.proofs.state.House.resend.Goals as goal
use Rattle.house.proofs.state.House.resend.Goals.{After-send}

sent : (g : Over) (c : After-send g) → SentBy g.S.Service g.Q.Channel g.R.Channel c.args.self.now c.send.new.self c.args.scratch.now c.send.new.scratch c.args.terminal (λ _. ok) (λ t. resend_sends t c.args.slot) c.send.result
sent g c = c.send.ensures (λ t. resend_sends t c.args.slot) (λ _. ok) (record {
  wrote = λ t t' b b' r met. search rules;
  after = λ t t' b b' r met. let stays : t'.now ≡ t.now = search rules in ap terminal_model stays ∙ resend_stays (terminal_model t.now) (length b.now) c.args.slot;
})

pub returns-in_err-send : goal.returns-in_err-send
returns-in_err-send g c =
    let a = sent g (goal.at.returns-in_err-send g c).After-send in
    record { met = meets (search rules ∙ a.answer) a.state; scratch = a.put }

pub returns : goal.returns
returns g c =
    let a = sent g (goal.at.returns g c).After-send in
    record { met = meets (ap (answer_by (λ _. ok)) (sym c.in_ok-send.was) ∙ a.answer) a.state; scratch = a.put }
