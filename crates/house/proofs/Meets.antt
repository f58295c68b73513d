-- A call that answers and leaves what its step says goes on with every history.
use Rattle.std.proofs.Common.{◌≡◌, sym, ap, ◌∙◌}
use Rattle.service.specs.declared.Service as service
use Rattle.channel.specs.declared.Channel as channel
use Rattle.exactly_once.specs.History.{Asked, Answer}
use Rattle.exactly_once.specs.Houses.{parts}
use Rattle.exactly_once.specs.Lived.{met}
use Rattle.exactly_once.specs.Steps.{Step, act}
use Rattle.house.specs.declared.state.House.{House}
use Rattle.house.specs.Houses.{house_state, Met}

module _ {S Q R : Type 0} {s : service.Ghosts S} {q : channel.Ghosts Q} {r : channel.Ghosts R} {before after : House S Q R} {asked : Asked} {answered : Answer} where
  pub meets : answered ≡ (act (parts s q r) (house_state s q r before) asked).answer → house_state s q r after ≡ (act (parts s q r) (house_state s q r before) asked).after → Met s q r before after asked answered
  meets answer state = record { answer = answer; state = state; lives = λ first h l. met asked l state }

  -- by the step, written out
  pub meets_by : {step : Step (parts s q r)} → act (parts s q r) (house_state s q r before) asked ≡ step → answered ≡ step.answer → house_state s q r after ≡ step.after → Met s q r before after asked answered
  meets_by e answer state =
      meets (answer ∙ ap (λ (x : Step (parts s q r)). x.answer) (sym e)) (state ∙ ap (λ (x : Step (parts s q r)). x.after) (sym e))
