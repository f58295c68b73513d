-- What hear is told and answers.
use Rattle.std.specs.Prelude.{◌≡◌}
use Rattle.service.specs.declared.Service as service
use Rattle.channel.specs.declared.Channel as channel
use Rattle.wire.specs.Models.{status_number}
use Rattle.exactly_once.specs.History.{Told, run, aside, Answer, ran, set_aside, again, status}
use Rattle.exactly_once.specs.Houses.{parts}
use Rattle.exactly_once.specs.Steps.{Step}
use Rattle.house.specs.declared.hears.Told.{Told as CodeTold}
use Rattle.house.specs.declared.hears.Told.TheVariants.{Run, Aside as AsideTold}
use Rattle.house.specs.declared.hears.Heard.{Heard}
use Rattle.house.specs.declared.hears.Heard.TheVariants.{Ran, Aside, Again, Status}
use Rattle.house.specs.declared.state.House.{House}
use Rattle.house.specs.Houses.{house_state}

-- what it is told
abbrev pub told_model : CodeTold → Told
told_model Run = run
told_model AsideTold = aside

-- what it answers
abbrev pub heard_answer : Heard → Answer
heard_answer Ran = ran
heard_answer Aside = set_aside
heard_answer Again = again
heard_answer (Status s) = status (status_number s)

-- a house that answered and is as a step says
pub record Stepped {S Q R : Type 0} (s : service.Ghosts S) (q : channel.Ghosts Q) (r : channel.Ghosts R) (after : House S Q R) (answered : Answer) (step : Step (parts s q r)) : Type 0 where
  pub answer : answered ≡ step.answer
  pub state : house_state s q r after ≡ step.after
