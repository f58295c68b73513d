-- Each answer of the code as an answer in a history.
use Rattle.std.specs.Prelude.{Ok, Err, Result}
use Rattle.wire.specs.declared.refusals.Refusal.{Refusal}
use Rattle.wire.specs.Models.{refusal_model}
use Rattle.exactly_once.specs.History.{Answer}
use Rattle.exactly_once.specs.Steps.{refusal}

-- what was given, or the number and offset of a refusal
abbrev pub answer_by : {X : Type 0} → (X → Answer) → Result X Refusal → Answer
answer_by say (Ok x) = say x
answer_by say (Err e) = refusal (refusal_model e)
