-- What the server's calls answer, in the words of the rules.
use Rattle.std.specs.Prelude.{ℕ, replicate, None, Ok, Err, Result}
use Rattle.wire.specs.Wire.{Refusal}
use Rattle.wire.specs.Models.{id_model, refusal_model}
use Rattle.wire.specs.declared.messages.SessionId.{SessionId as CodeId}
use Rattle.wire.specs.declared.refusals.Refusal.{Refusal as CodeRefusal}
use Rattle.service.specs.Service.{ServiceModel}
use Rattle.server.specs.declared.orders.Call.{Call}
use Rattle.server.specs.declared.orders.WorkOrder.{WorkOrder}
use Rattle.server.specs.declared.answers.Answer.{Answer}
use Rattle.server.specs.declared.answers.Served.{Served as CodeServed}
use Rattle.server.specs.declared.answers.Served.TheVariants.{Says, Old, Work as Order}
use Rattle.server.specs.Server.{ServerM, Work, Served, fault, says, old, work, Opening, Run}
use Rattle.server.specs.Models.{answer_model}

-- the call that a work order names
abbrev pub call_model : Call → Work
call_model c = record { id = id_model c.id; slot = c.slot; number = c.number }

-- a work order
abbrev pub work_model : WorkOrder → Work
work_model w = call_model w.call

-- what serve gives
abbrev pub served_model : Result CodeServed CodeRefusal → Served
served_model (Ok (Says a)) = says (answer_model a)
served_model (Ok (Old a)) = old (answer_model a)
served_model (Ok (Order w)) = work (work_model w)
served_model (Err e) = fault (refusal_model e)

-- a server as made
abbrev pub new_server : ℕ → ℕ → ServerM
new_server boot count = record { boot = boot; count = count; sessions = replicate 8 None }

-- what open answers, with the server after it
abbrev pub opening : Result CodeId CodeRefusal → ServerM → Result Opening Refusal
opening (Ok id) m = Ok (record { id = id_model id; after = m })
opening (Err e) m = Err (refusal_model e)

-- the server after an open
abbrev pub after_opening : ServerM → Result Opening Refusal → ServerM
after_opening m (Ok o) = o.after
after_opening m (Err e) = m

-- what retarget and close answer, with the server after them
abbrev pub calling : Result (Unit {0}) CodeRefusal → ServerM → Result ServerM Refusal
calling (Ok u) m = Ok m
calling (Err e) m = Err (refusal_model e)

module _ (S : ServiceModel) where
  -- what a run answers, with the server and the service's content after it
  abbrev pub running : Result Answer CodeRefusal → ServerM → S.Content → Result (Run S) Refusal
  running (Ok a) m k = Ok (record { reply = answer_model a; server = m; content = k })
  running (Err e) m k = Err (refusal_model e)
