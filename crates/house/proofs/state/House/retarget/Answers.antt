use Rattle.std.proofs.Common.{refl, rules}
use Rattle.wire.specs.Models.{id_model, refusal_model}
use Rattle.server.specs.Models.{model}
use Rattle.server.specs.Server.{retarget_session}
use Rattle.exactly_once.specs.Houses.{parts}
use Rattle.exactly_once.specs.Steps.{server_by, retarget_step}
use Rattle.house.specs.Houses.{house_state}
use Rattle.house.proofs.Calling.{place_none, place_some, called}
use Rattle.house.proofs.Meets.{meets_by}
use Rattle.house.proofs.state.House.retarget.Goals as goal

pub returns-in_err-id : goal.returns-in_err-id
unfolding retarget_step
returns-in_err-id g c =
    let P = parts g.S.Service g.Q.Channel g.R.Channel in
    let h = c.args.self.now in
    let m = house_state g.S.Service g.Q.Channel g.R.Channel h in
    let e = place_none P m (λ id. server_by P m (retarget_session m.server id c.args.target)) c.args.terminal (refusal_model c.in_err-id.field-0.0) c.in_err-id.ensures in
    meets_by e (search rules) refl

pub returns : goal.returns
unfolding retarget_step
returns g c =
    let P = parts g.S.Service g.Q.Channel g.R.Channel in
    let h = c.args.self.now in
    let m = house_state g.S.Service g.Q.Channel g.R.Channel h in
    let e = place_some P m (λ id. server_by P m (retarget_session m.server id c.args.target)) c.args.terminal (id_model c.in_ok-id.id) c.in_ok-id.ensures in
    let x = called P m c.retarget.result (model c.retarget.new.self) _ c.retarget.ensures.answer c.retarget.ensures.state in
    meets_by e x.answer x.state
