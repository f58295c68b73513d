use Rattle.std.proofs.Common.{length, take, sym, ap, ◌∙◌, rules}
use Rattle.std.specs.Result.{result_ok}
use Rattle.channel.specs.Channel.{laid, take_step}
use Rattle.exactly_once.specs.Houses.{parts}
use Rattle.exactly_once.specs.Steps.{Step, hear_request}
use Rattle.house.specs.Hears.{told_model}
use Rattle.house.specs.Houses.{house_state}
use Rattle.house.proofs.Hearing.{with_requests, heard, hear_is, hear_took}
use Rattle.house.proofs.Meets.{meets_by}
use Rattle.house.proofs.state.House.hear.Goals as goal

pub returns-in_err-len : goal.returns-in_err-len
returns-in_err-len g c =
    let P = parts g.S.Service g.Q.Channel g.R.Channel in
    let h = c.args.self.now in
    let m = house_state g.S.Service g.Q.Channel g.R.Channel h in
    let room = length c.args.scratch.now in
    let told = told_model c.args.told in
    let a = c.in_err-len.ensures in
    let e = hear_is P m told room ∙ ap (heard P m told (take_step P.requests m.requests room)) (sym a.gave) in
    record {
      met = meets_by e (search rules) (ap (with_requests P m) a.after);
      scratch = a.scratch ∙ ap (λ o. laid o c.args.scratch.now) (ap result_ok (sym a.gave) ∙ ap (λ (x : Step P). x.took) (sym e));
    }

pub returns : goal.returns
returns g c =
    let P = parts g.S.Service g.Q.Channel g.R.Channel in
    let h = c.args.self.now in
    let m = house_state g.S.Service g.Q.Channel g.R.Channel h in
    let room = length c.args.scratch.now in
    let told = told_model c.args.told in
    let a = c.in_ok-len.ensures in
    let b = take c.in_ok-len.len c.take_from.new.scratch in
    let n = with_requests P m (g.Q.Channel.state c.take_from.new.channel) in
    let e = hear_is P m told room ∙ ap (heard P m told (take_step P.requests m.requests room)) (sym a.gave) ∙ ap (λ q. hear_request P (with_requests P m q) told b) (sym a.after) in
    record {
      met = meets_by e c.serve.ensures.answer c.serve.ensures.state;
      scratch = a.scratch ∙ ap (λ o. laid o c.args.scratch.now) (ap result_ok (sym a.gave) ∙ sym (ap (λ (x : Step P). x.took) e ∙ hear_took P n b told));
    }
