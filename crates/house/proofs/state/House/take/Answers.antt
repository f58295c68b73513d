use Rattle.std.proofs.Common.{length, take, sym, ap, ◌∙◌, ap₂, rules}
use Rattle.std.specs.Result.{result_ok}
use Rattle.channel.specs.Channel.{laid, take_step}
use Rattle.wire.specs.Wire.{read_reply}
use Rattle.exactly_once.specs.Houses.{parts}
use Rattle.exactly_once.specs.Steps.{Step}
use Rattle.house.specs.Houses.{house_state}
use Rattle.house.proofs.Meets.{meets_by}
use Rattle.house.proofs.Taking.{with_taken, took_by, take_is, reads}
use Rattle.house.proofs.state.House.take.Goals as goal

pub returns-in_err-len : goal.returns-in_err-len
returns-in_err-len g c =
    let P = parts g.S.Service g.Q.Channel g.R.Channel in
    let h = c.args.self.now in
    let m = house_state g.S.Service g.Q.Channel g.R.Channel h in
    let room = length c.args.scratch.now in
    let a = c.in_err-len.ensures in
    let e = take_is P m room ∙ ap (took_by P m (take_step P.replies m.replies room)) (sym a.gave) in
    record {
      met = meets_by e (search rules) (ap (with_taken P m m.terminals) a.after);
      scratch = a.scratch ∙ ap (λ o. laid o c.args.scratch.now) (ap result_ok (sym a.gave) ∙ ap (λ (x : Step P). x.took) (sym e));
    }

pub returns : goal.returns
returns g c =
    let P = parts g.S.Service g.Q.Channel g.R.Channel in
    let h = c.args.self.now in
    let m = house_state g.S.Service g.Q.Channel g.R.Channel h in
    let room = length c.args.scratch.now in
    let a = c.in_ok-len.ensures in
    let b = take c.in_ok-len.len c.take_from.new.scratch in
    let rs = take_step P.replies m.replies room in
    let e = take_is P m room ∙ ap (took_by P m rs) (sym a.gave) ∙ reads P m rs b (read_reply b) in
    record {
      met = meets_by e c.receive.ensures.answer (ap₂ (with_taken P m) c.receive.ensures.after a.after);
      scratch = a.scratch ∙ ap (λ o. laid o c.args.scratch.now) (ap result_ok (sym a.gave) ∙ ap (λ (x : Step P). x.took) (sym e));
    }
