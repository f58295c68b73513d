use Rattle.std.proofs.Common.{length, sym, refl, ap, ◌∙◌, ap₂, rules}
use Rattle.channel.specs.Channel.{laid}
use Rattle.wire.specs.Models.{id_model, refusal_model}
use Rattle.server.specs.Models.{model}
use Rattle.server.specs.Server.{ServerM, server_after, content_after}
use Rattle.exactly_once.specs.Houses.{parts}
use Rattle.exactly_once.specs.Steps.{Model, Step}
use Rattle.house.specs.Houses.{house_state}
use Rattle.house.proofs.Hearing.{resume_short, resume_none, resumed}
use Rattle.house.proofs.Meets.{meets_by}
use Rattle.house.proofs.state.House.resume.Goals as goal

pub returns-in_err-has_room : goal.returns-in_err-has_room
returns-in_err-has_room g c =
    let P = parts g.S.Service g.Q.Channel g.R.Channel in
    let h = c.args.self.now in
    let m = house_state g.S.Service g.Q.Channel g.R.Channel h in
    let e = resume_short P m c.args.terminal c.args.slot (length c.args.scratch.now) (search rules) in
    record {
      met = meets_by e (search rules) refl;
      scratch = ap (λ (x : Step P). laid x.put c.args.scratch.now) (sym e);
    }

pub returns-in_err-id : goal.returns-in_err-id
returns-in_err-id g c =
    let P = parts g.S.Service g.Q.Channel g.R.Channel in
    let h = c.args.self.now in
    let m = house_state g.S.Service g.Q.Channel g.R.Channel h in
    let e = resume_none P m c.args.terminal c.args.slot (length c.args.scratch.now) (refusal_model c.in_err-id.field-0.0) (search rules) c.in_err-id.ensures in
    record {
      met = meets_by e (search rules) refl;
      scratch = ap (λ (x : Step P). laid x.put c.args.scratch.now) (sym e);
    }

pub returns-in_err-answer : goal.returns-in_err-answer
returns-in_err-answer g c =
    let P = parts g.S.Service g.Q.Channel g.R.Channel in
    let h = c.args.self.now in
    let m = house_state g.S.Service g.Q.Channel g.R.Channel h in
    let a = c.in_err-answer.ensures in
    let e = resumed P m c.args.terminal c.args.slot (length c.args.scratch.now) (id_model c.in_ok-id.id) c.min-slot.result _ (search rules) c.in_ok-id.ensures c.min-slot.ensures a.answer in
    let ended : ServerM → P.service.Content → Model P = λ v k. record { server = v; terminals = m.terminals; content = k; requests = m.requests; replies = m.replies } in
    record {
      met = meets_by e (search rules) (ap₂ ended (a.state ∙ ap (server_after P.service m.server) (sym a.answer)) (a.content ∙ ap (content_after P.service m.content) (sym a.answer)));
      scratch = ap (λ (x : Step P). laid x.put c.args.scratch.now) (sym e);
    }

pub returns : goal.returns
returns g c =
    let P = parts g.S.Service g.Q.Channel g.R.Channel in
    let h = c.args.self.now in
    let m = house_state g.S.Service g.Q.Channel g.R.Channel h in
    let n = model c.resume.new.self in
    let k = g.S.Service.content c.resume.new.service in
    let e = resumed P m c.args.terminal c.args.slot (length c.args.scratch.now) (id_model c.in_ok-id.id) c.min-slot.result _ (search rules) c.in_ok-id.ensures c.min-slot.ensures c.in_ok-answer.ensures.answer in
    let put : P.replies.State → Model P = λ x. record { server = n; terminals = m.terminals; content = k; requests = m.requests; replies = x } in
    record {
      met = meets_by e refl (ap put c.put_answer.ensures.after);
      scratch = c.put_answer.ensures.buffer ∙ ap (λ (x : Step P). laid x.put c.args.scratch.now) (sym e);
    }
