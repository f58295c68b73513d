use Rattle.std.proofs.Common.{Err, sym, ap, ◌∙◌}
use Rattle.std.proofs.lemmas.Result.{err_from_is_err_and}
use Rattle.wire.specs.Models.{id_model, refusal_model}
use Rattle.server.specs.Server.{after_call}
use Rattle.server.specs.Models.{model}
use Rattle.server.specs.Places.{session_at}
use Rattle.server.proofs.Found.{ok_from, err_from, found_stands}
use Rattle.server.proofs.Runs.{some_of}
use Rattle.server.proofs.Opened.{retarget_none, retarget_there}
use Rattle.server.proofs.state.Server.retarget.Goals as goal

pub returns-in_err-place : goal.returns-in_err-place
returns-in_err-place c =
    let m = model c.args.self.now in
    let p = err_from_is_err_and c.from_residual.result c.from_residual.ensures.1 in
    let n = err_from c.find.result _ c.in_err-place.field-0.0 c.in_err-place.ensures.value in
    let e = retarget_none m (id_model c.args.id) c.args.target (sym c.find.ensures ∙ n.0) in
    record { answer = rw (p.1, p.2) (ap (λ d. Err (refusal_model d)) n.1 ∙ sym e); state = ap (after_call m) (sym e) }

pub retarget_at-requires : goal.retarget_at-requires
retarget_at-requires c = found_stands (model c.args.self.now) (id_model c.args.id) c.in_ok-place.place (sym c.find.ensures ∙ ok_from c.find.result _ c.in_ok-place.place c.in_ok-place.ensures.value)

pub returns : goal.returns
returns c =
    let m = model c.args.self.now in
    let id = id_model c.args.id in
    let at = sym c.find.ensures ∙ ok_from c.find.result _ c.in_ok-place.place c.in_ok-place.ensures.value in
    let s = some_of (session_at m c.in_ok-place.place) (found_stands m id c.in_ok-place.place at) in
    let e = retarget_there m id c.args.target c.in_ok-place.place s.0 at s.1 in
    let r = c.retarget_at.ensures in
    record { answer = r.answer s.0 s.1 id at ∙ sym e; state = r.state s.0 s.1 id at ∙ ap (after_call m) (sym e) }
