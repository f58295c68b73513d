use Rattle.std.proofs.Common.{◌≡◌, true, false, Some, Ok, Err, sym, ap, ◌∙◌}
use Rattle.std.proofs.lemmas.Result.{err_from_is_err_and}
use Rattle.common.specs.Search.{when_found}
use Rattle.wire.specs.Models.{id_model, refusal_model}
use Rattle.server.specs.Server.{place_of, works_at, run_slot, server_after, content_after}
use Rattle.server.specs.Models.{model, standing_model}
use Rattle.server.proofs.Found.{ok_from, err_from, passed, failed, found_stands, resume_none, resume_by}
use Rattle.server.proofs.Runs.{session_there}
use Rattle.server.proofs.state.Server.resume.Goals as goal
use Rattle.server.proofs.state.Server.resume.Goals.{In_ok-place, In_ok-slot}

place_is : (g : _) (c : In_ok-place g) → place_of (model c.args.self.now) (id_model c.args.id) ≡ Some c.in_ok-place.place
place_is g c = sym c.find.ensures ∙ ok_from c.find.result _ c.in_ok-place.place c.in_ok-place.ensures.value

working : (g : _) (c : In_ok-slot g) → (works_at (standing_model c.args.self.now.trays c.session-session.result.now) c.args.slot ≡ true) × (c.in_ok-slot.slot ≡ c.args.slot)
working g c =
    let v = c.args.self.now in
    passed (works_at (standing_model v.trays c.session-session.result.now) c.args.slot) c.args.slot c.in_ok-slot.slot (sym (c.working_slot.ensures v.trays) ∙ ok_from c.working_slot.result _ c.in_ok-slot.slot c.in_ok-slot.ensures.value)

pub returns-in_err-place : goal.returns-in_err-place
returns-in_err-place g c =
    let S = g.S.Service.model in
    let m = model c.args.self.now in
    let k = g.S.Service.content c.args.service.now in
    let p = err_from_is_err_and c.from_residual.result c.from_residual.ensures.1 in
    let e = err_from c.find.result _ c.in_err-place.field-0.0 c.in_err-place.ensures.value in
    let n = resume_none S k m (id_model c.args.id) c.args.slot (sym c.find.ensures ∙ e.0) in
    record { answer = rw (p.1, p.2) (ap (λ d. Err (refusal_model d)) e.1 ∙ sym n); state = ap (server_after S m) (sym n); content = ap (content_after S k) (sym n) }

pub session-session-requires : goal.session-session-requires
session-session-requires g c = found_stands (model c.args.self.now) (id_model c.args.id) c.in_ok-place.place (place_is g (goal.at.session-session-requires g c).In_ok-place)

pub returns-in_err-slot : goal.returns-in_err-slot
returns-in_err-slot g c =
    let S = g.S.Service.model in
    let v = c.args.self.now in
    let m = model v in
    let k = g.S.Service.content c.args.service.now in
    let s = standing_model v.trays c.session-session.result.now in
    let h = session_there v c.in_ok-place.place c.session-session.result.now c.session-session.ensures in
    let p = err_from_is_err_and c.from_residual-in_err-slot.result c.from_residual-in_err-slot.ensures.1 in
    let e = err_from c.working_slot.result _ c.in_err-slot.field-0.0 c.in_err-slot.ensures.value in
    let idle = failed (works_at s c.args.slot) c.args.slot (sym (c.working_slot.ensures v.trays) ∙ e.0) in
    let n = resume_by S k m c.in_ok-place.place s h (id_model c.args.id) c.args.slot false (place_is g (goal.at.returns-in_err-slot g c).In_ok-place) idle in
    record { answer = rw (p.1, p.2) (ap (λ d. Err (refusal_model d)) e.1 ∙ sym n); state = ap (server_after S m) (sym n); content = ap (content_after S k) (sym n) }

pub answer_at-requires : goal.answer_at-requires
answer_at-requires g c =
    let v = c.args.self.now in
    let s = standing_model v.trays c.session-session.result.now in
    let w = working g (goal.at.answer_at-requires g c).In_ok-slot in
    ap (when_found false (λ r. works_at r c.in_ok-slot.slot)) (session_there v c.in_ok-place.place c.session-session.result.now c.session-session.ensures) ∙ ap (works_at s) w.1 ∙ w.0

pub returns : goal.returns
returns g c =
    let S = g.S.Service.model in
    let v = c.args.self.now in
    let m = model v in
    let k = g.S.Service.content c.args.service.now in
    let id = id_model c.args.id in
    let s = standing_model v.trays c.session-session.result.now in
    let h = session_there v c.in_ok-place.place c.session-session.result.now c.session-session.ensures in
    let at = place_is g (goal.at.returns g c).In_ok-place in
    let w = working g (goal.at.returns g c).In_ok-slot in
    let n = resume_by S k m c.in_ok-place.place s h id c.args.slot true at w.0 in
    let r = c.answer_at.ensures s h at ∙ ap (λ i. Ok (run_slot S k m id i s)) w.1 ∙ sym n in
    record { answer = r; state = ap (server_after S m) r; content = ap (content_after S k) r }
