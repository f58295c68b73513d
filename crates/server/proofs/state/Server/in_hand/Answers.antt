use Rattle.std.proofs.Common.{◌≡◌, ◌<◌, length, true, false, ◌&&◌, eqb, get_or, Some, Err, sym, ap, ◌∙◌, arith}
use Rattle.std.proofs.lemmas.Result.{err_from_is_err_and}
use Rattle.std.proofs.lemmas.List.{get_or_default}
use Rattle.std.proofs.lemmas.Bool.{ne_eqb, eq-eqb}
use Rattle.common.specs.Search.{when_found}
use Rattle.wire.specs.Models.{id_model, refusal_model}
use Rattle.server.specs.declared.records.Slot.{Slot}
use Rattle.server.specs.Server.{SlotM, place_of, slot_at, works_at, is_in_hand}
use Rattle.server.specs.Trays.{no_slot}
use Rattle.server.specs.Calls.{call_model}
use Rattle.server.specs.Models.{model, standing_model}
use Rattle.server.proofs.Trays.{slot_here}
use Rattle.server.proofs.Found.{ok_from, err_from, passed, failed, found_stands, aside_none, aside_by}
use Rattle.server.proofs.Runs.{session_there}
use Rattle.server.proofs.state.Server.in_hand.Goals as goal
use Rattle.server.proofs.state.Server.in_hand.Goals.{In_ok-place, After-index-session-get}

place_is : (c : In_ok-place) → place_of (model c.args.self.now) (id_model c.args.call.id) ≡ Some c.in_ok-place.place
place_is c = sym c.find.ensures ∙ ok_from c.find.result _ c.in_ok-place.place c.in_ok-place.ensures.value

pub session-session-requires : goal.session-session-requires
session-session-requires c = found_stands (model c.args.self.now) (id_model c.args.call.id) c.in_ok-place.place (place_is (goal.at.session-session-requires c).In_ok-place)

pub returns-in_err-place-clause-answer : goal.returns-in_err-place-clause-answer
returns-in_err-place-clause-answer c =
    let p = err_from_is_err_and c.from_residual.result c.from_residual.ensures.1 in
    let n = err_from c.find.result _ c.in_err-place.field-0.0 c.in_err-place.ensures.value in
    rw (p.1, p.2) (ap (λ d. Err (refusal_model d)) n.1 ∙ sym (aside_none (model c.args.self.now) (call_model c.args.call) (sym c.find.ensures ∙ n.0)))

pub returns-in_err-slot-clause-answer : goal.returns-in_err-slot-clause-answer
returns-in_err-slot-clause-answer c =
    let v = c.args.self.now in
    let w = call_model c.args.call in
    let place = c.in_ok-place.place in
    let s = standing_model v.trays c.session-session.result.now in
    let p = err_from_is_err_and c.from_residual-in_err-slot.result c.from_residual-in_err-slot.ensures.1 in
    let n = err_from c.working_slot.result _ c.in_err-slot.field-0.0 c.in_err-slot.ensures.value in
    let idle = failed (works_at s w.slot) w.slot (sym (c.working_slot.ensures v.trays) ∙ n.0) in
    rw (p.1, p.2) (ap (λ d. Err (refusal_model d)) n.1 ∙ sym (aside_by (model v) place s w false (session_there v place c.session-session.result.now c.session-session.ensures) (place_is (goal.at.returns-in_err-slot-clause-answer c).In_ok-place) (ap (λ b. b && eqb (slot_at s w.slot).number w.number) idle)))

working : (c : After-index-session-get) → (works_at (standing_model c.args.self.now.trays c.session-session.result.now) c.args.call.slot ≡ true) × (c.in_ok-slot.slot ≡ c.args.call.slot)
working c =
    let v = c.args.self.now in
    passed (works_at (standing_model v.trays c.session-session.result.now) c.args.call.slot) c.args.call.slot c.in_ok-slot.slot (sym (c.working_slot.ensures v.trays) ∙ ok_from c.working_slot.result _ c.in_ok-slot.slot c.in_ok-slot.ensures.value)

numbered : (c : After-index-session-get) → (get_or c.session-session.result.now.slots c.get.result c.index-session-get.result).number ≡ (slot_at (standing_model c.args.self.now.trays c.session-session.result.now) c.args.call.slot).number
numbered c =
    let s = c.session-session.result.now in
    let h : c.get.result < length s.slots = omega (arith, s.whole, c.get.ensures.below) in
    ap (λ (y : Slot). y.number) (get_or_default s.slots c.get.result _ no_slot h)
    ∙ ap (λ n. (get_or s.slots n no_slot).number) (c.get.ensures.value ∙ (working c).1)
    ∙ sym (ap (λ (y : SlotM). y.number) (slot_here c.args.self.now.trays s c.args.call.slot))

pub returns-then-session-get-clause-answer : goal.returns-then-session-get-clause-answer
returns-then-session-get-clause-answer c =
    let v = c.args.self.now in
    let w = call_model c.args.call in
    let s = standing_model v.trays c.session-session.result.now in
    let d = (goal.at.returns-then-session-get-clause-answer c).After-index-session-get in
    let g : is_in_hand s w ≡ false = (λ u. (working d).0 u && ne_eqb (slot_at s w.slot).number w.number (λ e. c.if-session-get.true (numbered d ∙ e)) u) in
    sym (aside_by (model v) c.in_ok-place.place s w false (session_there v c.in_ok-place.place c.session-session.result.now c.session-session.ensures) (place_is (goal.at.returns-then-session-get-clause-answer c).In_ok-place) g)

pub returns : goal.returns
returns c =
    let v = c.args.self.now in
    let w = call_model c.args.call in
    let s = standing_model v.trays c.session-session.result.now in
    let d = (goal.at.returns c).After-index-session-get in
    let g : is_in_hand s w ≡ true = (λ u. (working d).0 u && eq-eqb (slot_at s w.slot).number w.number (sym (numbered d) ∙ c.if-session-get.false) u) in
    let h = session_there v c.in_ok-place.place c.session-session.result.now c.session-session.ensures in
    let at = place_is (goal.at.returns c).In_ok-place in
    record {
      answer = sym (aside_by (model v) c.in_ok-place.place s w true h at g);
      there = (at, (working d).1, ap (when_found false (λ r. is_in_hand r w)) h ∙ g);
    }
