use Rattle.std.proofs.Common.{◌≡◌, ℕ, ◌<◌, length, get_or, set, None, Ok, Err, sym, ap, ◌∙◌, arith, length-set}
use Rattle.std.specs.Option.{option_map}
use Rattle.std.proofs.lemmas.Result.{err_from_is_err_and}
use Rattle.std.proofs.lemmas.List.{map-set, set-set}
use Rattle.wire.specs.Models.{id_model, refusal_model}
use Rattle.server.specs.Server.{after_call, open_slots}
use Rattle.server.specs.Models.{model, session_model}
use Rattle.server.specs.Places.{session_at, change_in, at_front, emptied}
use Rattle.server.proofs.Trays.{session_here, open_slots_is}
use Rattle.server.proofs.Changes.{at_change, sixteen, with_places}
use Rattle.server.proofs.Found.{ok_from, err_from, found_stands, with_found}
use Rattle.server.proofs.Runs.{some_of}
use Rattle.server.proofs.Opened.{close_none, close_there, emptied_open, marked_at, counted_at}
use Rattle.server.proofs.state.Server.close.Goals as goal

pub returns-in_err-place : goal.returns-in_err-place
returns-in_err-place c =
    let m = model c.args.self.now in
    let p = err_from_is_err_and c.from_residual.result c.from_residual.ensures.1 in
    let n = err_from c.find.result _ c.in_err-place.field-0.0 c.in_err-place.ensures.value in
    let e = close_none m (id_model c.args.id) (sym c.find.ensures ∙ n.0) in
    record { answer = rw (p.1, p.2) (ap (λ d. Err (refusal_model d)) n.1 ∙ sym e); state = ap (after_call m) (sym e) }

pub invariant_of-self : goal.invariant_of-self
invariant_of-self c =
    let v = c.args.self.now in
    let n = c.free_slots.new.self in
    let p = c.get.result in
    let h : p < length n.sessions = omega (arith, n.whole, c.get.ensures.below) in
    let shut =
    ap (λ q. open_slots (session_at (model n) q)) c.get.ensures.value
    ∙ ap open_slots (ap (λ q. session_at q c.in_ok-place.place) c.free_slots.ensures ∙ at_change (model v).sessions c.in_ok-place.place (at_front emptied 16))
    ∙ emptied_open (session_at (model v) c.in_ok-place.place) (λ s e. sixteen v.trays v.sessions c.in_ok-place.place s e)
    in
    let none = sym (open_slots_is n.trays (get_or n.sessions p None)) ∙ sym (ap open_slots (session_here n.trays n.sessions p)) ∙ shut in
    record {
      whole = (length-set _ _ _ ∙ n.whole.0, n.whole.1);
      marked = marked_at n.sessions n.trays p None h n.marked (λ i k e. absurd (let z : ◌≡◌ {A = ℕ} 0 1 = cc in omega arith));
      counted = counted_at n.sessions _ p None h n.counted (sym none);
    }

pub returns : goal.returns
returns c =
    let v = c.args.self.now in
    let m = model v in
    let n = c.free_slots.new.self in
    let place = c.in_ok-place.place in
    let id = id_model c.args.id in
    let f = at_front emptied 16 in
    let at = sym c.find.ensures ∙ ok_from c.find.result _ place c.in_ok-place.ensures.value in
    let s = some_of (session_at m place) (found_stands m id place at) in
    let gone =
    ap (with_places (model n)) (map-set (session_model n.trays) n.sessions c.get.result None)
    ∙ ap (λ q. with_places q (set q.sessions c.get.result None)) c.free_slots.ensures
    ∙ ap (λ q. with_places m (set (change_in m.sessions place f) q None)) c.get.ensures.value
    ∙ ap (with_places m) (set-set m.sessions place (option_map f (session_at m place)) None)
    ∙ sym (with_found m id place None at)
    in
    let e = ap Ok gone ∙ sym (close_there m id place s.0 at s.1) in
    record { answer = e; state = ap (after_call m) e }
