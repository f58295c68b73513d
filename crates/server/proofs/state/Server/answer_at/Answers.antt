use Rattle.std.proofs.Common.{◌<◌, length, get_or, Some, Ok, sym, ap, ◌∙◌, arith}
use Rattle.std.proofs.lemmas.List.{get_or_default}
use Rattle.wire.specs.Models.{id_model}
use Rattle.server.specs.declared.records.Slot.{Slot}
use Rattle.server.specs.Server.{SlotM, slot_at, outcome_reply, finished, with_slot, with_session}
use Rattle.server.specs.Models.{model}
use Rattle.server.specs.Trays.{no_slot}
use Rattle.server.proofs.Trays.{slot_here}
use Rattle.server.proofs.Runs.{session_is}
use Rattle.server.proofs.Found.{changed_found}
use Rattle.server.proofs.state.Server.answer_at.Goals as goal

pub returns : goal.returns
returns g c = λ s e q.
    let m = model c.args.self.now in
    let p = c.args.spot.now.place in
    let i = c.args.spot.now.slot in
    let id = id_model c.args.id in
    let o = c.run_at-outcome.result in
    let a = c.run_at-outcome.ensures in
    let r = c.session.result.now in
    let h : c.get-2.result < length r.slots = omega (arith, r.whole, c.get-2.ensures.below) in
    let n =
    ap (λ (y : Slot). y.number) (get_or_default r.slots c.get-2.result _ no_slot h)
    ∙ ap (λ k. (get_or r.slots k no_slot).number) c.get-2.ensures.value
    ∙ sym (ap (λ (y : SlotM). y.number) (slot_here c.args.self.now.trays r i))
    ∙ sym (ap (λ q. (slot_at q i).number) (session_is c.args.self.now p r c.session.ensures s e))
    in
    let f = a.outcome s e in
    let reply =
    c.done.ensures
    ∙ (λ u. outcome_reply id (n u) (c.get.ensures.value u) (f.0 u) (f.1 u) (f.2 u))
    in
    let server =
    a.state
    ∙ changed_found m id p s (λ r. with_slot r i (finished r i o.body)) q e
    ∙ ap (λ b. with_session m id (Some (with_slot s i (finished s i b)))) f.2
    in
    (λ u. Ok (record { reply = reply u; server = server u; content = a.content s e u }))
