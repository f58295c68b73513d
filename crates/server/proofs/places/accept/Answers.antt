use Rattle.std.proofs.Common.{◌≡◌, ◌<◌, map, length, get_or, set, Some, None, refl, sym, ap, ◌∙◌, arith}
use Rattle.std.proofs.lemmas.List.{get_or_default, get_or-set_same}
use Rattle.wire.specs.Models.{request_model}
use Rattle.server.specs.declared.records.Tray.{Tray}
use Rattle.server.specs.declared.records.Slot.{Slot}
use Rattle.server.specs.Server.{SlotM, accepted}
use Rattle.server.specs.Trays.{no_tray, no_slot, tray_at, tray_in, tray_of}
use Rattle.server.specs.Models.{session_model, slot_model, slot_in}
use Rattle.server.specs.Places.{change_in, at_slot}
use Rattle.server.proofs.Trays.{kept, held_state}
use Rattle.server.proofs.places.accept.Goals as goal

pub returns : goal.returns
returns c =
    let ss = c.args.sessions.now in
    let ts = c.args.trays.now in
    let s = c.in-Some.session in
    let q = request_model c.args.request in
    let p = c.get.result in
    let i = c.get-i.result in
    let k = c.get-2.result in
    let x = get_or s.slots i c.index-session-i.result in
    let y = c.started.result in
    let d = c.index-trays-get.result in
    let was = get_or ts k d in
    let t : Tray = c.put_request.new.self in
    let hi : i < length s.slots = omega (arith, s.whole, c.get-i.ensures.below) in
    let hs = get_or_default ss p None _ (omega (arith, c.get.ensures.below, c.requires.whole.0)) ∙ c.in-Some.is in
    let hk : k < length ts = omega (arith, c.get-2.ensures.below, c.requires.whole.1) in
    let old : get_or s.slots i no_slot ≡ x = get_or_default s.slots i no_slot c.index-session-i.result hi in
    let has : x.tray ≡ Some k = c.in-Some-tray.is ∙ ap Some (sym c.get-2.ensures.value) in
    let hx = ap (λ (z : Slot). z.tray) old ∙ has in
    let here : y.tray ≡ Some k = c.started.ensures.tray ∙ has in
    let own = ap (λ (u : Tray). u.owner) c.put_request.ensures ∙ ap (λ (u : Tray). u.owner) (get_or_default ts k d no_tray hk) ∙ c.requires.owned.0 p i k (ap (λ r. tray_in r i) hs ∙ hx) in
    let f : SlotM → SlotM = λ z. accepted z q in
    let e =
    ap (λ o. slot_model (tray_at (set ts k t) o) y) here
    ∙ ap (λ u. slot_model u y) (get_or-set_same ts k t no_tray hk ∙ c.put_request.ensures)
    ∙ c.started.ensures.value was
    ∙ ap (λ u. f (slot_model u x)) (get_or_default ts k d no_tray hk)
    ∙ ap (λ o. f (slot_model (tray_at ts o) x)) (sym has)
    ∙ ap (λ z. f (slot_in ts z)) (sym old)
    in
    record {
      owned = kept ss ts p i k s _ y t hs hi c.put.ensures c.requires.owned hk hx here own;
      state =
          held_state ss ts p i k s _ y t hs hi c.put.ensures c.requires.owned hk hx refl refl f e
          ∙ (λ u. change_in (map (session_model ts) ss) (c.get.ensures.value u) (at_slot f (c.get-i.ensures.value u)));
    }
