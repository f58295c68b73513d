use Rattle.std.proofs.Common.{◌<◌, map, length, get_or, set, Some, None, refl, sym, ap, ◌∙◌, arith}
use Rattle.std.proofs.lemmas.List.{get_or_default}
use Rattle.server.specs.declared.records.Slot.{Slot}
use Rattle.server.specs.Trays.{no_slot}
use Rattle.server.specs.Models.{session_model, slot_in}
use Rattle.server.specs.Places.{emptied, change_in, at_slot}
use Rattle.server.proofs.Slots.{released}
use Rattle.server.proofs.Trays.{freed, held_state}
use Rattle.server.proofs.places.release.Goals as goal

pub returns-in-Some-tray : goal.returns-in-Some-tray
returns-in-Some-tray c =
    let ss = c.args.sessions.now in
    let ts = c.args.trays.now in
    let s = c.in-Some.session in
    let p = c.get.result in
    let i = c.get-i.result in
    let k = c.get-in-Some-tray.result in
    let us = set ts k (record (get_or ts k c.index-trays-get.result) { owner = None }) in
    let hi : i < length s.slots = omega (arith, s.whole, c.get-i.ensures.below) in
    let hs = get_or_default ss p None _ (omega (arith, c.get.ensures.below, c.requires.whole.0)) ∙ c.in-Some.is in
    let hk : k < length ts = omega (arith, c.get-in-Some-tray.ensures.below, c.requires.whole.1) in
    let hx = ap (λ (y : Slot). y.tray) (get_or_default s.slots i no_slot _ hi) ∙ c.in-Some-tray.is ∙ ap Some (sym c.get-in-Some-tray.ensures.value) in
    let e = ap (slot_in us) c.opened-shut.ensures ∙ ap (λ y. slot_in us (record y { tray = None })) (get_or_default s.slots i _ no_slot hi) ∙ released us ts (get_or s.slots i no_slot) in
    record {
      owned = freed ss ts p i k s _ _ _ hs hi c.put.ensures c.requires.owned hk hx (ap (λ (y : Slot). y.tray) c.opened-shut.ensures) refl;
      state =
          held_state ss ts p i k s _ _ _ hs hi c.put.ensures c.requires.owned hk hx refl refl emptied e
          ∙ (λ u. change_in (map (session_model ts) ss) (c.get.ensures.value u) (at_slot emptied (c.get-i.ensures.value u)));
    }
