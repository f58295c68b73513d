use Rattle.std.proofs.Common.{◌≡◌, ◌<◌, Bool, true, false, cond, [], map, length, get_or, set, Some, None, refl, sym, ap, ◌∙◌, arith}
use Rattle.std.proofs.lemmas.List.{get_or_default, get_or-set_same}
use Rattle.common.specs.Bytes.{Bytes}
use Rattle.server.specs.declared.records.Tray.{Tray}
use Rattle.server.specs.declared.records.Slot.{Slot}
use Rattle.server.specs.Server.{SlotM, is_kept}
use Rattle.server.specs.Trays.{no_tray, no_slot, tray_at, tray_in, tray_of}
use Rattle.server.specs.Models.{session_model, slot_model, slot_in}
use Rattle.server.specs.Places.{concluded, change_in, at_slot}
use Rattle.server.proofs.Trays.{kept, held_state, still_owned, still_state}
use Rattle.server.proofs.places.conclude.Goals as goal

-- nothing is kept of an empty body
nothing : (b : Bool) → ◌≡◌ {A = Bytes} (cond b [] []) []
nothing true = refl
nothing false = refl

pub returns-in-Some-tray : goal.returns-in-Some-tray
returns-in-Some-tray c =
    let ss = c.args.sessions.now in
    let ts = c.args.trays.now in
    let s = c.in-Some.session in
    let o = c.args.outcome.now in
    let p = c.get.result in
    let i = c.get-i.result in
    let k = c.get-in-Some-tray.result in
    let x = get_or s.slots i c.index-session-i.result in
    let y = c.concluded.result in
    let t = c.keep.new.self in
    let keeps = c.is_kept-keeps.result in
    let hi : i < length s.slots = omega (arith, s.whole, c.get-i.ensures.below) in
    let hs = get_or_default ss p None _ (omega (arith, c.get.ensures.below, c.requires.whole.0)) ∙ c.in-Some.is in
    let hk : k < length ts = omega (arith, c.get-in-Some-tray.ensures.below, c.requires.whole.1) in
    let old : get_or s.slots i no_slot ≡ x = get_or_default s.slots i no_slot c.index-session-i.result hi in
    let has : x.tray ≡ Some k = c.in-Some-tray.is ∙ ap Some (sym c.get-in-Some-tray.ensures.value) in
    let hx = ap (λ (z : Slot). z.tray) old ∙ has in
    let here : y.tray ≡ Some k = c.concluded.ensures.tray ∙ has in
    let was = get_or_default ts k c.index-trays-get.result no_tray hk in
    let own = ap (λ (u : Tray). u.owner) c.keep.ensures ∙ ap (λ (u : Tray). u.owner) was ∙ c.requires.owned.0 p i k (ap (λ r. tray_in r i) hs ∙ hx) in
    let told : is_kept (slot_in ts x) ≡ keeps = sym (c.is_kept-keeps.ensures ∙ ap is_kept c.entry.ensures) in
    let f : SlotM → SlotM = λ z. concluded z o.highest o.target o.body in
    let e =
    ap (λ r. slot_model (tray_at (set ts k t) r) y) here
    ∙ ap (λ u. slot_model u y) (get_or-set_same ts k t no_tray hk ∙ c.keep.ensures)
    ∙ ap (λ (u : Tray). slot_model (record u { reply = cond keeps o.body u.reply }) y) (was ∙ ap (tray_at ts) (sym has))
    ∙ c.concluded.ensures.value (tray_at ts x.tray) told
    ∙ ap (λ z. f (slot_in ts z)) (sym old)
    in
    record {
      owned = kept ss ts p i k s _ y t hs hi c.put.ensures c.requires.owned hk hx here own;
      state =
          held_state ss ts p i k s _ y t hs hi c.put.ensures c.requires.owned hk hx refl refl f e
          ∙ (λ u. change_in (map (session_model ts) ss) (c.get.ensures.value u) (at_slot f (c.get-i.ensures.value u)));
    }

pub returns-in_default-tray : goal.returns-in_default-tray
returns-in_default-tray c =
    let ss = c.args.sessions.now in
    let ts = c.args.trays.now in
    let s = c.in-Some.session in
    let o = c.args.outcome.now in
    let p = c.get.result in
    let i = c.get-i.result in
    let x = get_or s.slots i c.index-session-i.result in
    let y = c.concluded.result in
    let keeps = c.is_kept-keeps.result in
    let hi : i < length s.slots = omega (arith, s.whole, c.get-i.ensures.below) in
    let hs = get_or_default ss p None _ (omega (arith, c.get.ensures.below, c.requires.whole.0)) ∙ c.in-Some.is in
    let old : get_or s.slots i no_slot ≡ x = get_or_default s.slots i no_slot c.index-session-i.result hi in
    let none = c.in_default-tray.is in
    let at : tray_of ss c.args.spot.now.place c.args.spot.now.slot ≡ None = (λ u. tray_of ss (sym c.get.ensures.value u) (sym c.get-i.ensures.value u)) ∙ ap (λ r. tray_in r i) hs ∙ ap (λ (z : Slot). z.tray) old ∙ none in
    let empty : cond keeps o.body [] ≡ [] = ap (λ b. cond keeps b []) (c.requires.bare at) ∙ nothing keeps in
    let told : is_kept (slot_in ts x) ≡ keeps = sym (c.is_kept-keeps.ensures ∙ ap is_kept c.entry.ensures) in
    let f : SlotM → SlotM = λ z. concluded z o.highest o.target o.body in
    let e =
    ap (λ r. slot_model (tray_at ts r) y) (c.concluded.ensures.tray ∙ none)
    ∙ (λ u. slot_model (record no_tray { reply = sym empty u }) y)
    ∙ ap (λ (v : Tray). slot_model (record v { reply = cond keeps o.body v.reply }) y) (ap (tray_at ts) (sym none))
    ∙ c.concluded.ensures.value (tray_at ts x.tray) told
    ∙ ap (λ z. f (slot_in ts z)) (sym old)
    in
    record {
      owned = still_owned ss ts p i s _ y hs hi c.put.ensures c.requires.owned (c.concluded.ensures.tray ∙ ap (λ (z : Slot). z.tray) (sym old));
      state =
          still_state ss ts p i s _ y hs hi c.put.ensures c.requires.owned refl refl f e
          ∙ (λ u. change_in (map (session_model ts) ss) (c.get.ensures.value u) (at_slot f (c.get-i.ensures.value u)));
    }
