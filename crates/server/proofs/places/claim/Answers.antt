use Rattle.std.proofs.Common.{◌≡◌, ◌<◌, map, length, get_or, set, true, is_some, Some, None, refl, sym, ap, ◌∙◌, arith}
use Rattle.std.proofs.lemmas.List.{get_or_default, get_or-set_same}
use Rattle.std.proofs.lemmas.List.Quantifiers.{position-Some}
use Rattle.std.proofs.lemmas.Bool.{cond-true, lt-ltb}
use Rattle.server.specs.declared.records.Tray.{Tray}
use Rattle.server.specs.declared.records.Slot.{Slot}
use Rattle.server.specs.Server.{with_open}
use Rattle.server.specs.Trays.{no_tray, no_slot, spot, is_free, shut_in}
use Rattle.server.specs.Models.{session_model, slot_in}
use Rattle.server.specs.Places.{change_in, at_slot}
use Rattle.server.proofs.Slots.{opened}
use Rattle.server.proofs.Trays.{taken, taken_state, taken_count, shut_one, free_none, none_if, none_pass}
use Rattle.server.proofs.places.claim.Goals as goal

pub returns-in-Some-free_tray : goal.returns-in-Some-free_tray
returns-in-Some-free_tray c =
    let ss = c.args.sessions.now in
    let ts = c.args.trays.now in
    let s = c.in-Some.session in
    let p = c.get.result in
    let i = c.get-i.result in
    let k = c.in-Some-free_tray.tray in
    let us = set ts k c.give.new.self in
    let hi : i < length s.slots = omega (arith, s.whole, c.get-i.ensures.below) in
    let hs = get_or_default ss p None _ (omega (arith, c.get.ensures.below, c.requires.whole.0)) ∙ c.in-Some.is in
    let first = position-Some is_free ts k no_tray (sym c.in-Some-free_tray.ensures) in
    let free = free_none (get_or ts k no_tray) first.1 in
    let shut : (get_or s.slots i no_slot).tray ≡ None = none_if _ (sym (ap (λ (y : Slot). is_some y.tray) (get_or_default s.slots i _ no_slot hi)) ∙ sym c.is_some.ensures ∙ c.if-is_some.false) in
    let given = c.new.ensures ∙ cond-true _ _ _ (lt-ltb k 64 (omega (arith, first.0, c.requires.whole.1))) in
    let has = ap (λ (y : Slot). y.tray) c.opened-open.ensures ∙ given in
    let t = get_or-set_same ts k c.give.new.self no_tray first.0 ∙ c.give.ensures in
    let e = ap (slot_in us) c.opened-open.ensures ∙ ap (λ y. slot_in us (record y { tray = c.new.result })) (get_or_default s.slots i _ no_slot hi) ∙ opened us ts (get_or s.slots i no_slot) k c.new.result shut given (ap (λ (t : Tray). t.request) t) (ap (λ (t : Tray). t.reply) t) in
    let mine = ap (λ (t : Tray). t.owner) c.give.ensures ∙ (λ u. Some (spot (sym c.get.ensures.value u) (sym c.get-i.ensures.value u))) in
    let one = shut_one ss p i s hs shut in
    let there : shut_in ss p i ≡ shut_in ss c.args.spot.now.place c.args.spot.now.slot = (λ u. shut_in ss (c.get.ensures.value u) (c.get-i.ensures.value u)) in
    let less = taken_count ts k c.give.new.self (spot p i) first.0 free mine in
    record {
      owned = taken ss ts p i k s _ _ c.give.new.self hs hi c.put.ensures c.requires.owned first.0 free shut has mine;
      free = omega (arith, one, there, less);
      state =
          taken_state ss ts p i k s _ _ c.give.new.self hs hi c.put.ensures c.requires.owned first.0 free refl refl (with_open true) e
          ∙ (λ u. change_in (map (session_model ts) ss) (c.get.ensures.value u) (at_slot (with_open true) (c.get-i.ensures.value u)));
    }

pub returns-in_default-free_tray : goal.returns-in_default-free_tray
returns-in_default-free_tray c =
    let ss = c.args.sessions.now in
    let s = c.in-Some.session in
    let p = c.get.result in
    let i = c.get-i.result in
    let hi : i < length s.slots = omega (arith, s.whole, c.get-i.ensures.below) in
    let hs = get_or_default ss p None _ (omega (arith, c.get.ensures.below, c.requires.whole.0)) ∙ c.in-Some.is in
    let shut : (get_or s.slots i no_slot).tray ≡ None = none_if _ (sym (ap (λ (y : Slot). is_some y.tray) (get_or_default s.slots i _ no_slot hi)) ∙ sym c.is_some.ensures ∙ c.if-is_some.false) in
    let full = none_pass is_free c.args.trays.now (sym c.free_tray.ensures ∙ c.in_default-free_tray.is) in
    let one = shut_one ss p i s hs shut in
    let there : shut_in ss p i ≡ shut_in ss c.args.spot.now.place c.args.spot.now.slot = (λ u. shut_in ss (c.get.ensures.value u) (c.get-i.ensures.value u)) in
    absurd (omega (arith, full, one, there, c.requires.room))
