-- One slot: from its record and its tray to what they stand for.
use Rattle.std.proofs.Common.{◌≡◌, ℕ, ◌≤◌, Bool, true, false, cond, ltb, List, [], get_or, is_some, Some, None, Option, sym, refl, ap, ◌∙◌, arith}
use Rattle.common.specs.Search.{when_found}
use Rattle.std.proofs.lemmas.Bool.{ltb-false}
use Rattle.common.specs.Bytes.{Bytes}
use Rattle.wire.specs.Wire.{Request}
use Rattle.server.specs.declared.records.Tray.{Tray}
use Rattle.server.specs.declared.records.Slot.{Slot}
use Rattle.server.specs.Server.{Last, never, in_progress, kept, not_kept, refuse, new, SlotM, SessionM, ServerM, with_open, is_repeat, is_new, is_same, judge_last, judge_repeat, bad_highest, judge, verdict, slot_at}
use Rattle.server.specs.declared.records.Last.{Last as CodeLast}
use Rattle.server.specs.declared.records.Last.TheVariants.{Never, InProgress, Kept, NotKept}
use Rattle.server.specs.Trays.{no_tray, tray_at}
use Rattle.server.specs.Places.{emptied, emptied_last, session_at, verdict_at}
use Rattle.server.specs.Models.{slot_in, last_model}

-- a slot that shuts
pub released : (us ts : List Tray) (x : Slot) → slot_in us (record x { tray = None }) ≡ emptied (slot_in ts x)
released us ts x = (λ i. record y { last = lost x.last (tray_at ts x.tray).reply i })
  where
    y : SlotM
    y = slot_in us (record x { tray = None })

    lost : (l : CodeLast) (b : Bytes) → last_model l [] ≡ emptied_last (last_model l b)
    lost Never b = refl
    lost InProgress b = refl
    lost (Kept h t) b = refl
    lost NotKept b = refl

-- and one that opens, with an empty tray
pub opened : (us ts : List Tray) (x : Slot) (k : ℕ) (o : Option ℕ) → x.tray ≡ None → o ≡ Some k → (get_or us k no_tray).request ≡ [] → (get_or us k no_tray).reply ≡ [] → slot_in us (record x { tray = o }) ≡ with_open true (slot_in ts x)
opened us ts x k o h e q r = (λ i. shown (is_some (e i)) (tray_at us (e i)).request (tray_at us (e i)).reply) ∙ (λ i. shown true (q i) (r i)) ∙ (λ i. shown true (tray_at ts (sym h i)).request (tray_at ts (sym h i)).reply)
  where
    shown : Bool → Bytes → Bytes → SlotM
    shown b body reply = record { is_open = b; number = x.number; highest = x.highest; keep = x.keep; body = body; last = last_model x.last reply }

-- a repeat is not new
repeat_not_new : (b : Bool) (l : Last) → cond b (judge_last l) (refuse 10076) ≡ new → ⊥
repeat_not_new false l e = let z : ◌≡◌ {A = ℕ} 0 1 = cc in omega arith
repeat_not_new true never e = let z : ◌≡◌ {A = ℕ} 0 1 = cc in omega arith
repeat_not_new true in_progress e = let z : ◌≡◌ {A = ℕ} 0 1 = cc in omega arith
repeat_not_new true (kept h t b) e = let z : ◌≡◌ {A = ℕ} 0 1 = cc in omega arith
repeat_not_new true not_kept e = let z : ◌≡◌ {A = ℕ} 0 1 = cc in omega arith

-- a new call's slot is open
pub new_is_open : (x : SlotM) (q : Request) → judge x q ≡ new → x.is_open ≡ true
new_is_open x q e = go (is_repeat x q) (is_new x q) x.is_open refl e
  where
    go : (a b o : Bool) → x.is_open ≡ o → cond a (judge_repeat x q) (cond b (cond o (cond (bad_highest q) (refuse 10077) new) (refuse 10053)) (refuse 10063)) ≡ new → x.is_open ≡ true
    go true b o h e = absurd (repeat_not_new (is_same x q) x.last e)
    go false true true h e = h
    go false true false h e = absurd (let z : ◌≡◌ {A = ℕ} 0 1 = cc in omega arith)
    go false false o h e = absurd (let z : ◌≡◌ {A = ℕ} 0 1 = cc in omega arith)

pub new_in : (s : SessionM) (q : Request) → verdict s q ≡ new → (q.slot ≤ 15) × ((slot_at s q.slot).is_open ≡ true)
new_in s q e = go (ltb 15 q.slot) refl e
  where
    go : (b : Bool) → ltb 15 q.slot ≡ b → cond b (refuse 10053) (judge (slot_at s q.slot) q) ≡ new → (q.slot ≤ 15) × ((slot_at s q.slot).is_open ≡ true)
    go true h e = absurd (let z : ◌≡◌ {A = ℕ} 0 1 = cc in omega arith)
    go false h e = (ltb-false 15 q.slot h, new_is_open (slot_at s q.slot) q e)

-- at a place, too
pub new_at : (m : ServerM) (place : ℕ) (q : Request) → verdict_at m place q ≡ new → (is_some (session_at m place) ≡ true) × (q.slot ≤ 15) × ((s : SessionM) → session_at m place ≡ Some s → (slot_at s q.slot).is_open ≡ true)
new_at m place q e = go (session_at m place) e
  where
    go : (o : Option SessionM) → when_found (refuse 10052) (λ s. verdict s q) o ≡ new → (is_some o ≡ true) × (q.slot ≤ 15) × ((s : SessionM) → o ≡ Some s → (slot_at s q.slot).is_open ≡ true)
    go None e = absurd (let z : ◌≡◌ {A = ℕ} 0 1 = cc in omega arith)
    go (Some r) e =
        let h = new_in r q e in
        (refl, h.0, λ s k. (let f : s ≡ r = cc in ap (λ (t : SessionM). (slot_at t q.slot).is_open) f ∙ h.1))
