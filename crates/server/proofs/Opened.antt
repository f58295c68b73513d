-- Sessions that come, get another target, and go.
use Rattle.std.proofs.Common.{◌≡◌, ℕ, zero, suc, ◌+◌, ◌-◌, ◌<◌, ◌≤◌, true, cond, not, List, [], ◌∷◌, map, length, get_or, take, set, replicate, is_some, is_none, Some, None, Ok, Err, sum_by, count_by, Option, sym, refl, ap, ◌∙◌, ⊎_elim, zero-le, arith}
use borrow.Author.Tests.{clash}
use Rattle.std.specs.Option.{option_map}
use Rattle.std.specs.List.{position}
use Rattle.std.proofs.lemmas.List.{get_or-set_same, get_or-set_other, map-set, take-map, length-take-le}
use Rattle.std.proofs.lemmas.List.Folds.{sum_by-replicate}
use Rattle.std.proofs.lemmas.List.Sums.{sum_by-set, sum_by-cons, count_by-le-length}
use Rattle.std.proofs.lemmas.Bool.{cond-true, cond-false, cases_eq, le-ltb, lt-ltb, ne_eqb}
use Rattle.common.specs.Search.{when_found, lowest_at}
use Rattle.slots.proofs.Slots.{lowest_some, lowest_map, front_map}
use Rattle.wire.specs.Wire.{SessionId, high_target, no_place, few_trays, not_standing}
use Rattle.server.specs.declared.records.Tray.{Tray}
use Rattle.server.specs.declared.records.Slot.{Slot}
use Rattle.server.specs.declared.records.Session.{Session}
use Rattle.server.specs.Server.{SlotM, SessionM, ServerM, new_slot, new_id, with_open, open_slots, free_trays, is_vacant, opened_in, open_in, open_session, shut_up_to, retargeted, retarget_in, retarget_session, close_session, place_of, session_of, with_session}
use Rattle.server.specs.Trays.{no_tray, tray_in, tray_of, spot, Marked, slots_open}
use Rattle.server.specs.Models.{slot_in, standing_model, session_model}
use Rattle.server.specs.Places.{emptied, session_at, change_at, change_in, at_front, shut_below, begun}
use Rattle.server.proofs.Trays.{session_here, sum_map_is, lowest_position}
use Rattle.server.proofs.Found.{session_none, session_found, found}

-- another session, or none, at a place: it has no tray that the one before it did not have
pub marked_at : (ss : List (Option Session)) (ts : List Tray) (p : ℕ) (o : Option Session) → p < length ss → Marked ss ts → ((i k : ℕ) → tray_in o i ≡ Some k → tray_of ss p i ≡ Some k) → Marked (set ss p o) ts
marked_at ss ts p o h m had j n k e = ⊎_elim here elsewhere (cases_eq j p)
  where
    here : j ≡ p → (get_or ts k no_tray).owner ≡ Some (spot j n)
    here q =
        let there : tray_in o n ≡ Some k = sym (ap (λ r. tray_in r n) (ap (λ u. get_or (set ss p o) u None) q ∙ get_or-set_same ss p o None h)) ∙ e in
        m j n k (ap (λ u. tray_of ss u n) q ∙ had n k there)

    elsewhere : (j ≡ p → ⊥) → (get_or ts k no_tray).owner ≡ Some (spot j n)
    elsewhere ne = m j n k (sym (ap (λ r. tray_in r n) (get_or-set_other ss p j o None ne)) ∙ e)

-- and as many open slots
pub counted_at : (ss : List (Option Session)) (n p : ℕ) (o : Option Session) → p < length ss → n + sum_by slots_open ss ≡ 64 → slots_open o ≡ slots_open (get_or ss p None) → n + sum_by slots_open (set ss p o) ≡ 64
counted_at ss n p o h c e = let a = sum_by-set slots_open ss p o None h in omega (arith, a, c, e)

-- a place that is vacant in the model
pub vacant_is : (ts : List Tray) (ss : List (Option Session)) (p : ℕ) → get_or (map (session_model ts) ss) p None ≡ None → get_or ss p None ≡ None
vacant_is ts ss p e = go (get_or ss p None) (sym (session_here ts ss p) ∙ e)
  where
    go : (o : Option Session) → session_model ts o ≡ None → o ≡ None
    go None h = refl
    go (Some s) h = absurd (let z : ◌≡◌ {A = ℕ} 0 1 = cc in omega arith)

pub vacant_lowest : (ts : List Tray) (ss : List (Option Session)) → position is_none ss ≡ lowest_at is_vacant (map (session_model ts) ss) 0
vacant_lowest ts ss = lowest_position is_none ss ∙ ap (λ f. lowest_at f ss 0) (λ i o. same o i) ∙ sym (lowest_map is_vacant (session_model ts) ss 0)
  where
    same : (o : Option Session) → is_none o ≡ is_vacant (session_model ts o)
    same None = refl
    same (Some s) = refl

pub vacant_found : (m : ServerM) (p : ℕ) → lowest_at is_vacant m.sessions 0 ≡ Some p → session_at m p ≡ None
vacant_found m p e =
    let l = lowest_some is_vacant m.sessions 0 p None e in
    let q : p ≡ l.at = omega arith in
    ap (session_at m) q ∙ none (session_at m l.at) l.holds
  where
    none : (o : Option SessionM) → is_vacant o ≡ true → o ≡ None
    none None h = refl
    none (Some s) h = absurd (clash h)

-- a session has begun: no tray is taken yet
abbrev fresh : SessionId → ℕ → SessionM
fresh id target = record { id = id; target = target; slots = replicate 16 new_slot }

pub begun_free : (m : ServerM) (p : ℕ) (id : SessionId) (target : ℕ) → session_at m p ≡ None → free_trays (begun m p id target) ≡ free_trays m
unfolding free_trays
begun_free m p id target e = ap (λ n. 64 - n) (go m.sessions p e)
  where
    go : (os : List (Option SessionM)) (p : ℕ) → get_or os p None ≡ None → sum_by open_slots (set os p (Some (fresh id target))) ≡ sum_by open_slots os
    go [] p h = refl
    go (o ∷ os) zero h =
        let a : open_slots o ≡ 0 = ap open_slots h in
        let b : open_slots (Some (fresh id target)) ≡ 0 = sum_by-replicate (λ (x : SlotM). cond x.is_open 1 0) 16 new_slot in
        sum_by-cons open_slots (Some (fresh id target)) os ∙ ap (λ n. n + sum_by open_slots os) (b ∙ sym a) ∙ sym (sum_by-cons open_slots o os)
    go (o ∷ os) (suc p) h = sum_by-cons open_slots o (set os p (Some (fresh id target))) ∙ ap (λ n. open_slots o + n) (go os p h) ∙ sym (sum_by-cons open_slots o os)

pub begun_shut : (m : ServerM) (p : ℕ) (id : SessionId) (target n : ℕ) → session_at m p ≡ None → n ≤ 16 → shut_below (begun m p id target) p n ≤ n
begun_shut m p id target n e k = go m.sessions p e
  where
    go : (os : List (Option SessionM)) (p : ℕ) → get_or os p None ≡ None → when_found 0 (λ (s : SessionM). count_by (λ (x : SlotM). not x.is_open) (take n s.slots)) (get_or (set os p (Some (fresh id target))) p None) ≤ n
    go [] p h = zero-le
    go (o ∷ os) zero h =
        let b = count_by-le-length (λ (x : SlotM). not x.is_open) (take n (replicate 16 new_slot)) in
        let c : length (take n (replicate 16 new_slot)) ≡ n = length-take-le n (replicate 16 new_slot) k in
        omega (arith, b, c)
    go (o ∷ os) (suc p) h = go os p h

pub begun_opened : (m : ServerM) (p target : ℕ) → change_at (begun m p (new_id m) target) p (at_front (with_open true) (target + 1)) ≡ (opened_in m target p).after
begun_opened m p target = ap with (go m.sessions p)
  where
    with : List (Option SessionM) → ServerM
    with places = record { boot = m.boot; count = m.count + 1; sessions = places }

    opens : SessionM → SessionM
    opens = at_front (with_open true) (target + 1)

    go : (os : List (Option SessionM)) (p : ℕ) → change_in (set os p (Some (fresh (new_id m) target))) p opens ≡ set os p (Some (opens (fresh (new_id m) target)))
    go [] p = refl
    go (o ∷ os) zero = refl
    go (o ∷ os) (suc p) = ap (λ ys. o ∷ ys) (go os p)

-- open, by its tests
pub open_accepted : (m : ServerM) (target p : ℕ) → (m.count ≡ 18446744073709551615 → ⊥) → target + 1 ≤ free_trays m → open_in m target p ≡ Ok (opened_in m target p)
open_accepted m target p a b = cond-false _ _ _ (ne_eqb m.count 18446744073709551615 a) ∙ cond-false _ _ _ (le-ltb (free_trays m) (target + 1) b)

pub open_high : (m : ServerM) (target : ℕ) → 15 < target → open_session m target ≡ Err high_target
unfolding open_session
open_high m target h = cond-true _ _ _ (lt-ltb 15 target h)

pub open_full : (m : ServerM) (target : ℕ) → target ≤ 15 → lowest_at is_vacant m.sessions 0 ≡ None → open_session m target ≡ Err no_place
unfolding open_session
open_full m target h e = cond-false _ _ _ (le-ltb 15 target h) ∙ ap (when_found (Err no_place) (open_in m target)) e

pub open_there : (m : ServerM) (target p : ℕ) → target ≤ 15 → lowest_at is_vacant m.sessions 0 ≡ Some p → open_session m target ≡ open_in m target p
unfolding open_session
open_there m target p h e = cond-false _ _ _ (le-ltb 15 target h) ∙ ap (when_found (Err no_place) (open_in m target)) e

-- retarget
pub shut_told : (ts : List Tray) (xs : List Slot) (n : ℕ) → count_by (λ (x : Slot). not (is_some x.tray)) (take n xs) ≡ count_by (λ (x : SlotM). not x.is_open) (take n (map (slot_in ts) xs))
shut_told ts xs n =
    sym (sum_map_is (λ (x : SlotM). cond (not x.is_open) 1 0) (slot_in ts) (take n xs))
    ∙ ap (count_by (λ (x : SlotM). not x.is_open)) (sym (take-map (slot_in ts) n xs))

pub retarget_few : (m : ServerM) (id : SessionId) (target : ℕ) (s : SessionM) → target ≤ 15 → free_trays m < shut_up_to s target → retarget_in m id target s ≡ Err few_trays
retarget_few m id target s h k = cond-false _ _ _ (le-ltb 15 target h) ∙ cond-true _ _ _ (lt-ltb (free_trays m) (shut_up_to s target) k)

pub retarget_done : (m : ServerM) (id : SessionId) (target : ℕ) (s : SessionM) → target ≤ 15 → shut_up_to s target ≤ free_trays m → retarget_in m id target s ≡ Ok (with_session m id (Some (retargeted s target)))
retarget_done m id target s h k = cond-false _ _ _ (le-ltb 15 target h) ∙ cond-false _ _ _ (le-ltb (free_trays m) (shut_up_to s target) k)

pub retarget_none : (m : ServerM) (id : SessionId) (target : ℕ) → place_of m id ≡ None → retarget_session m id target ≡ Err not_standing
unfolding retarget_session
retarget_none m id target e = ap (when_found (Err not_standing) (retarget_in m id target)) (session_none m id e)

pub retarget_there : (m : ServerM) (id : SessionId) (target p : ℕ) (s : SessionM) → place_of m id ≡ Some p → session_at m p ≡ Some s → retarget_session m id target ≡ retarget_in m id target s
unfolding retarget_session
retarget_there m id target p s e h = ap (when_found (Err not_standing) (retarget_in m id target)) (session_found m id p e ∙ h)

-- close
pub close_none : (m : ServerM) (id : SessionId) → place_of m id ≡ None → close_session m id ≡ Err not_standing
unfolding close_session
close_none m id e = ap (when_found (Err not_standing) (λ s. Ok (with_session m id None))) (session_none m id e)

pub close_there : (m : ServerM) (id : SessionId) (p : ℕ) (s : SessionM) → place_of m id ≡ Some p → session_at m p ≡ Some s → close_session m id ≡ Ok (with_session m id None)
unfolding close_session
close_there m id p s e h = ap (when_found (Err not_standing) (λ r. Ok (with_session m id None))) (session_found m id p e ∙ h)

none_open : (xs : List SlotM) → count_by (λ (x : SlotM). x.is_open) (map emptied xs) ≡ 0
none_open xs = sum_map_is (λ (x : SlotM). cond x.is_open 1 0) emptied xs ∙ zeros xs
  where
    zeros : (ys : List SlotM) → sum_by {X = SlotM} (λ y. 0) ys ≡ 0
    zeros [] = refl
    zeros (y ∷ ys) = zeros ys

pub emptied_open : (o : Option SessionM) → ((s : SessionM) → o ≡ Some s → length s.slots ≡ 16) → open_slots (option_map (at_front emptied 16) o) ≡ 0
emptied_open None h = refl
emptied_open (Some s) h = ap (count_by (λ (x : SlotM). x.is_open)) (front_map emptied 16 s.slots (omega (arith, h s refl))) ∙ none_open s.slots

-- stands
pub stands_of : (m : ServerM) (id : SessionId) (o : Option ℕ) → o ≡ place_of m id → is_some o ≡ is_some (session_of m id)
stands_of m id None e = sym (ap is_some (session_none m id (sym e)))
stands_of m id (Some p) e = sym (ap is_some (session_found m id p (sym e)) ∙ (found m id (Some p) e).1)

-- a session that changes
pub place_set : (ts : List Tray) (ss : List (Option Session)) (p : ℕ) (s s' : Session) (f : SessionM → SessionM) → get_or ss p None ≡ Some s → standing_model ts s' ≡ f (standing_model ts s) → map (session_model ts) (set ss p (Some s')) ≡ change_in (map (session_model ts) ss) p f
place_set ts ss p s s' f hs e =
    map-set (session_model ts) ss p (Some s') ∙ ap (set (map (session_model ts) ss) p) (ap Some e ∙ sym (ap (option_map f) (session_here ts ss p ∙ ap (session_model ts) hs)))
