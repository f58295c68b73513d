-- Slots 0 to target of a session that stands are open, whatever is called.
use Rattle.std.proofs.Common.{◌≡◌, ℕ, zero, suc, ◌+◌, ◌<◌, ◌≤◌, Bool, true, false, cond, not, ◌&&◌, eqb, ltb, List, [], ◌∷◌, length, get_or, set, replicate, Some, None, Ok, Err, Option, Result, sym, refl, ap, ◌∙◌, subst, ⊎_elim, arith}
use Rattle.std.proofs.lemmas.List.{get_or-set_same, get_or-set_other, set_past, length-set}
use Rattle.std.proofs.lemmas.Bool.{cases_eq, cases_lt, le-ltb, and_right, and_from, not_from_false, ltb-false}
use Rattle.common.specs.Bytes.{Bytes}
use Rattle.common.specs.Search.{when_found, lowest_at}
use Rattle.slots.specs.Slots.{front_changed}
use Rattle.slots.proofs.Slots.{front_length}
use Rattle.wire.specs.Wire.{SessionId, Request, Refusal, refusing, read_request, high_target, no_place, no_count, few_trays, not_standing, no_work}
use Rattle.service.specs.Service.{ServiceModel}
use Rattle.server.specs.Server.{SlotM, SessionM, ServerM, Verdict, refuse, repeat, new, Serving, Work, says, new_slot, with_open, with_slot, slot_at, place_of, session_of, with_session, new_session, new_id, free_trays, is_vacant, opened_in, open_in, open_session, retarget_in, retarget_session, close_session, retargeted, after_call, serve, serve_by, serve_read, verdict, accepted, finished, shuts, run_open, is_bare, is_in_hand, works_at, run_slot, run_work, resume_work, server_after, shut_up_to}
use Rattle.server.specs.Calls.{after_opening}
use Rattle.server.specs.Laws.{Manned, AllManned, StaysManned}

-- one more session
set_manned : (places : List (Option SessionM)) (p : ℕ) (o : Option SessionM) → ((q : ℕ) (s : SessionM) → get_or places q None ≡ Some s → Manned s) → ((s : SessionM) → o ≡ Some s → Manned s) → (q : ℕ) (s : SessionM) → get_or (set places p o) q None ≡ Some s → Manned s
set_manned places p o all one q s e = ⊎_elim here there (cases_eq q p)
  where
    there : (q ≡ p → ⊥) → Manned s
    there ne = all q s (sym (get_or-set_other places p q o None ne) ∙ e)

    here : q ≡ p → Manned s
    here r = ⊎_elim
        (λ l. one s (sym (get_or-set_same places p o None l) ∙ sym (ap (λ k. get_or (set places p o) k None) r) ∙ e))
        (λ l. all q s (sym (ap (λ xs. get_or xs q None) (set_past places p o l)) ∙ e))
        (cases_lt p (length places))

with_manned : (m : ServerM) (id : SessionId) (o : Option SessionM) → AllManned m → ((s : SessionM) → o ≡ Some s → Manned s) → AllManned (with_session m id o)
unfolding with_session
with_manned m id o all one = go (place_of m id)
  where
    go : (r : Option ℕ) → (q : ℕ) (s : SessionM) → get_or (when_found m.sessions (λ i. set m.sessions i o) r) q None ≡ Some s → Manned s
    go None = all
    go (Some p) = set_manned m.sessions p o all one

-- the session of an id is one of those that stand
of_manned : (m : ServerM) (id : SessionId) (s : SessionM) → AllManned m → session_of m id ≡ Some s → Manned s
unfolding session_of
of_manned m id s all e = go (place_of m id) e
  where
    go : (r : Option ℕ) → when_found None (λ i. get_or m.sessions i None) r ≡ Some s → Manned s
    go None e = absurd (let z : ◌≡◌ {A = ℕ} 0 1 = cc in omega arith)
    go (Some p) e = all p s e

-- the first slots open
front_open : (n i : ℕ) (xs : List SlotM) → i < n → i < length xs → (get_or (front_changed (with_open true) n xs) i new_slot).is_open ≡ true
front_open zero i xs h l = absurd (omega arith)
front_open (suc n) i [] h l = absurd (omega arith)
front_open (suc n) zero (x ∷ xs) h l = refl
front_open (suc n) (suc i) (x ∷ xs) h l = front_open n i xs (omega arith) (omega arith)

opened_manned : (id : SessionId) (target : ℕ) (xs : List SlotM) → length xs ≡ 16 → target ≤ 15 → Manned (record { id = id; target = target; slots = front_changed (with_open true) (target + 1) xs })
opened_manned id target xs l h = record {
  sixteen = front_length (with_open true) (target + 1) xs ∙ l;
  low = h;
  reach = λ i k. front_open (target + 1) i xs (omega arith) (omega arith);
}

-- one slot changes, and is open as before or above the target
slot_manned : (s : SessionM) (i : ℕ) (x : SlotM) → Manned s → (i ≤ s.target → x.is_open ≡ true) → Manned (with_slot s i x)
slot_manned s i x m h = record {
  sixteen = length-set s.slots i x ∙ m.sixteen;
  low = m.low;
  reach = λ j k. ⊎_elim
      (λ e. ap (λ n. (slot_at (with_slot s i x) n).is_open) e ∙ ap (λ (y : SlotM). y.is_open) (get_or-set_same s.slots i x new_slot (omega (arith, m.low, m.sixteen))) ∙ h (omega arith))
      (λ ne. ap (λ (y : SlotM). y.is_open) (get_or-set_other s.slots i j x new_slot ne) ∙ m.reach j k)
      (cases_eq j i);
}

none_stands : (n q : ℕ) (s : SessionM) → get_or (replicate {A = Option SessionM} n None) q None ≡ Some s → ⊥
none_stands zero q s e = let z : ◌≡◌ {A = ℕ} 0 1 = cc in omega arith
none_stands (suc n) zero s e = let z : ◌≡◌ {A = ℕ} 0 1 = cc in omega arith
none_stands (suc n) (suc q) s e = none_stands n q s e

opens_manned : (m : ServerM) (target : ℕ) → AllManned m → AllManned (after_opening m (open_session m target))
unfolding open_session
opens_manned m target all = high (ltb 15 target) refl
  where
    new_one : target ≤ 15 → (s : SessionM) → Some (new_session (new_id m) target) ≡ Some s → Manned s
    new_one h s e = let q : new_session (new_id m) target ≡ s = cc in subst Manned q (opened_manned (new_id m) target (replicate 16 new_slot) refl h)

    few : (p : ℕ) (a b : Bool) → target ≤ 15 → AllManned (after_opening m (cond a (Err no_count) (cond b (Err few_trays) (Ok (opened_in m target p)))))
    few p true b h = all
    few p false true h = all
    few p false false h = set_manned m.sessions p (Some (new_session (new_id m) target)) all (new_one h)

    place : (o : Option ℕ) → target ≤ 15 → AllManned (after_opening m (when_found (Err no_place) (open_in m target) o))
    place None h = all
    place (Some p) h = few p (eqb m.count 18446744073709551615) (ltb (free_trays m) (target + 1)) h

    high : (b : Bool) → ltb 15 target ≡ b → AllManned (after_opening m (cond b (Err high_target) (when_found (Err no_place) (open_in m target) (lowest_at is_vacant m.sessions 0))))
    high true e = all
    high false e = place (lowest_at is_vacant m.sessions 0) (ltb-false 15 target e)

retargets_manned : (m : ServerM) (id : SessionId) (target : ℕ) → AllManned m → AllManned (after_call m (retarget_session m id target))
unfolding retarget_session
retargets_manned m id target all = go (session_of m id) refl
  where
    aimed : (s : SessionM) → session_of m id ≡ Some s → target ≤ 15 → AllManned (with_session m id (Some (retargeted s target)))
    aimed s e h = with_manned m id (Some (retargeted s target)) all (λ r k. (let q : retargeted s target ≡ r = cc in subst Manned q (opened_manned s.id target s.slots (of_manned m id s all e).sixteen h)))

    tests : (s : SessionM) (a b : Bool) → session_of m id ≡ Some s → ltb 15 target ≡ a → AllManned (after_call m (cond a (Err high_target) (cond b (Err few_trays) (Ok (with_session m id (Some (retargeted s target)))))))
    tests s true b e h = all
    tests s false true e h = all
    tests s false false e h = aimed s e (ltb-false 15 target h)

    go : (o : Option SessionM) → session_of m id ≡ o → AllManned (after_call m (when_found (Err not_standing) (retarget_in m id target) o))
    go None e = all
    go (Some s) e = tests s (ltb 15 target) (ltb (free_trays m) (shut_up_to s target)) e refl

closes_manned : (m : ServerM) (id : SessionId) → AllManned m → AllManned (after_call m (close_session m id))
unfolding close_session
closes_manned m id all = go (session_of m id)
  where
    go : (o : Option SessionM) → AllManned (after_call m (when_found (Err not_standing) (λ s. Ok (with_session m id None)) o))
    go None = all
    go (Some s) = with_manned m id None all (λ r k. absurd (let z : ◌≡◌ {A = ℕ} 0 1 = cc in omega arith))

serves_manned : (m : ServerM) (bs : Bytes) → AllManned m → AllManned (serve m bs).after
unfolding serve
serves_manned m bs all = read (read_request bs)
  where
    -- a new call leaves its slot as open as it was
    taken : (q : Request) (s : SessionM) → session_of m q.id ≡ Some s → AllManned (with_session m q.id (Some (with_slot s q.slot (accepted (slot_at s q.slot) q))))
    taken q s e = with_manned m q.id (Some (with_slot s q.slot (accepted (slot_at s q.slot) q))) all (λ r k. (let f : with_slot s q.slot (accepted (slot_at s q.slot) q) ≡ r = cc in let h = of_manned m q.id s all e in subst Manned f (slot_manned s q.slot (accepted (slot_at s q.slot) q) h (h.reach q.slot))))

    by : (v : Verdict) (q : Request) (s : SessionM) → session_of m q.id ≡ Some s → AllManned (serve_by v m s q).after
    by (refuse n) q s e = all
    by (repeat h t b) q s e = all
    by new q s e = taken q s e

    found : (q : Request) (o : Option SessionM) → session_of m q.id ≡ o → AllManned (when_found {X = Serving} (record { answer = says (refusing q 10052); after = m }) (λ s. serve_by (verdict s q) m s q) o).after
    found q None e = all
    found q (Some s) e = by (verdict s q) q s e

    read : (r : Result Request Refusal) → AllManned (serve_read m r).after
    read (Ok q) = found q (session_of m q.id) refl
    read (Err e) = all

module _ (S : ServiceModel) (k : S.Content) (m : ServerM) (all : AllManned m) where
  -- a slot up to the target is not shut by its run
  run_stays : (s : SessionM) (i : ℕ) → Manned s → i ≤ s.target → run_open s i ≡ true
  run_stays s i h l =
      let x = slot_at s i in
      and_from x.is_open (not (shuts s i x)) (h.reach i l) (not_from_false (shuts s i x) (and_right (is_bare x) (ltb x.highest i && ltb s.target i) (and_right (ltb x.highest i) (ltb s.target i) (le-ltb s.target i l))))

  slot_run : (id : SessionId) (i : ℕ) (s : SessionM) → session_of m id ≡ Some s → AllManned (run_slot S k m id i s).server
  slot_run id i s e = with_manned m id (Some t) all (λ r g. (let f : t ≡ r = cc in subst Manned f (slot_manned s i _ h (run_stays s i h))))
    where
      h : Manned s
      h = of_manned m id s all e

      t : SessionM
      t = with_slot s i (finished s i (run_slot S k m id i s).reply.body)

  by_test : (id : SessionId) (i : ℕ) (s : SessionM) (b : Bool) → session_of m id ≡ Some s → AllManned (server_after S m (cond b (Ok (run_slot S k m id i s)) (Err no_work)))
  by_test id i s true e = slot_run id i s e
  by_test id i s false e = all

  runs_manned : (w : Work) → AllManned (server_after S m (run_work S k m w))
  unfolding run_work
  runs_manned w = go (session_of m w.id) refl
    where
      go : (o : Option SessionM) → session_of m w.id ≡ o → AllManned (server_after S m (when_found (Err no_work) (λ s. cond (is_in_hand s w) (Ok (run_slot S k m w.id w.slot s)) (Err no_work)) o))
      go None e = all
      go (Some s) e = by_test w.id w.slot s (is_in_hand s w) e

  resumes_manned : (id : SessionId) (i : ℕ) → AllManned (server_after S m (resume_work S k m id i))
  unfolding resume_work
  resumes_manned id i = go (session_of m id) refl
    where
      go : (o : Option SessionM) → session_of m id ≡ o → AllManned (server_after S m (when_found (Err not_standing) (λ s. cond (works_at s i) (Ok (run_slot S k m id i s)) (Err no_work)) o))
      go None e = all
      go (Some s) e = by_test id i s (works_at s i) e

pub stays_manned : (S : ServiceModel) → StaysManned S
stays_manned S = record {
  made = λ boot count q s e. absurd (none_stands 8 q s e);
  opened = opens_manned;
  retargeting = retargets_manned;
  closing = closes_manned;
  serving = serves_manned;
  ran = λ k m w all. runs_manned S k m all w;
  resumed = λ k m id i all. resumes_manned S k m all id i;
}
