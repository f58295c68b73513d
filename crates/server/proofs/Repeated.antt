-- Work runs once, and repeats of its request get what became of it.
use Rattle.std.proofs.Common.{◌≡◌, ℕ, zero, suc, ◌+◌, ◌<◌, ◌≤◌, Bool, true, false, cond, not, ◌&&◌, ◌||◌, eqb, leb, List, [], ◌∷◌, length, get_or, set, Some, None, Ok, Err, Option, sym, refl, ap, ◌∙◌, ⊎_elim, arith}
use borrow.Author.Tests.{clash}
use Rattle.std.specs.Str.{bytes_eq}
use Rattle.std.proofs.lemmas.List.{get_or-set_same, get_or_past, set_past, length-set}
use Rattle.std.proofs.lemmas.Bool.{cond-true, cond-false, cases_lt, and_from, and_left, and_right, and_parts, not_from_false, eq-eqb, ne_eqb, eqb-true, le-ltb}
use Rattle.common.specs.Bytes.{Bytes}
use Rattle.common.specs.Search.{when_found, lowest_at}
use Rattle.slots.proofs.Slots.{lowest_some}
use Rattle.wire.specs.Wire.{SessionId, Request, refusing, read_request, no_work}
use Rattle.service.specs.Service.{ServiceModel}
use Rattle.server.specs.Server.{Last, never, in_progress, kept, not_kept, SlotM, SessionM, ServerM, Verdict, refuse, repeat, new, says, old, work, Serving, Work, Run, new_slot, with_slot, slot_at, has_id, place_of, session_of, with_session, same_flag, is_working, is_repeat, is_new, is_same, judge_last, judge_repeat, judge_new, judge, verdict, accepted, outcome_reply, serve_by, serve_read, serve, is_kept, run_open, run_highest, finished, works_at, is_in_hand, run_bytes, run_slot, run_work}
use Rattle.server.specs.Laws.{Repeats}
use Rattle.server.proofs.Slots.{new_in}

-- one that passes the test in the place of the lowest that does is the lowest
lowest_set : {X : Type 0} (test : X → Bool) (xs : List X) (k i j : ℕ) (y : X) → lowest_at test xs k ≡ Some i → i ≡ k + j → test y ≡ true → lowest_at test (set xs j y) k ≡ Some i
lowest_set test [] k i j y e n t = e
lowest_set test (x ∷ xs) k i j y e n t = go (test x) refl (λ l. lowest_set test xs (k + 1) i l y) j e n t
  where
    go : (b : Bool) → test x ≡ b → ((l : ℕ) → lowest_at test xs (k + 1) ≡ Some i → i ≡ k + 1 + l → test y ≡ true → lowest_at test (set xs l y) (k + 1) ≡ Some i) → (j : ℕ) → cond b (Some k) (lowest_at test xs (k + 1)) ≡ Some i → i ≡ k + j → test y ≡ true → lowest_at test (set (x ∷ xs) j y) k ≡ Some i
    go true h rest zero e n t = rw t e
    go true h rest (suc j) e n t = rw h e
    go false h rest zero e n t = absurd (let r = lowest_some test xs (k + 1) i y e in omega arith)
    go false h rest (suc j) e n t = rw h (rest j e (omega arith) t)

-- what was put in the place of a standing session, under its id, is found there
pub session_with : (m : ServerM) (id : SessionId) (x s : SessionM) → session_of m id ≡ Some x → s.id ≡ x.id → session_of (with_session m id (Some s)) id ≡ Some s
unfolding session_of with_session
session_with m id x s e f = go (place_of m id) refl e
  where
    go : (o : Option ℕ) → place_of m id ≡ o → when_found None (λ i. get_or m.sessions i None) o ≡ Some x → when_found None (λ i. get_or (when_found m.sessions (λ j. set m.sessions j (Some s)) o) i None) (lowest_at (has_id id) (when_found m.sessions (λ j. set m.sessions j (Some s)) o) 0) ≡ Some s
    go None p e = absurd (let z : ◌≡◌ {A = ℕ} 0 1 = cc in omega arith)
    go (Some i) p e =
        let r = lowest_some (has_id id) m.sessions 0 i None p in
        let at : r.at ≡ i = omega arith in
        let h : has_id id (Some s) ≡ true = ap (λ u. has_id id (Some (record { id = u; target = s.target; slots = s.slots }))) f ∙ sym (ap (has_id id) (ap (λ n. get_or m.sessions n None) at ∙ e)) ∙ r.holds in
        let l : lowest_at (has_id id) (set m.sessions i (Some s)) 0 ≡ Some i = lowest_set (has_id id) m.sessions 0 i i (Some s) p (omega arith) h in
        rw l (get_or-set_same m.sessions i (Some s) None (omega arith))

-- a slot with the head of a request
abbrev asked_slot : Bool → Request → Last → SlotM
asked_slot o q l = record { is_open = o; number = q.number; highest = q.highest; keep = q.keep; body = q.body; last = l }

same_bytes : (xs : List ℕ) → bytes_eq xs xs ≡ true
same_bytes [] = refl
same_bytes (x ∷ xs) = and_from (eqb x x) (bytes_eq xs xs) (eq-eqb x x refl) (same_bytes xs)

same_keep : (b : Bool) → same_flag b b ≡ true
same_keep true = refl
same_keep false = refl

-- the request itself, again, gets what is kept
judged : (o : Bool) (q : Request) (l : Last) → (q.number ≡ 0 → ⊥) → judge (asked_slot o q l) q ≡ judge_last l
judged o q l n =
    let again : is_repeat (asked_slot o q l) q ≡ true = and_from (eqb q.number q.number) (not (eqb q.number 0)) (eq-eqb q.number q.number refl) (not_from_false (eqb q.number 0) (ne_eqb q.number 0 n)) in
    let flag = same_flag q.keep q.keep in
    let bytes = bytes_eq q.body q.body in
    let same : is_same (asked_slot o q l) q ≡ true = and_from (eqb q.highest q.highest) (flag && bytes) (eq-eqb q.highest q.highest refl) (and_from flag bytes (same_keep q.keep) (same_bytes q.body)) in
    cond-true _ _ _ again ∙ cond-true _ _ _ same

-- a slot that was written is the one that is read, where there is such a slot
slot_put : (s : SessionM) (i : ℕ) (x : SlotM) → i < length s.slots → slot_at (with_slot s i x) i ≡ x
slot_put s i x h = get_or-set_same s.slots i x new_slot h

within : (s : SessionM) (i : ℕ) → (slot_at s i).is_open ≡ true → i < length s.slots
within s i e = ⊎_elim (λ h. h) (λ h. absurd (clash (sym (ap (λ (x : SlotM). x.is_open) (get_or_past s.slots i new_slot h)) ∙ e))) (cases_lt i (length s.slots))

-- a new call has a number other than 0
new_number : (x : SlotM) (q : Request) → judge x q ≡ new → q.number ≡ 0 → ⊥
new_number x q e z = go (is_repeat x q) (is_new x q) refl e
  where
    last_not : (b : Bool) (l : Last) → cond b (judge_last l) (refuse 10076) ≡ new → ⊥
    last_not false l e = let y : ◌≡◌ {A = ℕ} 0 1 = cc in omega arith
    last_not true never e = let y : ◌≡◌ {A = ℕ} 0 1 = cc in omega arith
    last_not true in_progress e = let y : ◌≡◌ {A = ℕ} 0 1 = cc in omega arith
    last_not true (kept h t b) e = let y : ◌≡◌ {A = ℕ} 0 1 = cc in omega arith
    last_not true not_kept e = let y : ◌≡◌ {A = ℕ} 0 1 = cc in omega arith

    go : (a b : Bool) → is_new x q ≡ b → cond a (judge_repeat x q) (cond b (judge_new x q) (refuse 10063)) ≡ new → ⊥
    go true b h e = last_not (is_same x q) x.last e
    go false true h e =
        let first = eqb q.number (x.number + 1) in
        let rest = not (is_working x.last) in
        let k = eqb-true q.number (x.number + 1) (and_parts first rest h).0 in
        omega arith
    go false false h e = let y : ◌≡◌ {A = ℕ} 0 1 = cc in omega arith

judge_of : (s : SessionM) (q : Request) → q.slot ≤ 15 → verdict s q ≡ judge (slot_at s q.slot) q
judge_of s q h = cond-false _ _ _ (le-ltb 15 q.slot h)

-- where a request was new, and what came of it
record Came (m : ServerM) (bs : Bytes) (q : Request) (w : Work) : Type 0 where
  s : SessionM
  stands : session_of m q.id ≡ Some s
  low : q.slot ≤ 15
  room : q.slot < length s.slots
  number : q.number ≡ 0 → ⊥
  order : w ≡ record { id = q.id; slot = q.slot; number = q.number }
  after : (serve m bs).after ≡ with_session m q.id (Some (with_slot s q.slot (accepted (slot_at s q.slot) q)))

came : (m : ServerM) (bs : Bytes) (q : Request) (w : Work) → read_request bs ≡ Ok q → (serve m bs).answer ≡ work w → Came m bs q w
unfolding serve
came m bs q w e a = found (session_of m q.id) refl (ap (λ r. (serve_read m r).answer) (sym e) ∙ a) (ap (λ r. (serve_read m r).after) e)
  where
    by : (s : SessionM) (v : Verdict) → session_of m q.id ≡ Some s → verdict s q ≡ v → (serve_by v m s q).answer ≡ work w → (serve m bs).after ≡ (serve_by v m s q).after → Came m bs q w
    by s (refuse n) st h a f = absurd (let y : ◌≡◌ {A = ℕ} 0 1 = cc in omega arith)
    by s (repeat h t b) st g a f = absurd (let y : ◌≡◌ {A = ℕ} 0 1 = cc in omega arith)
    by s new st h a f =
        let n = new_in s q h in
        record {
          s = s;
          stands = st;
          low = n.0;
          room = within s q.slot n.1;
          number = new_number (slot_at s q.slot) q (sym (judge_of s q n.0) ∙ h);
          order = cc;
          after = f;
        }

    found : (o : Option SessionM) → session_of m q.id ≡ o → (when_found {X = Serving} (record { answer = says (refusing q 10052); after = m }) (λ s. serve_by (verdict s q) m s q) o).answer ≡ work w → (serve m bs).after ≡ (when_found {X = Serving} (record { answer = says (refusing q 10052); after = m }) (λ s. serve_by (verdict s q) m s q) o).after → Came m bs q w
    found None st a f = absurd (let y : ◌≡◌ {A = ℕ} 0 1 = cc in omega arith)
    found (Some s) st a f = by s (verdict s q) st refl a f

-- serve, where the session of the request stands
serve_there : (m : ServerM) (bs : Bytes) (q : Request) (s : SessionM) → read_request bs ≡ Ok q → session_of m q.id ≡ Some s → (serve m bs).answer ≡ (serve_by (verdict s q) m s q).answer
unfolding serve
serve_there m bs q s e h = ap (λ r. (serve_read m r).answer) e ∙ ap (λ o. (when_found {X = Serving} (record { answer = says (refusing q 10052); after = m }) (λ r. serve_by (verdict r q) m r q) o).answer) h

module _ (m : ServerM) (bs : Bytes) (q : Request) (w : Work) (e : read_request bs ≡ Ok q) (c : Came m bs q w) where
  -- the server and the session with the call in progress
  abbrev n : ServerM
  n = (serve m bs).after

  abbrev i : ℕ
  i = q.slot

  abbrev t : SessionM
  t = with_slot c.s i (accepted (slot_at c.s i) q)

  there : session_of n q.id ≡ Some t
  there = ap (λ o. session_of o q.id) c.after ∙ session_with m q.id c.s t c.stands refl

  slot_there : slot_at t i ≡ asked_slot (slot_at c.s i).is_open q in_progress
  slot_there = slot_put c.s i (accepted (slot_at c.s i) q) c.room

  still : (serve n bs).answer ≡ says (refusing q 10008)
  still =
      serve_there n bs q t e there
      ∙ ap (λ v. (serve_by v n t q).answer) (judge_of t q c.low ∙ ap (λ x. judge x q) slot_there ∙ judged (slot_at c.s i).is_open q in_progress c.number)

  module _ (S : ServiceModel) (k : S.Content) (r : Run S) (g : r ≡ run_slot S k n q.id i t) where
    abbrev bytes : Bytes
    bytes = run_bytes S k (slot_at t i)

    abbrev u : SessionM
    u = with_slot t i (finished t i bytes)

    abbrev top : ℕ
    top = run_highest t i

    ended : session_of r.server q.id ≡ Some u
    ended = ap (λ (o : Run S). session_of o.server q.id) g ∙ session_with n q.id t u there refl

    slot_ended : slot_at u i ≡ asked_slot (run_open t i) q (cond (eqb (length q.body) 0 || q.keep) (kept top t.target bytes) not_kept)
    slot_ended =
        slot_put t i (finished t i bytes) (omega (arith, c.room, length-set c.s.slots i (accepted (slot_at c.s i) q)))
        ∙ (λ j. record { is_open = run_open t i; number = (slot_there j).number; highest = (slot_there j).highest; keep = (slot_there j).keep; body = (slot_there j).body; last = cond (is_kept (slot_there j)) (kept top t.target bytes) not_kept })

    said : (b : Bool) → (serve_by (judge_last (cond b (kept top t.target bytes) not_kept)) r.server u q).answer ≡ cond b (old r.reply) (says (refusing q 10068))
    said true = ap old (sym (ap (λ (o : Run S). o.reply) g ∙ (λ j. outcome_reply q.id (slot_there j).number i top t.target bytes)))
    said false = refl

    kept_so : (serve r.server bs).answer ≡ cond (eqb (length q.body) 0 || q.keep) (old r.reply) (says (refusing q 10068))
    kept_so =
        serve_there r.server bs q u e ended
        ∙ ap (λ v. (serve_by v r.server u q).answer) (judge_of u q c.low ∙ ap (λ x. judge x q) slot_ended ∙ judged (run_open t i) q _ c.number)
        ∙ said (eqb (length q.body) 0 || q.keep)

-- work that has run: where, and what it left
module _ (S : ServiceModel) (k : S.Content) (m : ServerM) (w : Work) (r : Run S) where
  ran_at : (s : SessionM) → session_of m w.id ≡ Some s → run_work S k m w ≡ Ok r → (is_in_hand s w ≡ true) × (r ≡ run_slot S k m w.id w.slot s)
  unfolding run_work
  ran_at s h e = go (is_in_hand s w) refl (sym (ap (when_found (Err no_work) (λ x. cond (is_in_hand x w) (Ok (run_slot S k m w.id w.slot x)) (Err no_work))) h) ∙ e)
    where
      go : (b : Bool) → is_in_hand s w ≡ b → cond b (Ok (run_slot S k m w.id w.slot s)) (Err no_work) ≡ Ok r → (is_in_hand s w ≡ true) × (r ≡ run_slot S k m w.id w.slot s)
      go true h e = (h, cc)
      go false h e = absurd (let y : ◌≡◌ {A = ℕ} 0 1 = cc in omega arith)

  ran_somewhere : run_work S k m w ≡ Ok r → (s : SessionM) × (session_of m w.id ≡ Some s)
  unfolding run_work
  ran_somewhere e = go (session_of m w.id) refl e
    where
      go : (o : Option SessionM) → session_of m w.id ≡ o → when_found (Err no_work) (λ x. cond (is_in_hand x w) (Ok (run_slot S k m w.id w.slot x)) (Err no_work)) o ≡ Ok r → (s : SessionM) × (session_of m w.id ≡ Some s)
      go None h e = absurd (let y : ◌≡◌ {A = ℕ} 0 1 = cc in omega arith)
      go (Some s) h e = (s, h)

  -- nothing is in progress at the slot afterwards
  idle : (s : SessionM) (bytes : Bytes) → is_working (slot_at (with_slot s w.slot (finished s w.slot bytes)) w.slot).last ≡ false
  idle s bytes = ⊎_elim
      (λ h. ap (λ (x : SlotM). is_working x.last) (slot_put s w.slot (finished s w.slot bytes) h) ∙ none (is_kept (slot_at s w.slot)))
      (λ h. ap (λ xs. is_working (get_or xs w.slot new_slot).last) (set_past s.slots w.slot (finished s w.slot bytes) h) ∙ ap (λ (x : SlotM). is_working x.last) (get_or_past s.slots w.slot new_slot h))
      (cases_lt w.slot (length s.slots))
    where
      none : (b : Bool) → is_working (cond b (kept (run_highest s w.slot) s.target bytes) not_kept) ≡ false
      none true = refl
      none false = refl

  runs_once : (k' : S.Content) → run_work S k m w ≡ Ok r → run_work S k' r.server w ≡ Err no_work
  unfolding run_work
  runs_once k' e =
      let f = ran_somewhere e in
      let s = f.0 in
      let g = ran_at s f.1 e in
      let bytes = run_bytes S k (slot_at s w.slot) in
      let u = with_slot s w.slot (finished s w.slot bytes) in
      let h : session_of r.server w.id ≡ Some u = ap (λ (o : Run S). session_of o.server w.id) g.1 ∙ session_with m w.id s u f.1 refl in
      let works = works_at u w.slot in
      let number = eqb (slot_at u w.slot).number w.number in
      let no : is_in_hand u w ≡ false = and_left works number (and_right (leb w.slot 15) (is_working (slot_at u w.slot).last) (idle s bytes)) in
      ap (when_found (Err no_work) (λ x. cond (is_in_hand x w) (Ok (run_slot S k' r.server w.id w.slot x)) (Err no_work))) h ∙ cond-false _ _ _ no

pub repeated : (S : ServiceModel) → Repeats S
repeated S = record {
  once = λ k k' m w r e. runs_once S k m w r k' e;
  waits = λ m bs q w e a. still m bs q w e (came m bs q w e a);
  same_outcome = λ k m bs q w r e a f.
      let c = came m bs q w e a in
      let w' : Work = record { id = q.id; slot = q.slot; number = q.number } in
      let n = (serve m bs).after in
      let f' : run_work S k n w' ≡ Ok r = sym (ap (run_work S k n) c.order) ∙ f in
      kept_so m bs q w e c S k r (ran_at S k n w' r (t m bs q w e c) (there m bs q w e c) f').1;
}
