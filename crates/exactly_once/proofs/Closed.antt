-- A terminal after a reply that closed a call: what each slot holds then.
use Rattle.std.proofs.Common.{◌≡◌, ℕ, zero, suc, ◌+◌, ◌<◌, ◌≤◌, Bool, true, false, cond, ◌&&◌, ltb, ◌≢◌, ◌⊎◌, List, [], ◌∷◌, map, length, get_or, set, Some, None, Option, sym, refl, ap, ◌∙◌, subst, inl, inr, ⊎_elim, arith}
use lib.ListN.{length-map}
use borrow.Author.Tests.{clash}
use Rattle.std.proofs.lemmas.List.{get_or-set_same, get_or-set_other, length-set, get_or_past}
use Rattle.std.proofs.lemmas.Bool.{cases_lt}
use Rattle.std.specs.Option.{option_map}
use Rattle.wire.specs.Wire.{Reply}
use Rattle.terminal.specs.Terminal.{TerminalM, EndM, OpenCall, new_end, end_at, with_usable, at_rest, closed, heard_target, stale_call, stale, parted, learns_target, learns}
use Rattle.exactly_once.proofs.Tables.{at_each, front_inside, front_outside, front_length}

-- an open call once its terminal has learnt that a slot is shut, or has not
abbrev pub aged : Bool → OpenCall → OpenCall
aged shut k = record { highest = k.highest; keep = k.keep; body = k.body; part = k.part; fresh = cond shut false k.fresh }

-- T' is T with the call at slot i closed, with the slots below `taught` made usable, and, if `shut`, with slot i no longer so and no call fresh
pub record ClosedAt (T T' : TerminalM) (i : ℕ) (shut : Bool) (taught : ℕ) : Type 0 where
  pub id : T'.id ≡ T.id
  pub sixteen : length T'.slots ≡ length T.slots
  pub number : (s : ℕ) → (end_at T' s).number ≡ (end_at T s).number
  pub rest : (end_at T' i).call ≡ None
  pub other : (s : ℕ) → s ≢ i → (end_at T' s).call ≡ option_map (aged shut) (end_at T s).call
  pub usable : (s : ℕ) → s ≢ i → (end_at T s).usable ≡ true → (end_at T' s).usable ≡ true
  pub learnt : (s : ℕ) → (end_at T' s).usable ≡ true → ((end_at T s).usable ≡ true) ⊎ (s < taught)
  pub gone : shut ≡ true → (end_at T' i).usable ≡ true → ⊥

unaged : (x : Option OpenCall) → x ≡ option_map (aged false) x
unaged None = refl
unaged (Some k) = refl

-- the call alone
pub closed_one : (T : TerminalM) (i : ℕ) → i < length T.slots → ClosedAt T (closed T i) i false 0
closed_one T i inside = record {
  id = refl;
  sixteen = length-set T.slots i _;
  number = at_each (λ s x. x.number ≡ (end_at T s).number) T.slots i (at_rest (end_at T i)) new_end inside refl (λ s ne. refl);
  rest = ap (λ x. x.call) (get_or-set_same T.slots i (at_rest (end_at T i)) new_end inside);
  other = λ s ne. ap (λ x. x.call) (get_or-set_other T.slots i s (at_rest (end_at T i)) new_end ne) ∙ unaged (end_at T s).call;
  usable = at_each (λ s x. s ≢ i → (end_at T s).usable ≡ true → x.usable ≡ true) T.slots i (at_rest (end_at T i)) new_end inside (λ ne u. u) (λ s ne1 ne u. u);
  learnt = at_each (λ s x. x.usable ≡ true → ((end_at T s).usable ≡ true) ⊎ (s < 0)) T.slots i (at_rest (end_at T i)) new_end inside inl (λ s ne. inl);
  gone = λ x u. absurd (clash x);
}

-- what holds of each slot once a target is heard
at_front : (Q : ℕ → EndM → Type 0) (T : TerminalM) (goal : ℕ) → ((s : ℕ) → s < goal + 1 → Q s (with_usable true (end_at T s))) → ((s : ℕ) → Q s (end_at T s)) → (s : ℕ) → Q s (end_at (heard_target T goal) s)
at_front Q T goal new old s = ⊎_elim within (λ le. subst (Q s) (sym (front_outside (with_usable true) (goal + 1) T.slots s new_end le)) (old s)) (cases_lt s (goal + 1))
  where
    past : length T.slots ≤ s → end_at T s ≡ end_at (heard_target T goal) s
    past le = get_or_past T.slots s new_end le ∙ sym (get_or_past (heard_target T goal).slots s new_end (omega (arith, le, front_length (with_usable true) (goal + 1) T.slots)))

    within : s < goal + 1 → Q s (end_at (heard_target T goal) s)
    within lt = ⊎_elim (λ inside. subst (Q s) (sym (front_inside (with_usable true) (goal + 1) T.slots s new_end lt inside)) (new s lt)) (λ le. subst (Q s) (past le) (old s)) (cases_lt s (length T.slots))

-- and then a target heard
pub closed_taught : (T U : TerminalM) (i goal : ℕ) → ClosedAt T U i false 0 → ClosedAt T (heard_target U goal) i false (goal + 1)
closed_taught T U i goal x = record {
  id = x.id;
  sixteen = front_length (with_usable true) (goal + 1) U.slots ∙ x.sixteen;
  number = at_front (λ s y. y.number ≡ (end_at T s).number) U goal (λ s lt. x.number s) x.number;
  rest = at_front (λ s y. s ≡ i → y.call ≡ None) U goal (λ s lt. rest s) rest i refl;
  other = at_front (λ s y. s ≢ i → y.call ≡ option_map (aged false) (end_at T s).call) U goal (λ s lt. x.other s) x.other;
  usable = at_front (λ s y. s ≢ i → (end_at T s).usable ≡ true → y.usable ≡ true) U goal (λ s lt ne u. refl) x.usable;
  learnt = at_front (λ s y. y.usable ≡ true → ((end_at T s).usable ≡ true) ⊎ (s < goal + 1)) U goal (λ s lt u. inr lt) (λ s u. ⊎_elim inl (λ lt. absurd (omega (arith, lt))) (x.learnt s u));
  gone = λ y u. absurd (clash y);
}
  where
    rest : (s : ℕ) → s ≡ i → (end_at U s).call ≡ None
    rest s e = ap (λ j. (end_at U j).call) e ∙ x.rest

-- a slot of a table whose every slot has become stale
stale_at : (xs : List EndM) (s : ℕ) → get_or (map stale xs) s new_end ≡ stale (get_or xs s new_end)
stale_at [] s = refl
stale_at (y ∷ ys) zero = refl
stale_at (y ∷ ys) (suc s) = stale_at ys s

staled : (x : Option OpenCall) → option_map stale_call (option_map (aged false) x) ≡ option_map (aged true) x
staled None = refl
staled (Some k) = refl

-- and then its slot found shut
pub closed_parted : (T U : TerminalM) (i n : ℕ) → i < length T.slots → ClosedAt T U i false n → ClosedAt T (parted U i) i true n
closed_parted T U i n inside x = record {
  id = x.id;
  sixteen = length-map shut_slots stale ∙ length-set U.slots i (with_usable false (end_at U i)) ∙ x.sixteen;
  number = each (λ s y. y.number ≡ (end_at T s).number) (x.number i) (λ s ne. x.number s);
  rest = each (λ s y. s ≡ i → y.call ≡ None) (λ e. ap (option_map stale_call) x.rest) (λ s ne e. absurd (ne e)) i refl;
  other = each (λ s y. s ≢ i → y.call ≡ option_map (aged true) (end_at T s).call) (λ ne. absurd (ne refl)) (λ s ne1 ne. ap (option_map stale_call) (x.other s ne) ∙ staled (end_at T s).call);
  usable = each (λ s y. s ≢ i → (end_at T s).usable ≡ true → y.usable ≡ true) (λ ne. absurd (ne refl)) (λ s ne1. x.usable s);
  learnt = each (λ s y. y.usable ≡ true → ((end_at T s).usable ≡ true) ⊎ (s < n)) (λ u. absurd (clash u)) (λ s ne. x.learnt s);
  gone = λ y. each (λ s y. s ≡ i → y.usable ≡ true → ⊥) (λ e u. clash u) (λ s ne e. absurd (ne e)) i refl;
}
  where
    shut_slots : List EndM
    shut_slots = set U.slots i (with_usable false (end_at U i))

    each : (Q : ℕ → EndM → Type 0) → Q i (stale (with_usable false (end_at U i))) → ((s : ℕ) → s ≢ i → Q s (stale (end_at U s))) → (s : ℕ) → Q s (end_at (parted U i) s)
    each Q new old s = subst (Q s) (sym (stale_at (set U.slots i (with_usable false (end_at U i))) s)) (at_each (λ j y. Q j (stale y)) U.slots i (with_usable false (end_at U i)) new_end (omega (arith, inside, x.sixteen)) new old s)

-- how many slots a reply of status 0 to an open call teaches
abbrev pub teaches : OpenCall → Reply → ℕ
teaches k r = cond k.fresh (r.target + 1) 0

-- and whether it tells that its slot is shut
abbrev pub tells_shut : OpenCall → Reply → Bool
tells_shut k r = k.part && ltb r.target r.slot

-- a reply of status 0
pub closed_learns : (T : TerminalM) (k : OpenCall) (r : Reply) → r.slot < length T.slots → ClosedAt T (learns (closed T r.slot) k r) r.slot (tells_shut k r) (teaches k r)
closed_learns T k r inside = shutting (tells_shut k r)
  where
    teaching : (b : Bool) → ClosedAt T (cond b (heard_target (closed T r.slot) r.target) (closed T r.slot)) r.slot false (cond b (r.target + 1) 0)
    teaching true = closed_taught T (closed T r.slot) r.slot r.target (closed_one T r.slot inside)
    teaching false = closed_one T r.slot inside

    shutting : (b : Bool) → ClosedAt T (cond b (parted (learns_target (closed T r.slot) k r) r.slot) (learns_target (closed T r.slot) k r)) r.slot b (teaches k r)
    shutting true = closed_parted T (learns_target (closed T r.slot) k r) r.slot (teaches k r) inside (teaching k.fresh)
    shutting false = teaching k.fresh
