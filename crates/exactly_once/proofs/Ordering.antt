-- Order and part keep the invariant.
use Rattle.std.proofs.Common.{◌≡◌, ℕ, ◌+◌, ◌-◌, ◌<◌, ◌≤◌, max, Bool, true, false, cond, not, ◌&&◌, ltb, leb, List, [], ◌∷◌, length, Some, None, Ok, Err, Option, sym, refl, subst, inl, inr, arith}
use Rattle.std.proofs.lemmas.Bool.{and_parts, ltb-true, ltb-false, leb-true, le-ltb, lt-ltb, cond_both}
use Rattle.common.specs.Bytes.{Bytes}
use Rattle.wire.specs.Wire.{short_scratch, no_terminal, long_body, no_slot, no_part}
use Rattle.common.specs.Search.{when_found, lowest_at}
use Rattle.slots.specs.Slots.{highest_at, has_next}
use Rattle.terminal.specs.Terminal.{TerminalM, EndM, end_at, new_end, is_busy, is_ready, begin, order_call, order_highest, order_sends, can_part, part_call, part_sends}
use Rattle.exactly_once.specs.History.{asked_order, asked_part, ordered, History}
use Rattle.exactly_once.specs.Steps.{Parts, Model, terminal_at, send_by, send_step, is_short, act}
use Rattle.exactly_once.specs.Lived.{PartsLaws}
use Rattle.exactly_once.proofs.Tables.{lowest_tells}
use Rattle.exactly_once.proofs.Invariant.{Inv}
use Rattle.exactly_once.proofs.Present.{at_rest_none}
use Rattle.exactly_once.proofs.Quiet.{Good, good_cond, good_found, good_refused}
use Rattle.exactly_once.proofs.Begun.{FitCall, begun_inv}

-- the highest index is within the table
pub highest_bound : {X : Type 0} (test : X → Bool) (xs : List X) (i best b : ℕ) → best ≤ b → i + length xs ≤ b + 1 → highest_at test xs i best ≤ b
highest_bound test [] i best b le lt = le
highest_bound test (x ∷ xs) i best b le lt = highest_bound test xs (i + 1) (cond (test x) i best) b (cond_both (test x) i best (λ y. y ≤ b) (λ z. omega (arith, lt)) (λ z. le)) (omega (arith, lt))

max_bound : (a b c : ℕ) → a ≤ c → b ≤ c → max a b ≤ c
max_bound a b c x y = omega arith

max_left : (a b : ℕ) → a ≤ max a b
max_left a b = omega arith

-- what a ready slot is
ready_tells : (x : EndM) → is_ready x ≡ true → (x.usable ≡ true) × (x.call ≡ None) × (x.number < 4294967295)
ready_tells x e =
    let p = and_parts x.usable (not (is_busy x) && has_next x.number) e in
    let q = and_parts (not (is_busy x)) (has_next x.number) p.1 in
    (p.0, at_rest_none x q.0, ltb-true x.number 4294967295 q.1)

module _ (P : Parts) (laws : PartsLaws P) (first : P.service.Content) (h : History) (m : Model P) (inv : Inv P first h m) (p room : ℕ) where
  sixteen : (T : TerminalM) → terminal_at P m p ≡ Some T → length T.slots ≡ 16
  sixteen T at = let w = inv.places.terminal_known p T at in (inv.terminals p w.0 T w.1 at).sixteen

  module _ (keep : Bool) (body : Bytes) where
    order_fit : (T : TerminalM) (i : ℕ) → length T.slots ≡ 16 → length body ≤ 256 → i ≤ 15 → is_ready (end_at T i) ≡ true → FitCall T i (order_call T i keep body)
    order_fit T i len short le ready =
        let r = ready_tells (end_at T i) ready in
        record {
          slot = le;
          rest = r.1;
          usable = r.0;
          next = r.2;
          highest = max_bound i (highest_at is_busy T.slots 0 0) 15 le (highest_bound is_busy T.slots 0 0 15 (omega arith) (omega (arith, len)));
          part = sym (le-ltb (order_highest T i) i (max_left i (highest_at is_busy T.slots 0 0)));
          bare = λ z. absurd (let w : ◌≡◌ {A = ℕ} 0 1 = cc in omega arith);
          form = inl (max_left i (highest_at is_busy T.slots 0 0));
          short = short;
        }

    order_by : (T : TerminalM) → terminal_at P m p ≡ Some T → Good P first h (asked_order p keep body room) (send_by P m p ordered (order_sends T keep body))
    unfolding order_sends
    order_by T at = go (ltb 256 (length body)) refl (lowest_at is_ready T.slots 0) refl
      where
        go : (b : Bool) → ltb 256 (length body) ≡ b → (i : Option ℕ) → lowest_at is_ready T.slots 0 ≡ i → Good P first h (asked_order p keep body room) (send_by P m p ordered (cond b (Err long_body) (when_found (Err no_slot) (λ j. Ok (begin T j (order_call T j keep body))) i)))
        go true e i f = good_refused P first h (asked_order p keep body room) m long_body inv
        go false e None f = good_refused P first h (asked_order p keep body room) m no_slot inv
        go false e (Some i) f =
            let l = lowest_tells is_ready T.slots 0 new_end i f in
            let is : l.0 ≡ i = omega (arith, l.1) in
            let le : i ≤ 15 = omega (arith, is, l.2.inside, sixteen T at) in
            let ready : is_ready (end_at T i) ≡ true = subst (λ x. is_ready (end_at T x) ≡ true) is l.2.passes in
            begun_inv P laws first h m inv p T at i (order_call T i keep body) (order_fit T i (sixteen T at) (ltb-false 256 (length body) e) le ready) (asked_order p keep body room) (refl, refl, inl (room, refl))

    pub order_keeps : Good P first h (asked_order p keep body room) (act P m (asked_order p keep body room))
    unfolding send_step
    order_keeps =
        good_cond P first h (asked_order p keep body room) (is_short room) _ _
        (λ e. good_refused P first h (asked_order p keep body room) m short_scratch inv)
        (λ e. good_found P first h (asked_order p keep body room) _ _ (terminal_at P m p) (good_refused P first h (asked_order p keep body room) m no_terminal inv) order_by)

  module _ (i : ℕ) where
    part_fit : (T : TerminalM) → can_part T i ≡ true → FitCall T i (part_call i)
    part_fit T e =
        let a = and_parts (leb 1 i) (leb i 15 && (ltb T.heard i && is_ready (end_at T i))) e in
        let b = and_parts (leb i 15) (ltb T.heard i && is_ready (end_at T i)) a.1 in
        let c = and_parts (ltb T.heard i) (is_ready (end_at T i)) b.1 in
        let one = leb-true 1 i a.0 in
        let le = leb-true i 15 b.0 in
        let r = ready_tells (end_at T i) c.1 in
        record {
          slot = le;
          rest = r.1;
          usable = r.0;
          next = r.2;
          highest = omega (arith, le);
          part = sym (lt-ltb (i - 1) i (omega (arith, one)));
          bare = λ z. refl;
          form = inr refl;
          short = omega arith;
        }

    part_by : (T : TerminalM) → terminal_at P m p ≡ Some T → Good P first h (asked_part p i room) (send_by P m p ordered (part_sends T i))
    unfolding part_sends
    part_by T at = go (can_part T i) refl
      where
        go : (b : Bool) → can_part T i ≡ b → Good P first h (asked_part p i room) (send_by P m p ordered (cond b (Ok (begin T i (part_call i))) (Err no_part)))
        go false e = good_refused P first h (asked_part p i room) m no_part inv
        go true e = begun_inv P laws first h m inv p T at i (part_call i) (part_fit T e) (asked_part p i room) (refl, refl, inr (room, refl, refl, refl))

    pub part_keeps : Good P first h (asked_part p i room) (act P m (asked_part p i room))
    unfolding send_step
    part_keeps =
        good_cond P first h (asked_part p i room) (is_short room) _ _
        (λ e. good_refused P first h (asked_part p i room) m short_scratch inv)
        (λ e. good_found P first h (asked_part p i room) _ _ (terminal_at P m p) (good_refused P first h (asked_part p i room) m no_terminal inv) part_by)
