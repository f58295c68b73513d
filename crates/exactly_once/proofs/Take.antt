-- Take keeps the invariant: the reply that closes a call, by its status, and then the whole call.
use Rattle.std.proofs.Common.{◌≡◌, ℕ, ◌+◌, ◌<◌, ◌≤◌, Bool, true, false, cond, eqb, ltb, ◌⊎◌, ◌∷◌, length, Some, None, sym, refl, ap, ◌∙◌, subst, inl, inr, arith}
use Rattle.std.proofs.lemmas.Bool.{and_from, lt-ltb}
use Rattle.common.specs.Bytes.{Bytes}
use Rattle.wire.specs.Wire.{Request, Reply, reply_message}
use Rattle.common.specs.Search.{when_found}
use Rattle.server.specs.Server.{SessionM, kept, slot_at}
use Rattle.terminal.specs.Terminal.{TerminalM, OpenCall, Effect, answered, done, unknown, still_open, reply_effect, belongs, closed, learns, after_effect, after_accept, end_at}
use Rattle.exactly_once.specs.History.{asked_take, taken, History}
use Rattle.exactly_once.specs.Words.{Call, Stands, RanBefore}
use Rattle.exactly_once.specs.Steps.{Parts, Model, terminal_at, rest_replies, with_terminal, take_effect, act}
use Rattle.exactly_once.specs.Lived.{PartsLaws}
use Rattle.exactly_once.proofs.Messages.{same_reply_target}
use Rattle.exactly_once.proofs.Tables.{some_same}
use Rattle.exactly_once.proofs.Carry.{put_one}
use Rattle.exactly_once.proofs.Invariant.{Known, Unkept, Put, result, ByLast, Answers, ByStatus, Shutting, Ready, ServerSide, BothSides, Inv}
use Rattle.exactly_once.proofs.Quiet.{Good}
use Rattle.exactly_once.proofs.Taking.{take_keeps_by}
use Rattle.exactly_once.proofs.Belonging.{Belonging, belonging}
use Rattle.exactly_once.proofs.Closed.{ClosedAt, teaches, tells_shut, closed_one, closed_learns}
use Rattle.exactly_once.proofs.Closing.{Rightly, closing_inv}

-- what a reply does, by its status
abbrev effect_of : ℕ → Bytes → Effect
effect_of n b = cond (eqb n 0) (answered b) (cond (eqb n 10068) done (cond (eqb n 10052) unknown (still_open n)))

pub effect_answered : (r : Reply) → r.status ≡ 0 → reply_effect r ≡ answered r.body
effect_answered r e = ap (λ n. effect_of n r.body) e

pub effect_done : (r : Reply) → r.status ≡ 10068 → reply_effect r ≡ done
effect_done r e = ap (λ n. effect_of n r.body) e

pub effect_unknown : (r : Reply) → r.status ≡ 10052 → reply_effect r ≡ unknown
effect_unknown r e = ap (λ n. effect_of n r.body) e

-- the terminal after a reply that belongs to its open call k
pub accepted_is : (T : TerminalM) (r : Reply) (k : OpenCall) → belongs T r ≡ true → (end_at T r.slot).call ≡ Some k → after_accept T r ≡ after_effect T k r (reply_effect r)
unfolding after_accept
accepted_is T r k be e = ap (λ x. cond x (when_found T (λ y. after_effect T y r (reply_effect r)) (end_at T r.slot).call) T) be ∙ ap (when_found T (λ y. after_effect T y r (reply_effect r))) e

-- a reply of status 0 with a request's id, number and slot
pub as_result : (f : Request) (r : Reply) → r.status ≡ 0 → r.id ≡ f.id → r.number ≡ f.number → r.slot ≡ f.slot → r ≡ result f r.highest r.target r.body
as_result f r a b c d = λ i. record { status = a i; id = b i; number = c i; slot = d i; highest = r.highest; target = r.target; body = r.body }

module _ (P : Parts) (laws : PartsLaws P) (first : P.service.Content) (h : History) (m : Model P) (inv : Inv P first h m) (room : ℕ) (t o : ℕ) (c : Call) (f : Request) (r : Reply) (z : Known h t o c f) (an : Answers h o c f r) (p : ℕ) (T : TerminalM) (at : terminal_at P m p ≡ Some T) (be : belongs T r ≡ true) where
  is : Belonging h t o c f p T
  is = belonging P first h m inv t o c f r z an p T at be

  abbrev k : OpenCall
  k = is.held

  holds : (end_at T r.slot).call ≡ Some k
  holds = ap (λ s. (end_at T s).call) an.slot ∙ is.holds

  inside : r.slot < length T.slots
  inside = omega (arith, an.slot, (inv.calls.placed t o c f z).0, is.side.sixteen)

  -- a call that shut its slot: what its run put is kept there
  shut_by : (S : SessionM) → ServerSide h o S → (x : Shutting r.slot (end_at T r.slot) (slot_at S r.slot)) → ByLast h o c f (kept x.high x.goal x.bytes)
  shut_by S side x =
      let num : f.number ≡ (slot_at S f.slot).number = is.number ∙ ap (λ s. (end_at T s).number) (sym an.slot) ∙ x.level ∙ ap (λ s. (slot_at S s).number) an.slot in
      subst (ByLast h o c f) (ap (λ s. (slot_at S s).last) (sym an.slot) ∙ x.ran) (side.last_holds t c f z num).last

  -- the invariant, given the record after the reply and the effect
  by : (T' : TerminalM) (shut : Bool) (taught : ℕ) (g : Effect) → (((x : Bytes) × (g ≡ answered x)) ⊎ (g ≡ done) ⊎ (g ≡ unknown)) → reply_effect r ≡ g → after_effect T k r g ≡ T' → ClosedAt T T' r.slot shut taught → ((S : SessionM) → Stands h p o (length h) → ServerSide h o S → BothSides h o T S → Rightly h o c T S r.slot shut taught) → Good P first h (asked_take room) (take_effect P (rest_replies P m) (reply_message r) p r T (reply_effect r))
  by T' shut taught g ends eff to ch rightly =
      let whole : after_accept T r ≡ T' = accepted_is T r k be holds ∙ ap (after_effect T k r) eff ∙ to in
      subst (λ y. Good P first h (asked_take room) (take_effect P (rest_replies P m) (reply_message r) p r T y)) (sym eff)
      (subst (λ y. Inv P first (record { asked = asked_take room; answer = taken p r.slot g; put = None; took = Some (reply_message r) } ∷ h) (with_terminal P (rest_replies P m) p y)) (sym whole)
      (closing_inv P laws first h m inv t o c f z p T at is r.slot (sym an.slot) T' shut taught ch rightly room g ends (reply_message r)))

  -- status 0: the reply that the run put
  module _ (zero : r.status ≡ 0) (put : Put h o c (reply_message r)) where
    goal_low : r.target ≤ 15
    goal_low = subst (λ n. r.target ≤ cond (eqb n 0) 15 0) zero an.permitted.target

    put_result : Put h o c (reply_message (result f r.highest r.target r.body))
    put_result = subst (λ x. Put h o c (reply_message x)) (as_result f r zero an.id an.number an.slot) put

    answered_right : (S : SessionM) → ServerSide h o S → BothSides h o T S → Rightly h o c T S r.slot (tells_shut k r) (teaches k r)
    answered_right S side both = record {
      ran = (put.0, put.2, put.3);
      taught_ready = λ s. taught s k.fresh refl;
      shutting = shutting;
    }
      where
        taught : (s : ℕ) (b : Bool) → k.fresh ≡ b → s < cond b (r.target + 1) 0 → Ready s (end_at T s) (slot_at S s)
        taught s true e lt = both.fresh_ready t c f k r.highest r.target r.body z is.holds is.number e goal_low put_result s (omega (arith, lt))
        taught s false e lt = absurd (omega (arith, lt))

        shutting : Shutting r.slot (end_at T r.slot) (slot_at S r.slot) → tells_shut k r ≡ true
        shutting x =
            let w = shut_by S side x in
            let part : k.part ≡ true = ap (λ y. y.part) (some_same k x.call (sym holds ∙ x.is)) ∙ x.part in
            let low = w.3 in
            let same : r.target ≡ x.goal = same_reply_target r (result f x.high x.goal x.bytes) (omega (arith, goal_low)) (omega (arith, low)) (put_one h o c _ _ put w.0) in
            and_from k.part (ltb r.target r.slot) part (lt-ltb r.target r.slot (omega (arith, same, x.below)))

    closes_answered : Good P first h (asked_take room) (take_effect P (rest_replies P m) (reply_message r) p r T (reply_effect r))
    closes_answered = by (learns (closed T r.slot) k r) (tells_shut k r) (teaches k r) (answered r.body) (inl (r.body, refl)) (effect_answered r zero) refl (closed_learns T k r inside) (λ S st. answered_right S)

  closes_done : r.status ≡ 10068 → RanBefore h o c (length h) → Unkept c → Good P first h (asked_take room) (take_effect P (rest_replies P m) (reply_message r) p r T (reply_effect r))
  closes_done e ran un = by (closed T r.slot) false 0 done (inr (inl refl)) (effect_done r e) refl (closed_one T r.slot inside) (λ S st side both. record { ran = ran; taught_ready = λ s lt. absurd (omega (arith, lt)); shutting = λ x. absurd ((shut_by S side x).1 un) })

  closes_unknown : r.status ≡ 10052 → (Stands h c.terminal o (length h) → ⊥) → Good P first h (asked_take room) (take_effect P (rest_replies P m) (reply_message r) p r T (reply_effect r))
  closes_unknown e none = by (closed T r.slot) false 0 unknown (inr (inr refl)) (effect_unknown r e) refl (closed_one T r.slot inside) (λ S st side both. absurd (none (subst (λ x. Stands h x o (length h)) (sym is.place) st)))

  -- a reply that closes its call
  pub closes_good : ((n : ℕ) → reply_effect r ≡ still_open n → ⊥) → Good P first h (asked_take room) (take_effect P (rest_replies P m) (reply_message r) p r T (reply_effect r))
  closes_good closes = go an.by_status
    where
      go : ByStatus h o c f r → Good P first h (asked_take room) (take_effect P (rest_replies P m) (reply_message r) p r T (reply_effect r))
      go (inl x) = closes_answered x.0 x.1
      go (inr (inl x)) = closes_done x.0 x.1 x.2
      go (inr (inr (inl x))) = closes_unknown x.0 x.1
      go (inr (inr (inr x))) = absurd (closes r.status x)

module _ (P : Parts) (laws : PartsLaws P) (first : P.service.Content) where
  -- take
  pub take_keeps : (h : History) (m : Model P) → Inv P first h m → (room : ℕ) → Good P first h (asked_take room) (act P m (asked_take room))
  take_keeps h m inv room = take_keeps_by P laws first h m inv room (λ t o c f r z an i p T at be. closes_good P laws first h m inv room t o c f r z an p T at be)
