-- What holds of all times is kept by each call that a house meets.
use Rattle.std.proofs.Common.{◌≡◌, ℕ, ◌<◌, ◌≤◌, ◌∷◌, length, sym, ap, ◌∙◌, subst, ⊎_elim, arith}
use Rattle.std.proofs.lemmas.Bool.{cases_lt}
use Rattle.common.specs.Bytes.{Bytes}
use Rattle.wire.specs.Wire.{Request}
use Rattle.terminal.specs.Terminal.{Effect, answered, done}
use Rattle.exactly_once.specs.History.{Asked, ordered, Event, History, At}
use Rattle.exactly_once.specs.Words.{Call, Ordered, Stands, Session, ReplyCloses, Open, Closed, Ran, RanBefore}
use Rattle.exactly_once.specs.Steps.{Parts, Model, act, event_of}
use Rattle.exactly_once.specs.Lived.{PartsLaws}
use Rattle.exactly_once.proofs.Times.{newest_or_older}
use Rattle.exactly_once.proofs.Growth as growth
use Rattle.exactly_once.proofs.Growth.{Alike, flip, grown}
use Rattle.exactly_once.proofs.Newest.{Replies, ordered_now, session_old, session_kept, stands_old, closes_new}
use Rattle.exactly_once.proofs.Invariant.{Known, Inv}
use Rattle.exactly_once.proofs.Carry.{known_old}
use Rattle.exactly_once.proofs.Past.{HasFields, ResultPut, IsServed, HasResult, outcome, Past}
use Rattle.exactly_once.proofs.Earlier.{ran_below, put_up, served_still, ran_ordered, runs_still, result_still}
use Rattle.exactly_once.proofs.Orders.{orders_now}
use Rattle.exactly_once.proofs.Outcomes.{answered_put, done_ran}
use Rattle.exactly_once.proofs.Served.{results_put, served_now}
use Rattle.exactly_once.proofs.Results.{runs_known, result_now}

module _ (P : Parts) (laws : PartsLaws P) (first : P.service.Content) (h : History) (m : Model P) (inv : Inv P first h m) (a : Asked) (after : Inv P first (event_of P m a ∷ h) (act P m a).after) (past : Past P first h) where
  abbrev e : Event
  e = event_of P m a

  abbrev k : History
  k = e ∷ h

  abbrev n : ℕ
  n = length h

  abbrev up : Alike (length h) h (e ∷ h)
  up = grown e h

  abbrev down : Alike (length h) (e ∷ h) h
  down = flip (grown e h)

  -- an order accepted just now, or earlier
  orders : (t : ℕ) (v : Event) (s : ℕ) → At k t v → v.answer ≡ ordered s → (c : Call) × (o : ℕ) × Ordered k t c × Session k c.terminal o t
  orders t v s at is = ⊎_elim newest older (newest_or_older e h t v at)
    where
      newest : (t ≡ n) × (v ≡ e) → (c : Call) × (o : ℕ) × Ordered k t c × Session k c.terminal o t
      newest q =
          let w = orders_now P m s a (sym (ap (λ x. x.answer) q.1) ∙ is) in
          let or : Ordered k t w.0 = subst (λ x. Ordered k x w.0) (sym q.0) (ordered_now e h w.0 w.1) in
          let z = after.calls.known t w.0 or in
          (w.0, z.0, or, z.2.session)

      older : (t < n) × At h t v → (c : Call) × (o : ℕ) × Ordered k t c × Session k c.terminal o t
      older q =
          let w = past.orders t v s q.1 is in
          (w.0, w.1, growth.ordered up t w.0 q.0 w.2, session_kept e h w.0.terminal w.1 t (omega (arith, q.0)) w.3)

  -- what was ordered before now
  ordered_old : (t : ℕ) (c : Call) → t < n → Ordered k t c → Ordered h t c
  ordered_old t c lt or = growth.ordered down t c lt or

  serves : (t o : ℕ) (c : Call) (f : Request) (x : ℕ) (v : Event) → Ordered k t c → Session k c.terminal o t → HasFields P first c f → Open k t c x → Stands k c.terminal o x → At k x v → IsServed P first k o c f x v
  serves t o c f x v or se fi op st at = ⊎_elim newest older (newest_or_older e h x v at)
    where
      before : x ≤ n → (Ordered h t c) × Session h c.terminal o t × Open h t c x × Stands h c.terminal o x
      before le =
          let lt : t < n = omega (arith, le, op.0) in
          (ordered_old t c lt or, session_old e h c.terminal o t (omega (arith, lt)) se, growth.still_open down t c x le op, stands_old e h c.terminal o x le st)

      newest : (x ≡ n) × (v ≡ e) → IsServed P first k o c f x v
      newest q =
          let w = before (omega (arith, q.0)) in
          subst (λ y. IsServed P first k o c f x y) (sym q.1) (subst (λ y. IsServed P first k o c f y e) (sym q.0) (served_now P laws first inv (results_put P first h past.results) a t o c f w.0 w.1 fi (subst (λ y. Open h t c y) q.0 w.2) (subst (λ y. Stands h c.terminal o y) q.0 w.3)))

      older : (x < n) × At h x v → IsServed P first k o c f x v
      older q =
          let w = before (omega (arith, q.0)) in
          served_still P first e h o c f x v q.0 (past.serves t o c f x v w.0 w.1 fi w.2 w.3 q.1)

  results : (t o : ℕ) (c : Call) (f : Request) (y : ℕ) (v : Event) → Ordered k t c → Session k c.terminal o t → HasFields P first c f → Ran k o c y → At k y v → HasResult P first k c f y v
  results t o c f y v or se fi ra at = ⊎_elim newest older (newest_or_older e h y v at)
    where
      newest : (y ≡ n) × (v ≡ e) → HasResult P first k c f y v
      newest q = subst (λ x. HasResult P first k c f y x) (sym q.1) (subst (λ x. HasResult P first k c f x e) (sym q.0) (result_now P laws first h m inv a after t o c f or se fi (subst (λ x. Ran k o c x) q.0 ra)))

      older : (y < n) × At h y v → HasResult P first k c f y v
      older q =
          let w = ran_ordered P first e h (act P m a).after after t o c y q.0 or ra in
          result_still P first e h (act P m a).after after past c f y v q.0 (past.results t o c f y v w.1 (session_old e h c.terminal o t (omega (arith, w.0)) se) fi w.2 q.1)

  ran_open : (t o : ℕ) (c : Call) (f : Request) (y : ℕ) → Known k t o c f → Ran k o c y → Open k t c y
  ran_open t o c f y z r = ⊎_elim older newest (cases_lt y n)
    where
      older : y < n → Open k t c y
      older lt =
          let w = ran_ordered P first e h (act P m a).after after t o c y lt z.ordered r in
          growth.still_open up t c y (omega (arith, lt)) (past.ran_open t o c f y (known_old e h t o c f w.0 z) w.2)

      newest : n ≤ y → Open k t c y
      newest le =
          let is : y ≡ n = omega (arith, le, ran_below k o c y r) in
          let w = runs_known P laws first h m inv a after t o c f z (subst (λ x. Ran k o c x) is r) in
          subst (λ x. Open k t c x) (sym is) (growth.still_open up t c n (omega arith) w.1.is_open)

  -- a call closed just now, or earlier
  closing : (t o : ℕ) (c : Call) (f : Request) (x : ℕ) (g : Effect) (Q : ℕ → Type 0) → Known k t o c f → Closed k t c x g → (Known h t o c f → Open h t c n → Replies e c g → Q n) → (x < n → Known h t o c f → Closed h t c x g → Q x) → Q x
  closing t o c f x g Q z cl now then = ⊎_elim newest older (closes_new e h c x g cl.1)
    where
      old : t < n → Known h t o c f
      old lt = known_old e h t o c f lt z

      newest : (x ≡ n) × Replies e c g → Q x
      newest q =
          let op : Open h t c n = growth.still_open down t c n (omega arith) (subst (λ y. Open k t c y) q.0 cl.0) in
          let kn : Known h t o c f = old op.0 in
          subst Q (sym q.0) (now kn op q.1)

      older : (x < n) × ReplyCloses h c x g → Q x
      older q =
          let op : Open h t c x = growth.still_open down t c x (omega (arith, q.0)) cl.0 in
          then q.0 (old (omega (arith, op.0, q.0))) (op, q.1)

  closed_answered : (t o : ℕ) (c : Call) (f : Request) (x : ℕ) (b : Bytes) → Known k t o c f → Closed k t c x (answered b) → (high : ℕ) × (goal : ℕ) × ResultPut P first k o c x (outcome P first f high goal b)
  closed_answered t o c f x b z cl = closing t o c f x (answered b) (λ y. (high : ℕ) × (goal : ℕ) × ResultPut P first k o c y (outcome P first f high goal b)) z cl (λ kn op s. (let w = answered_put P laws first h m inv t o c f kn op a b s in (w.0, w.1, put_up P first e h o c n (outcome P first f w.0 w.1 b) (omega arith) w.2))) (λ lt kn s. (let w = past.closed_answered t o c f x b kn s in (w.0, w.1, put_up P first e h o c x (outcome P first f w.0 w.1 b) (omega (arith, lt)) w.2)))

  closed_done : (t o : ℕ) (c : Call) (f : Request) (x : ℕ) → Known k t o c f → Closed k t c x done → RanBefore k o c x
  closed_done t o c f x z cl = closing t o c f x done (λ y. RanBefore k o c y) z cl (λ kn op s. growth.ran_before up o c n (omega arith) (done_ran P laws first h m inv t o c f kn op a s).0) (λ lt kn s. growth.ran_before up o c x (omega (arith, lt)) (past.closed_done t o c f x kn s))

  pub past_grows : Past P first (event_of P m a ∷ h)
  past_grows = record {
    runs = runs_still P first e h (act P m a).after after past;
    orders = orders;
    serves = serves;
    results = results;
    ran_open = ran_open;
    closed_answered = closed_answered;
    closed_done = closed_done;
  }
