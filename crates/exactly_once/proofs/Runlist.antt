-- The list of the runs before a time: it stays when the history grows, and it grows by a run.
use Rattle.std.proofs.Common.{◌≡◌, ℕ, suc, ◌<◌, ◌≤◌, ◌⊎◌, List, [], ◌∷◌, ◌++◌, length, sym, refl, ap, ◌∙◌, subst, ap₂, inl, inr, ⊎_elim, arith}
use Rattle.common.specs.Bytes.{Bytes}
use Rattle.common.specs.Search.{In}
use Rattle.common.specs.Members.{in_push}
use Rattle.wire.specs.Wire.{Request, Reply}
use Rattle.exactly_once.specs.History.{Event, History}
use Rattle.exactly_once.specs.Words.{Call, Ordered, Session, Ran, RanBefore}
use Rattle.exactly_once.specs.Promise.{Timed, after, RunsBefore}
use Rattle.exactly_once.proofs.Times.{at_below}
use Rattle.exactly_once.proofs.Growth as growth
use Rattle.exactly_once.proofs.Growth.{grown}
use Rattle.exactly_once.proofs.Unique.{Orders, ordered_one, session_one, ran_one}
use Rattle.exactly_once.proofs.Newest.{Runs, ordered_new, session_old, session_kept, ran_new, ran_now, ran_unchanged, runs_now}

-- lists
pub in_middle : {A : Type 0} (x : A) (a z : List A) → In x (a ++ (x ∷ z))
in_middle x [] z = inl refl
in_middle x (y ∷ a) z = inr (in_middle x a z)

pub in_left : {A : Type 0} (x : A) (a z : List A) → In x a → In x (a ++ z)
in_left x [] z h = absurd h
in_left x (y ∷ a) z (inl e) = inl e
in_left x (y ∷ a) z (inr h) = inr (in_left x a z h)

pub in_right : {A : Type 0} (x : A) (a z : List A) → In x z → In x (a ++ z)
in_right x [] z h = h
in_right x (y ∷ a) z h = inr (in_right x a z h)

-- one of a list, and another behind it
pub in_first : {A : Type 0} (rs a b z : List A) (q r : A) → rs ≡ a ++ (q ∷ (b ++ (r ∷ z))) → In q rs
in_first rs a b z q r e = subst (In q) (sym e) (in_middle q a (b ++ (r ∷ z)))

pub in_second : {A : Type 0} (rs a b z : List A) (q r : A) → rs ≡ a ++ (q ∷ (b ++ (r ∷ z))) → In r rs
in_second rs a b z q r e = subst (In r) (sym e) (in_right r a (q ∷ (b ++ (r ∷ z))) (inr (in_middle r b z)))

-- the content after a list and one more
pub after_push : {Content : Type 0} (next : Content → Bytes → Content) (reply : Content → Bytes → Bytes) (rq : Request → Bytes) (rp : Reply → Bytes) (k : Content) (rs : List Timed) (c : Timed) → after next reply rq rp k (rs ++ (c ∷ [])) ≡ next (after next reply rq rp k rs) c.call.body
after_push next reply rq rp k [] c = refl
after_push next reply rq rp k (r ∷ rs) c = after_push next reply rq rp (next k r.call.body) rs c

module _ {Content : Type 0} (next : Content → Bytes → Content) (reply : Content → Bytes → Bytes) (rq : Request → Bytes) (rp : Reply → Bytes) (e : Event) (h : History) where
  -- the time of a run of one in the list is what it was
  ran_then : (x : ℕ) (rs : List Timed) → x ≤ length h → RunsBefore next reply rq rp h x rs → (q : Timed) → In q rs → (o y : ℕ) → Session (e ∷ h) q.call.terminal o q.time → Ran (e ∷ h) o q.call y → (y < x) × Session h q.call.terminal o q.time × Ran h o q.call y
  ran_then x rs le b q i o y se r =
      let w = b.each q i in
      let tlt : q.time < length h = at_below h q.time w.0.0 w.0.1 in
      let s : Session h q.call.terminal o q.time = session_old e h q.call.terminal o q.time (omega (arith, tlt)) se in
      let oo : w.2.0 ≡ o = session_one h q.call.terminal w.2.0 o q.time w.2.1 s in
      let old : Ran h o q.call w.2.2.0 = subst (λ v. Ran h v q.call w.2.2.0) oo w.2.2.2 in
      let lt : w.2.2.0 < x = w.2.2.1 in
      let up : Ran (e ∷ h) o q.call w.2.2.0 = growth.ran (grown e h) o q.call w.2.2.0 (omega (arith, lt, le)) old in
      let same : w.2.2.0 ≡ y = ran_one (e ∷ h) o q.call w.2.2.0 y up r in
      (subst (λ v. v < x) same lt, s, subst (λ v. Ran h o q.call v) same old)

  -- the newest call ordered has not run
  abbrev pub Unrun : Type 0
  Unrun = (c : Call) (o : ℕ) → Orders e c → RanBefore h o c (length h) → ⊥

  less : (o : ℕ) (c : Call) (x : ℕ) → x ≤ length h → RanBefore h o c x → RanBefore h o c (length h)
  less o c x le r = (r.0, omega (arith, r.1, le), r.2)

  -- the runs before an earlier time
  pub runs_stay : Unrun → (x : ℕ) (rs : List Timed) → x ≤ length h → RunsBefore next reply rq rp h x rs → RunsBefore next reply rq rp (e ∷ h) x rs
  runs_stay un x rs le b = record { each = each; all = all; ascend = ascend }
    where
      each : (r : Timed) → In r rs → Ordered (e ∷ h) r.time r.call × (0 < length r.call.body) × ((o : ℕ) × Session (e ∷ h) r.call.terminal o r.time × RanBefore (e ∷ h) o r.call x)
      each r i =
          let w = b.each r i in
          let lt : r.time < length h = at_below h r.time w.0.0 w.0.1 in
          (growth.ordered (grown e h) r.time r.call lt w.0, w.1, (w.2.0, session_kept e h r.call.terminal w.2.0 r.time (omega (arith, lt)) w.2.1, growth.ran_before (grown e h) w.2.0 r.call x le w.2.2))

      all : (r : Timed) (o : ℕ) → Ordered (e ∷ h) r.time r.call → 0 < length r.call.body → Session (e ∷ h) r.call.terminal o r.time → RanBefore (e ∷ h) o r.call x → In r rs
      all r o or body se ra =
          let old : RanBefore h o r.call x = ran_unchanged e h o r.call x le ra in
          ⊎_elim (λ q. absurd (un r.call o q.1 (less o r.call x le old))) (λ q. b.all r o q.1 body (session_old e h r.call.terminal o r.time (omega (arith, q.0)) se) old) (ordered_new e h r.time r.call or)

      ascend : (a d z : List Timed) (q r : Timed) (o p y w : ℕ) → rs ≡ a ++ (q ∷ (d ++ (r ∷ z))) → Session (e ∷ h) q.call.terminal o q.time → Session (e ∷ h) r.call.terminal p r.time → Ran (e ∷ h) o q.call y → Ran (e ∷ h) p r.call w → y < w
      ascend a d z q r o p y w is sq sr rq rr =
          let m = ran_then x rs le b q (in_first rs a d z q r is) o y sq rq in
          let n = ran_then x rs le b r (in_second rs a d z q r is) p w sr rr in
          b.ascend a d z q r o p y w is m.1 n.1 m.2 n.2

  -- up to now, where the event runs no call with a body
  pub runs_on : Unrun → (rs : List Timed) → ((t o : ℕ) (c : Call) → Ordered h t c → Session h c.terminal o t → 0 < length c.body → Runs h e o c → ⊥) → ((o : ℕ) (c : Call) → Orders e c → Runs h e o c → ⊥) → RunsBefore next reply rq rp h (length h) rs → RunsBefore next reply rq rp (e ∷ h) (suc (length h)) rs
  runs_on un rs none nor b = record { each = each; all = all; ascend = w.ascend }
    where
      w : RunsBefore next reply rq rp (e ∷ h) (length h) rs
      w = runs_stay un (length h) rs (omega arith) b

      each : (r : Timed) → In r rs → Ordered (e ∷ h) r.time r.call × (0 < length r.call.body) × ((o : ℕ) × Session (e ∷ h) r.call.terminal o r.time × RanBefore (e ∷ h) o r.call (suc (length h)))
      each r i =
          let v = w.each r i in
          (v.0, v.1, (v.2.0, v.2.1, (v.2.2.0, omega (arith, v.2.2.1), v.2.2.2)))

      all : (r : Timed) (o : ℕ) → Ordered (e ∷ h) r.time r.call → 0 < length r.call.body → Session (e ∷ h) r.call.terminal o r.time → RanBefore (e ∷ h) o r.call (suc (length h)) → In r rs
      all r o or body se ra = ⊎_elim before now (ran_new e h o r.call ra)
        where
          before : RanBefore h o r.call (length h) → In r rs
          before x = w.all r o or body se (growth.ran_before (grown e h) o r.call (length h) (omega arith) x)

          now : Runs h e o r.call → In r rs
          now x = absurd (⊎_elim (λ q. nor o r.call q.1 x) (λ q. none r.time o r.call q.1 (session_old e h r.call.terminal o r.time (omega (arith, q.0)) se) body x) (ordered_new e h r.time r.call or))

-- a list that ends in x, cut elsewhere
nothing_after : {A : Type 0} (a z : List A) (r : A) → ◌≡◌ {A = List A} [] (a ++ (r ∷ z)) → ⊥
nothing_after [] z r e = let w : ◌≡◌ {A = ℕ} 0 1 = cc in omega arith
nothing_after (y ∷ a) z r e = let w : ◌≡◌ {A = ℕ} 0 1 = cc in omega arith

tails : {A : Type 0} (x y : A) (xs ys : List A) → ◌≡◌ {A = List A} (x ∷ xs) (y ∷ ys) → (x ≡ y) × (xs ≡ ys)
tails x y xs ys e = (cc, cc)

pub split_push : {A : Type 0} (rs : List A) (x : A) (a : List A) (r : A) (z : List A) → rs ++ (x ∷ []) ≡ a ++ (r ∷ z) → ((rs ≡ a) × (x ≡ r)) ⊎ ((y : List A) × (rs ≡ a ++ (r ∷ y)))
split_push [] x [] r z e = inl (refl, (tails x r [] z e).0)
split_push [] x (y ∷ a) r z e = absurd (nothing_after a z r (tails x y [] (a ++ (r ∷ z)) e).1)
split_push (w ∷ rs) x [] r z e = inr (rs, ap (λ v. v ∷ rs) (tails w r (rs ++ (x ∷ [])) z e).0)
split_push (w ∷ rs) x (y ∷ a) r z e =
    let t = tails w y (rs ++ (x ∷ [])) (a ++ (r ∷ z)) e in
    ⊎_elim (λ q. inl (ap₂ (λ u v. u ∷ v) t.0 q.0, q.1)) (λ q. inr (q.0, ap₂ (λ u v. u ∷ v) t.0 q.1)) (split_push rs x a r z t.1)

pub regroup : {A : Type 0} (a b z : List A) (q r : A) → a ++ (q ∷ (b ++ (r ∷ z))) ≡ (a ++ (q ∷ b)) ++ (r ∷ z)
regroup [] b z q r = refl
regroup (y ∷ a) b z q r = ap (λ v. y ∷ v) (regroup a b z q r)

module _ {Content : Type 0} (next : Content → Bytes → Content) (reply : Content → Bytes → Bytes) (rq : Request → Bytes) (rp : Reply → Bytes) (e : Event) (h : History) (un : (c : Call) → Orders e c → ⊥) (rs : List Timed) (b : RunsBefore next reply rq rp h (length h) rs) (t o : ℕ) (c : Call) (or : Ordered h t c) (se : Session h c.terminal o t) (body : 0 < length c.body) (ru : Runs h e o c) (only : (u v : ℕ) (d : Call) → Ordered h u d → Session h d.terminal v u → Runs h e v d → u ≡ t) where
  abbrev x : Timed
  x = record { time = t; call = c }

  stay : RunsBefore next reply rq rp (e ∷ h) (length h) rs
  stay = runs_stay next reply rq rp e h (λ d v y r. un d y) (length h) rs (omega arith) b

  lt : t < length h
  lt = at_below h t or.0 or.1

  up_ordered : Ordered (e ∷ h) t c
  up_ordered = growth.ordered (grown e h) t c lt or

  up_session : Session (e ∷ h) c.terminal o t
  up_session = session_kept e h c.terminal o t (omega (arith, lt)) se

  push_each : (r : Timed) → In r (rs ++ (x ∷ [])) → Ordered (e ∷ h) r.time r.call × (0 < length r.call.body) × ((v : ℕ) × Session (e ∷ h) r.call.terminal v r.time × RanBefore (e ∷ h) v r.call (suc (length h)))
  push_each r i = ⊎_elim new old (in_push r x rs i)
    where
      new : r ≡ x → Ordered (e ∷ h) r.time r.call × (0 < length r.call.body) × ((v : ℕ) × Session (e ∷ h) r.call.terminal v r.time × RanBefore (e ∷ h) v r.call (suc (length h)))
      new q = subst (λ y. Ordered (e ∷ h) y.time y.call × (0 < length y.call.body) × ((v : ℕ) × Session (e ∷ h) y.call.terminal v y.time × RanBefore (e ∷ h) v y.call (suc (length h)))) (sym q) (up_ordered, body, (o, up_session, ran_now e h o c ru))

      old : In r rs → Ordered (e ∷ h) r.time r.call × (0 < length r.call.body) × ((v : ℕ) × Session (e ∷ h) r.call.terminal v r.time × RanBefore (e ∷ h) v r.call (suc (length h)))
      old j =
          let v = stay.each r j in
          (v.0, v.1, (v.2.0, v.2.1, (v.2.2.0, omega (arith, v.2.2.1), v.2.2.2)))

  push_all : (r : Timed) (v : ℕ) → Ordered (e ∷ h) r.time r.call → 0 < length r.call.body → Session (e ∷ h) r.call.terminal v r.time → RanBefore (e ∷ h) v r.call (suc (length h)) → In r (rs ++ (x ∷ []))
  push_all r v ord bod ses ra = ⊎_elim before now (ran_new e h v r.call ra)
    where
      before : RanBefore h v r.call (length h) → In r (rs ++ (x ∷ []))
      before y = in_left r rs (x ∷ []) (stay.all r v ord bod ses (growth.ran_before (grown e h) v r.call (length h) (omega arith) y))

      now : Runs h e v r.call → In r (rs ++ (x ∷ []))
      now y = ⊎_elim (λ q. absurd (un r.call q.1)) here (ordered_new e h r.time r.call ord)
        where
          here : (r.time < length h) × Ordered h r.time r.call → In r (rs ++ (x ∷ []))
          here q =
              let ts : r.time ≡ t = only r.time v r.call q.1 (session_old e h r.call.terminal v r.time (omega (arith, q.0)) ses) y in
              let cs : r.call ≡ c = ordered_one h t r.call c (subst (λ w. Ordered h w r.call) ts q.1) or in
              let same : r ≡ x = λ i. record { time = ts i; call = cs i } in
              in_right r rs (x ∷ []) (inl same)

  push_ascend : (a d z : List Timed) (q r : Timed) (v p y w : ℕ) → rs ++ (x ∷ []) ≡ a ++ (q ∷ (d ++ (r ∷ z))) → Session (e ∷ h) q.call.terminal v q.time → Session (e ∷ h) r.call.terminal p r.time → Ran (e ∷ h) v q.call y → Ran (e ∷ h) p r.call w → y < w
  push_ascend a d z q r v p y w is sq sr yq yr = ⊎_elim last inner (split_push rs x (a ++ (q ∷ d)) r z (is ∙ regroup a d z q r))
    where
      last : (rs ≡ a ++ (q ∷ d)) × (x ≡ r) → y < w
      last k =
          let m = ran_then next reply rq rp e h (length h) rs (omega arith) b q (subst (In q) (sym k.0) (in_middle q a d)) v y sq yq in
          let sr2 : Session (e ∷ h) c.terminal p t = subst (λ u. Session (e ∷ h) u.call.terminal p u.time) (sym k.1) sr in
          let ps : o ≡ p = session_one (e ∷ h) c.terminal o p t up_session sr2 in
          let yr2 : Ran (e ∷ h) o c w = subst (λ u. Ran (e ∷ h) u c w) (sym ps) (subst (λ u. Ran (e ∷ h) p u.call w) (sym k.1) yr) in
          let ws : w ≡ length h = ran_one (e ∷ h) o c w (length h) yr2 (runs_now e h o c ru) in
          omega (arith, m.0, ws)

      inner : ((u : List Timed) × (rs ≡ (a ++ (q ∷ d)) ++ (r ∷ u))) → y < w
      inner k = stay.ascend a d k.0 q r v p y w (k.1 ∙ sym (regroup a d k.0 q r)) sq sr yq yr

  pub runs_push : RunsBefore next reply rq rp (e ∷ h) (suc (length h)) (rs ++ (record { time = t; call = c } ∷ []))
  runs_push = record { each = push_each; all = push_all; ascend = push_ascend }
