-- The list of all runs explains the present content and every answer.
use Rattle.std.proofs.Common.{◌≡◌, ℕ, ◌<◌, ◌⊎◌, List, [], ◌∷◌, ◌++◌, length, Some, Option, sym, refl, ap, ◌∙◌, subst, inl, inr, ⊎_elim, append_assoc, arith}
use Rattle.common.specs.Bytes.{Bytes}
use Rattle.common.specs.Search.{In}
use Rattle.common.specs.Members.{in_append}
use Rattle.wire.specs.Wire.{Request, request_message, reply_message}
use Rattle.terminal.specs.Terminal.{Effect, answered, done, unknown}
use Rattle.exactly_once.specs.History.{History}
use Rattle.exactly_once.specs.Words.{Call, Ordered, Session, Closed, Over, Ran, RanBefore}
use Rattle.exactly_once.specs.Promise.{Timed, Distinct, Explained}
use Rattle.exactly_once.specs.Steps.{Parts, Model}
use Rattle.exactly_once.proofs.Messages.{same_reply_body}
use Rattle.exactly_once.proofs.Tables.{some_same}
use Rattle.exactly_once.proofs.Unique.{ordered_one, session_one, ran_one}
use Rattle.exactly_once.proofs.Runlist.{in_left, in_middle, in_first, in_second, regroup}
use Rattle.exactly_once.proofs.Onelist.{in_split}
use Rattle.exactly_once.proofs.Invariant.{Known, result, Inv}
use Rattle.exactly_once.proofs.Past.{leads, RunList, Past}
use Rattle.exactly_once.proofs.Earlier.{ran_below}
use Rattle.exactly_once.proofs.Results.{ran_after, known_in}

-- an event puts one result
one_body : (f : Request) (high goal high' goal' : ℕ) (b c : Bytes) (x : Option Bytes) → x ≡ Some (reply_message (result f high goal b)) → x ≡ Some (reply_message (result f high' goal' c)) → b ≡ c
one_body f high goal high' goal' b c x p q = same_reply_body (result f high goal b) (result f high' goal' c) (some_same _ _ (sym p ∙ q))

module _ (h : History) where
  -- an ordered call that ran at time y
  abbrev RanAt : Timed → ℕ → Type 0
  RanAt q y = Ordered h q.time q.call × ((o : ℕ) × Session h q.call.terminal o q.time × Ran h o q.call y)

  -- calls of one time ran at one time
  one_time : (q r : Timed) (y w : ℕ) → q.time ≡ r.time → RanAt q y → RanAt r w → y ≡ w
  one_time q r y w e a b =
      let cs : q.call ≡ r.call = ordered_one h r.time q.call r.call (subst (λ t. Ordered h t q.call) e a.0) b.0 in
      let se : Session h r.call.terminal a.1.0 r.time = subst (λ (c : Call). Session h c.terminal a.1.0 r.time) cs (subst (λ t. Session h q.call.terminal a.1.0 t) e a.1.1) in
      let os : a.1.0 ≡ b.1.0 = session_one h r.call.terminal a.1.0 b.1.0 r.time se b.1.1 in
      ran_one h b.1.0 r.call y w (subst (λ c. Ran h b.1.0 c y) cs (subst (λ o. Ran h o q.call y) os a.1.2)) b.1.2

  -- a list of calls in the order of their runs has none twice
  distinct_runs : (xs : List Timed) → ((q : Timed) → In q xs → (y : ℕ) × RanAt q y) → ((a b z : List Timed) (q r : Timed) (y w : ℕ) → xs ≡ a ++ (q ∷ (b ++ (r ∷ z))) → RanAt q y → RanAt r w → y < w) → Distinct xs
  distinct_runs [] each rise = tt
  distinct_runs (x ∷ xs) each rise = (apart, distinct_runs xs (λ q i. each q (inr i)) (λ a b z q r y w e. rise (x ∷ a) b z q r y w (ap (λ v. x ∷ v) e)))
    where
      apart : (r : Timed) → In r xs → x.time ≡ r.time → ⊥
      apart r i e =
          let s = in_split r xs i in
          let p = each x (inl refl) in
          let q = each r (inr i) in
          omega (arith, rise [] s.0 s.1 x r p.0 q.0 (ap (λ v. x ∷ v) s.2) p.1 q.1, one_time x r p.0 q.0 e p.1 q.1)

module _ (P : Parts) (first : P.service.Content) (h : History) (m : Model P) (inv : Inv P first h m) (past : Past P first h) where
  abbrev list : List Timed
  list = inv.done.list

  abbrev n : ℕ
  n = length h

  each_run : (q : Timed) → In q list → (y : ℕ) × RanAt h q y
  each_run q i = (let w = inv.done.runs.each q i in (w.2.2.0, (w.0, (w.2.0, w.2.1, w.2.2.2))))

  rise : (a b z : List Timed) (q r : Timed) (y w : ℕ) → list ≡ a ++ (q ∷ (b ++ (r ∷ z))) → RanAt h q y → RanAt h r w → y < w
  rise a b z q r y w e p s = inv.done.runs.ascend a b z q r p.1.0 s.1.0 y w e p.1.1 s.1.1 p.1.2 s.1.2

  -- the calls before one in the list are those that ran before it
  prefix : (before later : List Timed) (q : Timed) (y : ℕ) → list ≡ before ++ (q ∷ later) → RanAt h q y → RunList P first h y before
  prefix before later q y e p = record { each = each; all = all; ascend = ascend }
    where
      each : (r : Timed) → In r before → Ordered h r.time r.call × (0 < length r.call.body) × ((o : ℕ) × Session h r.call.terminal o r.time × RanBefore h o r.call y)
      each r i =
          let w = inv.done.runs.each r (subst (In r) (sym e) (in_left r before (q ∷ later) i)) in
          let s = in_split r before i in
          let cut : list ≡ s.0 ++ (r ∷ (s.1 ++ (q ∷ later))) = e ∙ ap (λ v. v ++ (q ∷ later)) s.2 ∙ sym (regroup s.0 s.1 later r q) in
          (w.0, w.1, (w.2.0, w.2.1, (w.2.2.0, rise s.0 s.1 later r q w.2.2.0 y cut (w.0, (w.2.0, w.2.1, w.2.2.2)) p, w.2.2.2)))

      all : (r : Timed) (o : ℕ) → Ordered h r.time r.call → 0 < length r.call.body → Session h r.call.terminal o r.time → RanBefore h o r.call y → In r before
      all r o or body se ra = ⊎_elim (λ i. i) (λ i. absurd (behind i)) (in_append r before (q ∷ later) (subst (In r) e (inv.done.runs.all r o or body se (ra.0, ran_below h o r.call ra.0 ra.2, ra.2))))
        where
          at : RanAt h r ra.0
          at = (or, (o, se, ra.2))

          behind : In r (q ∷ later) → ⊥
          behind (inl is) = omega (arith, one_time h r q ra.0 y (ap (λ x. x.time) is) at p, ra.1)
          behind (inr i) =
              let s = in_split r later i in
              omega (arith, rise before s.0 s.1 q r y ra.0 (e ∙ ap (λ v. before ++ (q ∷ v)) s.2) p at, ra.1)

      ascend : (a b z : List Timed) (r s : Timed) (o u v w : ℕ) → before ≡ a ++ (r ∷ (b ++ (s ∷ z))) → Session h r.call.terminal o r.time → Session h s.call.terminal u s.time → Ran h o r.call v → Ran h u s.call w → v < w
      ascend a b z r s o u v w is sr ss rr rs =
          let longer : (a ++ (r ∷ (b ++ (s ∷ z)))) ++ (q ∷ later) ≡ a ++ (r ∷ (b ++ (s ∷ (z ++ (q ∷ later))))) = simp append_assoc in
          inv.done.runs.ascend a b (z ++ (q ∷ later)) r s o u v w (e ∙ ap (λ x. x ++ (q ∷ later)) is ∙ longer) sr ss rr rs

  -- each answered one has the bytes that the service gave at its place
  answers : (before later : List Timed) (q : Timed) → list ≡ before ++ (q ∷ later) → (x : ℕ) (b : Bytes) → Closed h q.time q.call x (answered b) → b ≡ P.service.reply (leads P first before) q.call.body
  answers before later q e x b cl =
      let w = inv.done.runs.each q (subst (In q) (sym e) (in_middle q before later)) in
      let k = inv.calls.known q.time q.call w.0 in
      let z = k.2 in
      let p = past.closed_answered q.time k.0 q.call k.1 x b z cl in
      let put = p.2 in
      let r = past.results q.time k.0 q.call k.1 put.0 put.1 w.0 z.session (z.message, z.slot, z.keep, z.body) put.3 put.4 in
      let same : b ≡ r.body = one_body k.1 p.0 p.1 r.highest r.target b r.body put.1.put put.5 r.puts in
      same ∙ r.given before w.1 (prefix before later q put.0 e (w.0, (k.0, z.session, put.3)))

  -- a call closed as answered or done has run, so it is in the list
  complete : (q : Timed) → Ordered h q.time q.call → 0 < length q.call.body → (x : ℕ) (f : Effect) → Closed h q.time q.call x f → (f ≡ unknown → ⊥) → In q list
  complete q or body x g cl un = by cl.1.5
    where
      k : (o : ℕ) × (f : Request) × Known h q.time o q.call f
      k = inv.calls.known q.time q.call or

      ran : (y : ℕ) → Ran h k.0 q.call y → In q list
      ran y r = inv.done.runs.all q k.0 or body k.2.session (y, ran_below h k.0 q.call y r, r)

      by : (((b : Bytes) × (g ≡ answered b)) ⊎ (g ≡ done) ⊎ (g ≡ unknown)) → In q list
      by (inl s) =
          let w = past.closed_answered q.time k.0 q.call k.1 x s.0 k.2 (subst (λ v. Closed h q.time q.call x v) s.1 cl) in
          ran w.2.0 w.2.3
      by (inr (inl s)) =
          let w = past.closed_done q.time k.0 q.call k.1 x k.2 (subst (λ v. Closed h q.time q.call x v) s cl) in
          ran w.0 w.2
      by (inr (inr s)) = absurd (un s)

  -- a call is open when it runs, so one over before another was ordered ran before that one
  in_order : (a b z : List Timed) (c d : Timed) → list ≡ a ++ (c ∷ (b ++ (d ∷ z))) → Over h d.time d.call c.time → ⊥
  in_order a b z c d e ov =
      let p = each_run c (in_first list a b z c d e) in
      let q = each_run d (in_second list a b z c d e) in
      let kc = known_in P first h m inv c.time p.1.1.0 c.call p.1.0 p.1.1.1 in
      let kd = known_in P first h m inv d.time q.1.1.0 d.call q.1.0 q.1.1.1 in
      let op = past.ran_open d.time q.1.1.0 d.call kd.0 q.0 kd.1 q.1.1.2 in
      let lt : ov.0 < q.0 = omega (arith, ov.2, ran_after P first h m inv c.time p.1.1.0 c.call kc.0 p.0 kc.1 p.1.1.2, rise a b z c d p.0 q.0 e p.1 q.1) in
      ⊎_elim (λ s. op.1 ov.0 s.0 ov.1 lt s.1) (λ s. op.2 ov.0 ov.1 lt s) ov.3

  pub explained : Explained P.service.next P.service.reply request_message reply_message h first m.content
  explained = record {
    calls = inv.done.list;
    are_ordered = λ q i. (let w = inv.done.runs.each q i in (w.0, w.1));
    distinct = distinct_runs h inv.done.list each_run rise;
    reaches = inv.done.reach;
    answers = answers;
    complete = complete;
    in_order = in_order;
  }
