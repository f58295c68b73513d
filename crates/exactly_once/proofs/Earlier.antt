-- What was promised of earlier times is kept when the history grows by an event.
use Rattle.std.proofs.Common.{◌≡◌, ℕ, ◌<◌, ◌≤◌, List, ◌∷◌, length, subst, inl, inr, ⊎_elim, arith}
use Rattle.std.proofs.lemmas.Bool.{cases_lt}
use Rattle.common.specs.Bytes.{Bytes}
use Rattle.wire.specs.Wire.{Request, request_message, reply_message}
use Rattle.exactly_once.specs.History.{Event, History}
use Rattle.exactly_once.specs.Words.{Call, Ordered, Ran, RanBefore}
use Rattle.exactly_once.specs.Promise.{Timed, Outcome}
use Rattle.exactly_once.specs.Steps.{Parts, Model}
use Rattle.exactly_once.proofs.Times.{at_below}
use Rattle.exactly_once.proofs.Growth as growth
use Rattle.exactly_once.proofs.Growth.{Alike, flip, grown}
use Rattle.exactly_once.proofs.Unique.{Orders, ran_heard}
use Rattle.exactly_once.proofs.Newest.{ordered_new, ordered_now}
use Rattle.exactly_once.proofs.Runlist.{runs_stay}
use Rattle.exactly_once.proofs.Onelist.{runs_same}
use Rattle.exactly_once.proofs.Invariant.{Inv}
use Rattle.exactly_once.proofs.Present.{one_call}
use Rattle.exactly_once.proofs.Past.{leads, RunList, ResultPut, IsServed, HasResult, Past}

-- a run has a time of the history
pub ran_below : (h : History) (o : ℕ) (c : Call) (y : ℕ) → Ran h o c y → y < length h
ran_below h o c y (inl z) = at_below h y z.0.0 z.0.2
ran_below h o c y (inr z) = at_below h y z.3.0 z.3.2

module _ (P : Parts) (first : P.service.Content) (e : Event) (h : History) where
  abbrev up : Alike (length h) h (e ∷ h)
  up = grown e h

  abbrev down : Alike (length h) (e ∷ h) h
  down = flip (grown e h)

  -- what a run put
  pub put_up : (o : ℕ) (c : Call) (x : ℕ) (m : Bytes) → x ≤ length h → ResultPut P first h o c x m → ResultPut P first (e ∷ h) o c x m
  put_up o c x m le z =
      let lt : z.0 < length h = omega (arith, le, z.2) in
      (z.0, z.1, z.2, growth.ran up o c z.0 lt z.3, up.there z.0 z.1 lt z.4, z.5)

  pub put_down : (o : ℕ) (c : Call) (x : ℕ) (m : Bytes) → x ≤ length h → ResultPut P first (e ∷ h) o c x m → ResultPut P first h o c x m
  put_down o c x m le z =
      let lt : z.0 < length h = omega (arith, le, z.2) in
      (z.0, z.1, z.2, growth.ran down o c z.0 lt z.3, down.there z.0 z.1 lt z.4, z.5)

  -- an outcome of a call
  module _ (o : ℕ) (c : Call) (f : Request) (x : ℕ) (le : x ≤ length h) where
    abbrev Out : History → Bytes → Type 0
    Out k m = Outcome P.service.next P.service.reply request_message reply_message k first o c f x m

    pub out_up : (m : Bytes) → Out h m → Out (e ∷ h) m
    out_up m (inl z) = inl (put_up o c x m le z)
    out_up m (inr z) = inr (growth.ran_before up o c x le z.0, z.1, z.2)

    pub out_down : (m : Bytes) → Out (e ∷ h) m → Out h m
    out_down m (inl z) = inl (put_down o c x m le z)
    out_down m (inr z) = inr (growth.ran_before down o c x le z.0, z.1, z.2)

  module _ (o : ℕ) (c : Call) (f : Request) (x : ℕ) (v : Event) (lt : x < length h) where
    le : x ≤ length h
    le = omega (arith, lt)

    -- how an open call was served then
    pub served_still : IsServed P first h o c f x v → IsServed P first (e ∷ h) o c f x v
    served_still s = record {
      resends = s.resends;
      first_run = λ room a b un. s.first_run room a b (λ z. un (growth.heard_before up o c x le z));
      first_aside = λ room a b un. s.first_aside room a b (λ z. un (growth.heard_before up o c x le z));
      waits = λ w room a b he un. s.waits w room a b (growth.heard_before down o c x le he) (λ z. un (growth.ran_before up o c x le z));
      kept = λ w room a b ra nk. (let q = s.kept w room a b (growth.ran_before down o c x le ra) nk in (q.0, λ m pu. q.1 m (put_down o c x m le pu)));
      not_kept = λ w room a b ra. s.not_kept w room a b (growth.ran_before down o c x le ra);
      closes = (λ z. (let q = s.closes.0 (z.0, growth.reply_closes down c x z.0 lt z.1) in (q.0, q.1, q.2, q.3, out_up o c f x le q.1 q.4)), λ z. (let q = s.closes.1 (z.0, z.1, z.2, z.3, out_down o c f x le z.1 z.4) in (q.0, growth.reply_closes up c x q.0 lt q.1)));
      as_answered = λ high goal b g t z. s.as_answered high goal b g t (growth.reply_closes down c x g lt z);
      as_done = λ g t z. s.as_done g t (growth.reply_closes down c x g lt z);
      stays = λ z. s.stays (growth.opened down x c.terminal lt z);
    }

  -- the list of all runs so far is that of the runs before any later time
  pub runs_later : (k : History) (x : ℕ) (rs : List Timed) → length k ≤ x → RunList P first k (length k) rs → RunList P first k x rs
  runs_later k x rs le b = record {
    each = λ r i. (let w = b.each r i in (w.0, w.1, (w.2.0, w.2.1, (w.2.2.0, omega (arith, le, w.2.2.1), w.2.2.2))));
    all = λ r o or body se ra. b.all r o or body se (ra.0, ran_below k o r.call ra.0 ra.2, ra.2);
    ascend = b.ascend;
  }

  module _ (n : Model P) (after : Inv P first (e ∷ h) n) where
    -- a call ordered just now has not run: what was heard had been ordered before
    pub unrun : (c : Call) (o : ℕ) → Orders e c → RanBefore h o c (length h) → ⊥
    unrun c o z r =
        let b = ran_heard h o c (length h) r in
        let k = after.calls.known (length h) c (ordered_now e h c z) in
        let w = after.waiting.heard b.0 b.3.0 b.1 b.3.1 c.request (inr b.3.2) b.3.3 b.3.4 in
        let same = (one_call P first (e ∷ h) n after (length h) w.0 k.0 w.1 c w.2 k.1 w.3 k.2 w.4 w.5).0 in
        omega (arith, same, w.6, b.2)

    -- what ran before now was ordered before
    pub ran_ordered : (t o : ℕ) (c : Call) (y : ℕ) → y < length h → Ordered (e ∷ h) t c → Ran (e ∷ h) o c y → (t < length h) × Ordered h t c × Ran h o c y
    ran_ordered t o c y lt or r =
        let old : Ran h o c y = growth.ran down o c y lt r in
        ⊎_elim (λ q. absurd (unrun c o q.1 (y, lt, old))) (λ q. (q.0, q.1, old)) (ordered_new e h t c or)

    module _ (past : Past P first h) where
      runs_then : (x : ℕ) → x ≤ length h → (rs : List Timed) × RunList P first h x rs × RunList P first (e ∷ h) x rs
      runs_then x le =
          let w = past.runs x in
          (w.0, w.1, runs_stay P.service.next P.service.reply request_message reply_message e h unrun x w.0 le w.1)

      pub runs_still : (x : ℕ) → (rs : List Timed) × RunList P first (e ∷ h) x rs
      runs_still x = ⊎_elim (λ lt. (after.done.list, runs_later (e ∷ h) x after.done.list lt after.done.runs)) (λ le. (let w = runs_then x le in (w.0, w.2))) (cases_lt (length h) x)

      -- what a run gave then
      pub result_still : (c : Call) (f : Request) (y : ℕ) (v : Event) → y < length h → HasResult P first h c f y v → HasResult P first (e ∷ h) c f y v
      result_still c f y v lt s = record {
        highest = s.highest;
        target = s.target;
        body = s.body;
        puts = s.puts;
        bare = s.bare;
        given = λ rs some b. (let w = runs_then y (omega (arith, lt)) in let same : w.0 ≡ rs = runs_same P.service.next P.service.reply request_message reply_message (e ∷ h) y w.0 rs w.2 b in subst (λ qs. s.body ≡ P.service.reply (leads P first qs) c.body) same (s.given w.0 some w.1));
      }
