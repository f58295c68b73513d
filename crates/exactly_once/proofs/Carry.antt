-- Present words before and after an event, and what a quiet event leaves of the invariant.
use Rattle.std.proofs.Common.{◌≡◌, ℕ, suc, ◌<◌, ◌≤◌, ◌⊎◌, ◌∷◌, length, Some, sym, ap, ◌∙◌, subst, inl, inr, ⊎_elim, arith}
use Rattle.std.proofs.lemmas.Bool.{cases_lt}
use Rattle.common.specs.Bytes.{Bytes}
use Rattle.wire.specs.Wire.{Request, Reply}
use Rattle.server.specs.Server.{SlotM, SessionM, Last, never, in_progress, kept, not_kept, slot_at}
use Rattle.terminal.specs.Terminal.{TerminalM, Effect}
use Rattle.exactly_once.specs.History.{Told, run, aside, Event, History, At}
use Rattle.exactly_once.specs.Words.{Call, Ordered, Opened, Stands, Session, Open, HeardBefore, Ran, RanBefore}
use Rattle.exactly_once.proofs.Times.{at_below, at_one, at_newest, newest_is, newest_or_older}
use Rattle.exactly_once.proofs.Growth as growth
use Rattle.exactly_once.proofs.Growth.{flip, grown}
use Rattle.exactly_once.proofs.Tables.{some_same}
use Rattle.exactly_once.proofs.Unique.{Orders, ran_one}
use Rattle.exactly_once.proofs.Newest.{Opens, EndsSession, Replies, Hears, Resumes, Runs, ordered_new, opened_new, stands_new, stands_kept, session_new, session_still, session_old, session_kept, open_new, open_still, heard_new, heard_still, runs_new, runs_now, ran_new, ran_still, resumed_new}
use Rattle.exactly_once.proofs.Invariant.{Known, Put, Aside, ByLast, Holds, Answers, ByStatus, TerminalSide, ServerSide, BothSides}

-- the same call, otherwise placed in a history
known_at : {h k : History} {t o : ℕ} {c : Call} {f : Request} → Known h t o c f → Ordered k t c → Session k c.terminal o t → Known k t o c f
known_at z or se = record { ordered = or; session = se; message = z.message; slot = z.slot; keep = z.keep; body = z.body; fits = z.fits; short = z.short }

module _ (e : Event) (h : History) where
  -- a call known before is known after
  pub known_up : (t o : ℕ) (c : Call) (f : Request) → Known h t o c f → Known (e ∷ h) t o c f
  known_up t o c f z =
      let lt : t < length h = at_below h t z.ordered.0 z.ordered.1 in
      known_at z (growth.ordered (grown e h) t c lt z.ordered) (session_kept e h c.terminal o t (omega (arith, lt)) z.session)

  -- a call known after was known before, or was ordered just now
  pub known_new : (t o : ℕ) (c : Call) (f : Request) → Known (e ∷ h) t o c f → ((t ≡ length h) × Orders e c) ⊎ Known h t o c f
  known_new t o c f z = ⊎_elim inl (λ q. inr (known_at z q.1 (session_old e h c.terminal o t (omega (arith, q.0)) z.session))) (ordered_new e h t c z.ordered)

  pub known_old : (t o : ℕ) (c : Call) (f : Request) → t < length h → Known (e ∷ h) t o c f → Known h t o c f
  known_old t o c f lt z = ⊎_elim (λ q. absurd (omega (arith, lt, q.0))) (λ k. k) (known_new t o c f z)

  -- what was put was put before, or by a run just now
  pub put_new : (o : ℕ) (c : Call) (m : Bytes) → Put (e ∷ h) o c m → Put h o c m ⊎ (Runs h e o c × (e.put ≡ Some m))
  put_new o c m z = ⊎_elim newest older (newest_or_older e h z.0 z.1 z.4)
    where
      newest : (z.0 ≡ length h) × (z.1 ≡ e) → Put h o c m ⊎ (Runs h e o c × (e.put ≡ Some m))
      newest q = inr (runs_new e h o c (subst (λ x. Ran (e ∷ h) o c x) q.0 z.3), subst (λ x. x.put ≡ Some m) q.1 z.5)

      older : (z.0 < length h) × At h z.0 z.1 → Put h o c m ⊎ (Runs h e o c × (e.put ≡ Some m))
      older q = inl (z.0, z.1, q.0, growth.ran (flip (grown e h)) o c z.0 q.0 z.3, q.1, z.5)

  pub put_still : (o : ℕ) (c : Call) (m : Bytes) → Put h o c m → Put (e ∷ h) o c m
  put_still o c m z = (z.0, z.1, omega (arith, z.2), growth.ran (grown e h) o c z.0 z.2 z.3, inr z.4, z.5)

  pub put_now : (o : ℕ) (c : Call) (m : Bytes) → Runs h e o c → e.put ≡ Some m → Put (e ∷ h) o c m
  put_now o c m r p = (length h, e, omega arith, runs_now e h o c r, at_newest e h, p)

  -- work set aside
  pub aside_still : (o : ℕ) (c : Call) → Aside h o c → (Resumes e c.terminal c.slot → ⊥) → Aside (e ∷ h) o c
  aside_still o c z none =
      (z.0, growth.first_heard (grown e h) o c z.0 aside (at_below h z.0 z.1.0.0 z.1.0.2) z.1, λ y a b r. ⊎_elim (λ q. none q.1) (λ q. z.2 y a q.0 q.1) (resumed_new e h c.terminal c.slot y r))

  -- set aside before, unless by this event
  pub aside_old : (o : ℕ) (c : Call) → (Hears e c aside → Stands h c.terminal o (length h) → HeardBefore h o c (length h)) → Aside (e ∷ h) o c → Aside h o c
  aside_old o c again z = ⊎_elim earlier now (cases_lt z.0 (length h))
    where
      now : length h ≤ z.0 → Aside h o c
      now le =
          let is : z.0 ≡ length h = omega (arith, le, at_below (e ∷ h) z.0 z.1.0.0 z.1.0.2) in
          let st : Stands h c.terminal o (length h) = growth.stands (flip (grown e h)) c.terminal o (length h) (omega arith) (subst (λ x. Stands (e ∷ h) c.terminal o x) is z.1.0.5) in
          let same : z.1.0.0 ≡ e = newest_is e h z.1.0.0 (subst (λ x. At (e ∷ h) x z.1.0.0) is z.1.0.2) in
          let old : HeardBefore h o c (length h) = again (subst (λ x. Hears x c aside) same (z.1.0.1, z.1.0.3, z.1.0.4)) st in
          absurd (z.1.1 (subst (λ x. HeardBefore (e ∷ h) o c x) (sym is) (growth.heard_before (grown e h) o c (length h) (omega arith) old)))

      earlier : z.0 < length h → Aside h o c
      earlier lt = (z.0, growth.first_heard (flip (grown e h)) o c z.0 aside lt z.1, λ y a b r. z.2 y a (omega (arith, b)) (growth.resumed (grown e h) c.terminal c.slot y b r))

  pub aside_now : (o : ℕ) (c : Call) → Hears e c aside → (HeardBefore h o c (length h) → ⊥) → Stands h c.terminal o (length h) → Aside (e ∷ h) o c
  aside_now o c z new st =
      (length h, ((e, z.0, at_newest e h, z.1, z.2, stands_kept e h c.terminal o (length h) (omega arith) st), λ b. new (growth.heard_before (flip (grown e h)) o c (length h) (omega arith) b)), λ y a b r. omega (arith, a, b))

-- a run puts one message
pub put_one : (h : History) (o : ℕ) (c : Call) (a b : Bytes) → Put h o c a → Put h o c b → a ≡ b
put_one h o c a b x y =
    let same : x.0 ≡ y.0 = ran_one h o c x.0 y.0 x.3 y.3 in
    let es : x.1 ≡ y.1 = at_one h y.0 x.1 y.1 (subst (λ w. At h w x.1) same x.4) y.4 in
    some_same a b (sym x.5 ∙ ap (λ w. w.put) es ∙ y.5)

-- each present word of h holds in k
pub record Carries (h k : History) : Type 0 where
  pub known : (t o : ℕ) (c : Call) (f : Request) → Known h t o c f → Known k t o c f
  pub ordered : (t : ℕ) (c : Call) → Ordered h t c → Ordered k t c
  pub opened : (o p : ℕ) → Opened h o p → Opened k o p
  pub session : (p o : ℕ) → Session h p o (length h) → Session k p o (length k)
  pub open_calls : (t o : ℕ) (c : Call) (f : Request) → Known h t o c f → Open h t c (length h) → Open k t c (length k)
  pub heard : (t o : ℕ) (c : Call) (f : Request) → Known h t o c f → HeardBefore h o c (length h) → HeardBefore k o c (length k)
  pub ran : (t o : ℕ) (c : Call) (f : Request) → Known h t o c f → RanBefore h o c (length h) → RanBefore k o c (length k)
  pub put : (t o : ℕ) (c : Call) (f : Request) (m : Bytes) → Known h t o c f → Put h o c m → Put k o c m
  pub set_aside : (t o : ℕ) (c : Call) (f : Request) → Known h t o c f → Aside h o c → Aside k o c

-- and of one session's calls
pub record CarriesAt (o : ℕ) (h k : History) : Type 0 where
  pub known : (t : ℕ) (c : Call) (f : Request) → Known h t o c f → Known k t o c f
  pub open_calls : (t : ℕ) (c : Call) (f : Request) → Known h t o c f → Open h t c (length h) → Open k t c (length k)
  pub heard : (t : ℕ) (c : Call) (f : Request) → Known h t o c f → HeardBefore h o c (length h) → HeardBefore k o c (length k)
  pub ran : (t : ℕ) (c : Call) (f : Request) → Known h t o c f → RanBefore h o c (length h) → RanBefore k o c (length k)
  pub put : (t : ℕ) (c : Call) (f : Request) (m : Bytes) → Known h t o c f → Put h o c m → Put k o c m
  pub set_aside : (t : ℕ) (c : Call) (f : Request) → Known h t o c f → Aside h o c → Aside k o c

pub carries_at : {h k : History} (o : ℕ) → Carries h k → CarriesAt o h k
carries_at o x = record {
  known = λ t c f. x.known t o c f;
  open_calls = λ t c f. x.open_calls t o c f;
  heard = λ t c f. x.heard t o c f;
  ran = λ t c f. x.ran t o c f;
  put = λ t c f m. x.put t o c f m;
  set_aside = λ t c f. x.set_aside t o c f;
}

-- an event that orders, opens and resumes nothing, closes no call, and hears no first copy; it may close a session
pub record Quiet (h : History) (e : Event) : Type 0 where
  pub no_order : (c : Call) → Orders e c → ⊥
  pub no_open : (p : ℕ) → Opens e p → ⊥
  pub no_reply : (c : Call) (g : Effect) → Replies e c g → ⊥
  pub no_resume : (p s : ℕ) → Resumes e p s → ⊥
  pub heard_again : (t o : ℕ) (c : Call) (f : Request) (w : Told) → Known h t o c f → Hears e c w → Stands h c.terminal o (length h) → HeardBefore h o c (length h)

module _ (e : Event) (h : History) (q : Quiet h e) where
  quiet_known : (t o : ℕ) (c : Call) (f : Request) → Known (e ∷ h) t o c f → Known h t o c f
  quiet_known t o c f z = ⊎_elim (λ x. absurd (q.no_order c x.1)) (λ x. x) (known_new e h t o c f z)

  -- it runs nothing
  pub quiet_runs : (t o : ℕ) (c : Call) (f : Request) → Known h t o c f → Runs h e o c → ⊥
  quiet_runs t o c f z r = ⊎_elim (λ x. x.1 (q.heard_again t o c f run z x.0 r.0)) (λ x. q.no_resume c.terminal c.slot x.2) r.1

  -- a session that stands after it stood before, and was not closed by it
  pub stood : (p o : ℕ) → Stands (e ∷ h) p o (suc (length h)) → Stands h p o (length h) × (EndsSession e p → ⊥)
  stood p o z = ⊎_elim (λ x. absurd (q.no_open p x.1)) (λ x. x) (stands_new e h p o z)

  pub quiet_up : Carries h (e ∷ h)
  quiet_up = record {
    known = known_up e h;
    ordered = λ t c z. growth.ordered (grown e h) t c (at_below h t z.0 z.1) z;
    opened = λ o p z. growth.opened (grown e h) o p (at_below h o z.0 z.2) z;
    session = λ p o z. session_still e h p o z (q.no_open p);
    open_calls = λ t o c f k z. open_still e h t c z (q.no_reply c) (q.no_open c.terminal);
    heard = λ t o c f k z. heard_still e h o c z;
    ran = λ t o c f k z. ran_still e h o c z;
    put = λ t o c f m k z. put_still e h o c m z;
    set_aside = λ t o c f k z. aside_still e h o c z (q.no_resume c.terminal c.slot);
  }

  pub quiet_down : Carries (e ∷ h) h
  quiet_down = record {
    known = quiet_known;
    ordered = λ t c z. ⊎_elim (λ x. absurd (q.no_order c x.1)) (λ x. x.1) (ordered_new e h t c z);
    opened = λ o p z. ⊎_elim (λ x. absurd (q.no_open p x.1)) (λ x. x.1) (opened_new e h o p z);
    session = λ p o z. ⊎_elim (λ x. absurd (q.no_open p x.1)) (λ x. x.0) (session_new e h p o z);
    open_calls = λ t o c f k z. ⊎_elim (λ x. absurd (newest_order t o c f k x)) (λ x. x.0) (open_new e h t c z);
    heard = λ t o c f k z. ⊎_elim (λ x. x) (λ x. q.heard_again t o c f x.0 (quiet_known t o c f k) x.1 x.2) (heard_new e h o c z);
    ran = λ t o c f k z. ⊎_elim (λ x. x) (λ x. absurd (quiet_runs t o c f (quiet_known t o c f k) x)) (ran_new e h o c z);
    put = λ t o c f m k z. ⊎_elim (λ x. x) (λ x. absurd (quiet_runs t o c f (quiet_known t o c f k) x.0)) (put_new e h o c m z);
    set_aside = λ t o c f k z. aside_old e h o c (q.heard_again t o c f aside (quiet_known t o c f k)) z;
  }
    where
      newest_order : (t o : ℕ) (c : Call) (f : Request) → Known (e ∷ h) t o c f → t ≡ length h → ⊥
      newest_order t o c f k x =
          let z = quiet_known t o c f k in
          omega (arith, at_below h t z.ordered.0 z.ordered.1, x)

-- the invariant's parts, carried both ways
module _ {h k : History} (o : ℕ) (up : CarriesAt o h k) (down : CarriesAt o k h) where
  pub terminal_carried : (T : TerminalM) → TerminalSide h o T → TerminalSide k o T
  terminal_carried T x = record {
    sixteen = x.sixteen;
    bound = x.bound;
    low = λ t c f z. x.low t c f (down.known t c f z);
    open_held = λ t c f z op. x.open_held t c f (down.known t c f z) (down.open_calls t c f z op);
    held_open = λ s n e. (let w = x.held_open s n e in (w.0, w.1, w.2, up.known w.0 w.1 w.2 w.3, w.4, w.5, up.open_calls w.0 w.1 w.2 w.3 w.6));
    held_usable = x.held_usable;
    held_part = x.held_part;
  }

  pub last_carried : (t : ℕ) (c : Call) (f : Request) → Known h t o c f → (l : Last) → ByLast h o c f l → ByLast k o c f l
  last_carried t c f z never b = b
  last_carried t c f z in_progress b = (up.set_aside t c f z b.0, λ r. b.1 (down.ran t c f (up.known t c f z) r))
  last_carried t c f z (kept high goal y) b = (up.put t c f _ z b.0, b.1, b.2, b.3, b.4)
  last_carried t c f z not_kept b = (up.ran t c f z b.0, b.1)

  pub holds_carried : (t : ℕ) (c : Call) (f : Request) (x : SlotM) → Known h t o c f → Holds h o c f x → Holds k o c f x
  holds_carried t c f x z y = record { highest = y.highest; keep = y.keep; body = y.body; last = last_carried t c f z x.last y.last }

  pub server_carried : (S : SessionM) → ServerSide h o S → ServerSide k o S
  server_carried S x = record {
    sixteen = x.sixteen;
    target = x.target;
    target_open = x.target_open;
    heard_low = λ t c f z b. x.heard_low t c f (down.known t c f z) (down.heard t c f z b);
    low_heard = λ t c f z le. up.heard t c f (down.known t c f z) (x.low_heard t c f (down.known t c f z) le);
    older_ran = λ t c f z lt. up.ran t c f (down.known t c f z) (x.older_ran t c f (down.known t c f z) lt);
    last_holds = λ t c f z e. holds_carried t c f (slot_at S f.slot) (down.known t c f z) (x.last_holds t c f (down.known t c f z) e);
    last_known = λ s le. (let w = x.last_known s le in (w.0, w.1, w.2, up.known w.0 w.1 w.2 w.3, w.4, w.5));
    unused = x.unused;
  }

  pub both_carried : (T : TerminalM) (S : SessionM) → BothSides h o T S → BothSides k o T S
  both_carried T S x = record {
    close = x.close;
    usable_ready = x.usable_ready;
    fresh_ready = λ t c f n high goal b z e lv fr fg pu. x.fresh_ready t c f n high goal b (down.known t c f z) e lv fr fg (down.put t c f _ z pu);
  }

-- a reply that waits keeps its meaning
pub answers_carried : {h k : History} (o : ℕ) (c : Call) (f : Request) (r : Reply) → (Stands k c.terminal o (length k) → Stands h c.terminal o (length h)) → ((m : Bytes) → Put h o c m → Put k o c m) → (RanBefore h o c (length h) → RanBefore k o c (length k)) → Answers h o c f r → Answers k o c f r
answers_carried {h} {k} o c f r before put ran x = record { permitted = x.permitted; id = x.id; number = x.number; slot = x.slot; by_status = by x.by_status }
  where
    by : ByStatus h o c f r → ByStatus k o c f r
    by (inl a) = inl (a.0, put _ a.1)
    by (inr (inl a)) = inr (inl (a.0, ran a.1, a.2, a.3))
    by (inr (inr (inl a))) = inr (inr (inl (a.0, λ st. a.1 (before st))))
    by (inr (inr (inr a))) = inr (inr (inr a))

-- what a slot keeps of a call, by what is known of that call alone
pub holds_moved : {h k : History} (o : ℕ) (c : Call) (f : Request) (x : SlotM) → ((m : Bytes) → Put h o c m → Put k o c m) → (RanBefore h o c (length h) → RanBefore k o c (length k)) → (RanBefore k o c (length k) → RanBefore h o c (length h)) → (Aside h o c → Aside k o c) → Holds h o c f x → Holds k o c f x
holds_moved {h} {k} o c f x put ran unran aside_up y = record { highest = y.highest; keep = y.keep; body = y.body; last = go x.last y.last }
  where
    go : (l : Last) → ByLast h o c f l → ByLast k o c f l
    go never b = b
    go in_progress b = (aside_up b.0, λ r. b.1 (unran r))
    go (kept high goal z) b = (put _ b.0, b.1, b.2, b.3, b.4)
    go not_kept b = (ran b.0, b.1)

-- a terminal's part wants only its calls and which are open
pub terminal_moved : {h k : History} (o : ℕ) (T : TerminalM) → ((t : ℕ) (c : Call) (f : Request) → Known h t o c f → Known k t o c f) → ((t : ℕ) (c : Call) (f : Request) → Known k t o c f → Known h t o c f) → ((t : ℕ) (c : Call) (f : Request) → Known h t o c f → Open h t c (length h) → Open k t c (length k)) → ((t : ℕ) (c : Call) (f : Request) → Known h t o c f → Open k t c (length k) → Open h t c (length h)) → TerminalSide h o T → TerminalSide k o T
terminal_moved o T known back opens shuts x = record {
  sixteen = x.sixteen;
  bound = x.bound;
  low = λ t c f z. x.low t c f (back t c f z);
  open_held = λ t c f z op. x.open_held t c f (back t c f z) (shuts t c f (back t c f z) op);
  held_open = λ s n e. (let w = x.held_open s n e in (w.0, w.1, w.2, known w.0 w.1 w.2 w.3, w.4, w.5, opens w.0 w.1 w.2 w.3 w.6));
  held_usable = x.held_usable;
  held_part = x.held_part;
}
