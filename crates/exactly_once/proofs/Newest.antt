-- What the newest event adds to each word.
use Rattle.std.proofs.Common.{◌≡◌, ℕ, suc, ◌<◌, ◌≤◌, ◌⊎◌, ◌∷◌, length, Some, subst, inl, inr, ⊎_elim, arith}
use Rattle.std.proofs.lemmas.Bool.{cases_eq}
use Rattle.common.specs.Bytes.{Bytes}
use Rattle.terminal.specs.Terminal.{Effect, answered, done, unknown}
use Rattle.exactly_once.specs.History.{Told, run, aside, asked_open, asked_hear, asked_resume, asked_take, asked_close, opened, taken, ok, Event, History, At}
use Rattle.exactly_once.specs.Words.{Call, Ordered, Opened, ClosedSession, Stands, Session, ReplyCloses, Open, HeardBefore, FirstHeard, Resumed, Ran, RanBefore}
use Rattle.exactly_once.proofs.Times.{at_below, at_newest, newest_is, newest_or_older}
use Rattle.exactly_once.proofs.Growth as growth
use Rattle.exactly_once.proofs.Growth.{Alike, flip, grown}
use Rattle.exactly_once.proofs.Unique.{Orders}

-- the event opens a session at p
abbrev pub Opens : Event → ℕ → Type 0
Opens e p = (k : ℕ) × (e.asked ≡ asked_open k) × (e.answer ≡ opened p)

-- it closes the session at p
abbrev pub EndsSession : Event → ℕ → Type 0
EndsSession e p = (e.asked ≡ asked_close p) × (e.answer ≡ ok)

-- it takes a reply that closes the call open at c's terminal and slot
abbrev pub Replies : Event → Call → Effect → Type 0
Replies e c f = (room : ℕ) × (e.asked ≡ asked_take room) × (e.answer ≡ taken c.terminal c.slot f) × (((b : Bytes) × (f ≡ answered b)) ⊎ (f ≡ done) ⊎ (f ≡ unknown))

-- it hears a copy of c
abbrev pub Hears : Event → Call → Told → Type 0
Hears e c w = (room : ℕ) × (e.asked ≡ asked_hear w room) × (e.took ≡ Some c.request)

-- it resumes the work set aside at a slot
abbrev pub Resumes : Event → ℕ → ℕ → Type 0
Resumes e p s = (room : ℕ) × (e.asked ≡ asked_resume p s room) × (e.answer ≡ ok)

-- with the history h before it, it runs c
abbrev pub Runs : History → Event → ℕ → Call → Type 0
Runs h e o c =
    Stands h c.terminal o (length h) × ((Hears e c run × (HeardBefore h o c (length h) → ⊥)) ⊎ ((y : ℕ) × FirstHeard h o c y aside × Resumes e c.terminal c.slot × ((z : ℕ) → y < z → z < length h → Resumed h c.terminal c.slot z → ⊥)))

module _ (e : Event) (h : History) where
  old : Alike (length h) h (e ∷ h)
  old = grown e h

  pub ordered_new : (t : ℕ) (c : Call) → Ordered (e ∷ h) t c → ((t ≡ length h) × Orders e c) ⊎ ((t < length h) × Ordered h t c)
  ordered_new t c p = ⊎_elim (λ q. inl (q.0, subst (λ f. Orders f c) q.1 (p.2, p.3, p.4))) (λ q. inr (q.0, (p.0, q.1, p.2, p.3, p.4))) (newest_or_older e h t p.0 p.1)

  pub ordered_now : (c : Call) → Orders e c → Ordered (e ∷ h) (length h) c
  ordered_now c p = (e, at_newest e h, p.0, p.1, p.2)

  pub opened_new : (t p : ℕ) → Opened (e ∷ h) t p → ((t ≡ length h) × Opens e p) ⊎ ((t < length h) × Opened h t p)
  opened_new t p z = ⊎_elim (λ q. inl (q.0, subst (λ f. Opens f p) q.1 (z.1, z.3, z.4))) (λ q. inr (q.0, (z.0, z.1, q.1, z.3, z.4))) (newest_or_older e h t z.0 z.2)

  pub opened_now : (p : ℕ) → Opens e p → Opened (e ∷ h) (length h) p
  opened_now p z = (e, z.0, at_newest e h, z.1, z.2)

  pub ended_new : (t p : ℕ) → ClosedSession (e ∷ h) t p → ((t ≡ length h) × EndsSession e p) ⊎ ((t < length h) × ClosedSession h t p)
  ended_new t p z = ⊎_elim (λ q. inl (q.0, subst (λ f. EndsSession f p) q.1 (z.2, z.3))) (λ q. inr (q.0, (z.0, q.1, z.2, z.3))) (newest_or_older e h t z.0 z.1)

  pub ended_now : (p : ℕ) → EndsSession e p → ClosedSession (e ∷ h) (length h) p
  ended_now p z = (e, at_newest e h, z.0, z.1)

  pub closes_new : (c : Call) (t : ℕ) (g : Effect) → ReplyCloses (e ∷ h) c t g → ((t ≡ length h) × Replies e c g) ⊎ ((t < length h) × ReplyCloses h c t g)
  closes_new c t g z = ⊎_elim (λ q. inl (q.0, subst (λ f. Replies f c g) q.1 (z.1, z.3, z.4, z.5))) (λ q. inr (q.0, (z.0, z.1, q.1, z.3, z.4, z.5))) (newest_or_older e h t z.0 z.2)

  pub closes_now : (c : Call) (g : Effect) → Replies e c g → ReplyCloses (e ∷ h) c (length h) g
  closes_now c g z = (e, z.0, at_newest e h, z.1, z.2, z.3)

  pub resumed_new : (p s t : ℕ) → Resumed (e ∷ h) p s t → ((t ≡ length h) × Resumes e p s) ⊎ ((t < length h) × Resumed h p s t)
  resumed_new p s t z = ⊎_elim (λ q. inl (q.0, subst (λ f. Resumes f p s) q.1 (z.1, z.3, z.4))) (λ q. inr (q.0, (z.0, z.1, q.1, z.3, z.4))) (newest_or_older e h t z.0 z.2)

  pub resumed_now : (p s : ℕ) → Resumes e p s → Resumed (e ∷ h) p s (length h)
  resumed_now p s z = (e, z.0, at_newest e h, z.1, z.2)

  -- a standing session was opened just now, or stood and was not closed just now
  pub stands_new : (p o : ℕ) → Stands (e ∷ h) p o (suc (length h)) → ((o ≡ length h) × Opens e p) ⊎ (Stands h p o (length h) × (EndsSession e p → ⊥))
  stands_new p o s = ⊎_elim inl (λ q. inr ((q.1, q.0, earlier q), λ z. s.2 (length h) q.0 (omega arith) (ended_now p z))) (opened_new o p s.0)
    where
      earlier : (o < length h) × Opened h o p → (x : ℕ) → o < x → x < length h → ClosedSession h x p → ⊥
      earlier q x lt gt z = s.2 x lt (omega (arith, gt)) (growth.closed_session old x p gt z)

  pub stands_now : (p : ℕ) → Opens e p → Stands (e ∷ h) p (length h) (suc (length h))
  stands_now p z = (opened_now p z, omega arith, λ x lt gt w. omega (arith, lt, gt))

  pub stands_still : (p o : ℕ) → Stands h p o (length h) → (EndsSession e p → ⊥) → Stands (e ∷ h) p o (suc (length h))
  stands_still p o s never = (growth.opened old o p s.1 s.0, omega (arith, s.1), λ x lt gt z. ⊎_elim (λ q. never q.1) (λ q. s.2 x lt q.0 q.1) (ended_new x p z))

  -- the newest session at a place
  pub session_new : (p o : ℕ) → Session (e ∷ h) p o (suc (length h)) → ((o ≡ length h) × Opens e p) ⊎ (Session h p o (length h) × (Opens e p → ⊥))
  session_new p o s = ⊎_elim inl (λ q. inr ((q.1, q.0, earlier q), λ z. s.2 (length h) q.0 (omega arith) (opened_now p z))) (opened_new o p s.0)
    where
      earlier : (o < length h) × Opened h o p → (x : ℕ) → o < x → x < length h → Opened h x p → ⊥
      earlier q x lt gt z = s.2 x lt (omega (arith, gt)) (growth.opened old x p gt z)

  pub session_now : (p : ℕ) → Opens e p → Session (e ∷ h) p (length h) (suc (length h))
  session_now p z = (opened_now p z, omega arith, λ x lt gt w. omega (arith, lt, gt))

  pub session_still : (p o : ℕ) → Session h p o (length h) → (Opens e p → ⊥) → Session (e ∷ h) p o (suc (length h))
  session_still p o s never = (growth.opened old o p s.1 s.0, omega (arith, s.1), λ x lt gt z. ⊎_elim (λ q. never q.1) (λ q. s.2 x lt q.0 q.1) (opened_new x p z))

  -- the session of an earlier time, and of the newest
  pub session_old : (p o t : ℕ) → t ≤ length h → Session (e ∷ h) p o t → Session h p o t
  session_old p o t le s = growth.session (flip old) p o t le s

  pub session_kept : (p o t : ℕ) → t ≤ length h → Session h p o t → Session (e ∷ h) p o t
  session_kept p o t le s = growth.session old p o t le s

  pub stands_old : (p o t : ℕ) → t ≤ length h → Stands (e ∷ h) p o t → Stands h p o t
  stands_old p o t le s = growth.stands (flip old) p o t le s

  pub stands_kept : (p o t : ℕ) → t ≤ length h → Stands h p o t → Stands (e ∷ h) p o t
  stands_kept p o t le s = growth.stands old p o t le s

  -- an open call was ordered just now, or was open and is not closed just now
  pub open_new : (t : ℕ) (c : Call) → Open (e ∷ h) t c (suc (length h)) → (t ≡ length h) ⊎ (Open h t c (length h) × ((g : Effect) → Replies e c g → ⊥) × (Opens e c.terminal → ⊥))
  open_new t c o = ⊎_elim inl (λ ne. inr (before ne)) (cases_eq t (length h))
    where
      before : (t ≡ length h → ⊥) → Open h t c (length h) × ((g : Effect) → Replies e c g → ⊥) × (Opens e c.terminal → ⊥)
      before ne =
          let lt : t < length h = omega (arith, ne, o.0) in
          ((lt, λ y f a b z. o.1 y f a (omega (arith, b)) (growth.reply_closes old c y f b z), λ y a b z. o.2 y a (omega (arith, b)) (growth.opened old y c.terminal b z)), λ g z. o.1 (length h) g lt (omega arith) (closes_now c g z), λ z. o.2 (length h) lt (omega arith) (opened_now c.terminal z))

  pub open_now : (c : Call) → Open (e ∷ h) (length h) c (suc (length h))
  open_now c = (omega arith, λ y f a b z. omega (arith, a, b), λ y a b z. omega (arith, a, b))

  pub open_still : (t : ℕ) (c : Call) → Open h t c (length h) → ((g : Effect) → Replies e c g → ⊥) → (Opens e c.terminal → ⊥) → Open (e ∷ h) t c (suc (length h))
  open_still t c o never none = (omega (arith, o.0), λ y f a b z. ⊎_elim (λ q. never f q.1) (λ q. o.1 y f a q.0 q.1) (closes_new c y f z), λ y a b z. ⊎_elim (λ q. none q.1) (λ q. o.2 y a q.0 q.1) (opened_new y c.terminal z))

  -- a call heard was heard before, or is just now
  pub heard_new : (o : ℕ) (c : Call) → HeardBefore (e ∷ h) o c (suc (length h)) → HeardBefore h o c (length h) ⊎ ((w : Told) × Hears e c w × Stands h c.terminal o (length h))
  heard_new o c b = ⊎_elim newest older (newest_or_older e h b.0 b.3.0 b.3.2)
    where
      newest : (b.0 ≡ length h) × (b.3.0 ≡ e) → HeardBefore h o c (length h) ⊎ ((w : Told) × Hears e c w × Stands h c.terminal o (length h))
      newest q =
          let s = subst (λ t. Stands (e ∷ h) c.terminal o t) q.0 b.3.5 in
          inr (b.1, subst (λ f. Hears f c b.1) q.1 (b.3.1, b.3.3, b.3.4), stands_old c.terminal o (length h) (omega arith) s)

      older : (b.0 < length h) × At h b.0 b.3.0 → HeardBefore h o c (length h) ⊎ ((w : Told) × Hears e c w × Stands h c.terminal o (length h))
      older q = inl (b.0, b.1, q.0, (b.3.0, b.3.1, q.1, b.3.3, b.3.4, stands_old c.terminal o b.0 (omega (arith, q.0)) b.3.5))

  pub heard_now : (o : ℕ) (c : Call) (w : Told) → Hears e c w → Stands h c.terminal o (length h) → HeardBefore (e ∷ h) o c (suc (length h))
  heard_now o c w z s = (length h, w, omega arith, (e, z.0, at_newest e h, z.1, z.2, stands_kept c.terminal o (length h) (omega arith) s))

  pub heard_still : (o : ℕ) (c : Call) → HeardBefore h o c (length h) → HeardBefore (e ∷ h) o c (suc (length h))
  heard_still o c b = (b.0, b.1, omega (arith, b.2), growth.heard old o c b.0 b.1 b.2 b.3)

  pub heard_unchanged : (o : ℕ) (c : Call) (x : ℕ) → x ≤ length h → HeardBefore (e ∷ h) o c x → HeardBefore h o c x
  heard_unchanged o c x le b = growth.heard_before (flip old) o c x le b

  -- a run at the newest time
  pub runs_new : (o : ℕ) (c : Call) → Ran (e ∷ h) o c (length h) → Runs h e o c
  runs_new o c (inl z) =
      let is : z.0.0 ≡ e = newest_is e h z.0.0 z.0.2 in
      (stands_old c.terminal o (length h) (omega arith) z.0.5, inl (subst (λ f. Hears f c run) is (z.0.1, z.0.3, z.0.4), λ b. z.1 (growth.heard_before old o c (length h) (omega arith) b)))
  runs_new o c (inr z) =
      let is : z.3.0 ≡ e = newest_is e h z.3.0 z.3.2 in
      (stands_old c.terminal o (length h) (omega arith) z.4, inr (z.0, growth.first_heard (flip old) o c z.0 aside z.2 z.1, subst (λ f. Resumes f c.terminal c.slot) is (z.3.1, z.3.3, z.3.4), λ y a b r. z.5 y a b (growth.resumed old c.terminal c.slot y b r)))

  pub runs_now : (o : ℕ) (c : Call) → Runs h e o c → Ran (e ∷ h) o c (length h)
  runs_now o c z = ⊎_elim (λ q. inl (hears q)) (λ q. inr (resumes q)) z.1
    where
      s : Stands (e ∷ h) c.terminal o (length h)
      s = stands_kept c.terminal o (length h) (omega arith) z.0

      hears : Hears e c run × (HeardBefore h o c (length h) → ⊥) → FirstHeard (e ∷ h) o c (length h) run
      hears q = ((e, q.0.0, at_newest e h, q.0.1, q.0.2, s), λ b. q.1 (heard_unchanged o c (length h) (omega arith) b))

      resumes : ((y : ℕ) × FirstHeard h o c y aside × Resumes e c.terminal c.slot × ((z : ℕ) → y < z → z < length h → Resumed h c.terminal c.slot z → ⊥)) → (y : ℕ) × FirstHeard (e ∷ h) o c y aside × (y < length h) × Resumed (e ∷ h) c.terminal c.slot (length h) × Stands (e ∷ h) c.terminal o (length h) × ((z : ℕ) → y < z → z < length h → Resumed (e ∷ h) c.terminal c.slot z → ⊥)
      resumes q =
          let lt : q.0 < length h = at_below h q.0 q.1.0.0 q.1.0.2 in
          (q.0, growth.first_heard old o c q.0 aside lt q.1, lt, resumed_now c.terminal c.slot q.2, s, λ y a b r. q.3 y a b (growth.resumed (flip old) c.terminal c.slot y b r))

  -- no time is later than the newest
  ran_within : (o : ℕ) (c : Call) (x : ℕ) → Ran (e ∷ h) o c x → x < suc (length h)
  ran_within o c x (inl z) = at_below (e ∷ h) x z.0.0 z.0.2
  ran_within o c x (inr z) = at_below (e ∷ h) x z.3.0 z.3.2

  -- what has run had run before, or runs just now
  pub ran_new : (o : ℕ) (c : Call) → RanBefore (e ∷ h) o c (suc (length h)) → RanBefore h o c (length h) ⊎ Runs h e o c
  ran_new o c b =
      ⊎_elim (λ q. inr (runs_new o c (subst (λ x. Ran (e ∷ h) o c x) q b.2))) (λ ne. inl (before (omega (arith, ne, b.1)))) (cases_eq b.0 (length h))
    where
      before : b.0 < length h → RanBefore h o c (length h)
      before lt = (b.0, lt, growth.ran (flip old) o c b.0 lt b.2)

  pub ran_now : (o : ℕ) (c : Call) → Runs h e o c → RanBefore (e ∷ h) o c (suc (length h))
  ran_now o c z = (length h, omega arith, runs_now o c z)

  pub ran_still : (o : ℕ) (c : Call) → RanBefore h o c (length h) → RanBefore (e ∷ h) o c (suc (length h))
  ran_still o c b = (b.0, omega (arith, b.1), growth.ran old o c b.0 b.1 b.2)

  pub ran_unchanged : (o : ℕ) (c : Call) (x : ℕ) → x ≤ length h → RanBefore (e ∷ h) o c x → RanBefore h o c x
  ran_unchanged o c x le b = growth.ran_before (flip old) o c x le b
