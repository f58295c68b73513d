-- What an event leaves as it was: the sessions where it opens none, the calls where it orders none, what was heard and run where it hears and resumes nothing, and what waits.
use Rattle.std.proofs.Common.{◌≡◌, ℕ, suc, ◌⊎◌, ◌∷◌, length, Some, sym, ap, ◌∙◌, ⊎_elim, arith}
use Rattle.common.specs.Bytes.{Bytes}
use Rattle.common.specs.Search.{In}
use Rattle.wire.specs.Wire.{SessionId, Request, Reply, request_message, reply_message}
use Rattle.terminal.specs.Terminal.{Effect}
use Rattle.exactly_once.specs.History.{Told, run, asked_hear, Event, History}
use Rattle.exactly_once.specs.Words.{Call, Opened, Stands, Session, Open, HeardBefore, RanBefore}
use Rattle.exactly_once.specs.Steps.{Parts, Model}
use Rattle.exactly_once.proofs.Times.{at_below, newest_or_older}
use Rattle.exactly_once.proofs.Unique.{Orders}
use Rattle.exactly_once.proofs.Newest.{Opens, Replies, Hears, Resumes, Runs, ordered_new, opened_new, stands_new, session_new, open_new, heard_new, ran_new, ran_still}
use Rattle.exactly_once.proofs.Runlist.{runs_on}
use Rattle.exactly_once.proofs.Invariant.{Known, Put, Aside, Answers, Calls, Waiting, Done}
use Rattle.exactly_once.proofs.Carry.{known_up, known_new, put_new, put_still, aside_old, answers_carried}

-- an event that hears and resumes nothing
pub record Idle (e : Event) : Type 0 where
  pub no_hear : (c : Call) (w : Told) → Hears e c w → ⊥
  pub no_resume : (q s : ℕ) → Resumes e q s → ⊥

module _ (e : Event) (h : History) where
  -- where it opens no session
  module _ (no_open : (q : ℕ) → Opens e q → ⊥) where
    pub stood : (q u : ℕ) → Stands (e ∷ h) q u (suc (length h)) → Stands h q u (length h)
    stood q u z = ⊎_elim (λ x. absurd (no_open q x.1)) (λ x. x.0) (stands_new e h q u z)

    pub was_newest : (q u : ℕ) → Session (e ∷ h) q u (suc (length h)) → Session h q u (length h)
    was_newest q u z = ⊎_elim (λ x. absurd (no_open q x.1)) (λ x. x.0) (session_new e h q u z)

    pub was_opened : (u q : ℕ) → Opened (e ∷ h) u q → Opened h u q
    was_opened u q z = ⊎_elim (λ x. absurd (no_open q x.1)) (λ x. x.1) (opened_new e h u q z)

  -- a call known before that is open was so, and is not closed now
  pub was_open : (t u : ℕ) (c : Call) (f : Request) → Known h t u c f → Open (e ∷ h) t c (suc (length h)) → Open h t c (length h) × ((g : Effect) → Replies e c g → ⊥)
  was_open t u c f z x = ⊎_elim (λ q. absurd (omega (arith, q, at_below h t z.ordered.0 z.ordered.1))) (λ q. (q.0, q.1)) (open_new e h t c x)

  -- where it orders no call; the sessions that were opened before keep their ids
  module _ (no_order : (c : Call) → Orders e c → ⊥) where
    pub was_known : (t u : ℕ) (c : Call) (f : Request) → Known (e ∷ h) t u c f → Known h t u c f
    was_known t u c f z = ⊎_elim (λ q. absurd (no_order c q.1)) (λ q. q) (known_new e h t u c f z)

    pub calls_on : (ids new : ℕ → SessionId) → ((u q : ℕ) → Opened h u q → new u ≡ ids u) → Calls h ids → Calls (e ∷ h) new
    calls_on ids new same x = record {
      known = λ t c z. ⊎_elim (λ q. absurd (no_order c q.1)) (λ q. (let w = x.known t c q.1 in (w.0, w.1, known_up e h t w.0 c w.1 w.2))) (ordered_new e h t c z);
      named = λ t u c f z. (let w = was_known t u c f z in x.named t u c f w ∙ sym (same u c.terminal w.session.0));
      numbered = λ t u c f z. x.numbered t u c f (was_known t u c f z);
      placed = λ t u c f z. x.placed t u c f (was_known t u c f z);
      formed = λ t u c f z. x.formed t u c f (was_known t u c f z);
      once = λ t v u c d f g z w. x.once t v u c d f g (was_known t u c f z) (was_known v u d g w);
    }

  -- where it hears and resumes nothing
  module _ (idle : Idle e) where
    pub no_run : (u : ℕ) (c : Call) → Runs h e u c → ⊥
    no_run u c r = ⊎_elim (λ x. idle.no_hear c run x.0) (λ x. idle.no_resume c.terminal c.slot x.2) r.1

    pub was_heard : (u : ℕ) (c : Call) → HeardBefore (e ∷ h) u c (suc (length h)) → HeardBefore h u c (length h)
    was_heard u c x = ⊎_elim (λ q. q) (λ q. absurd (idle.no_hear c q.0 q.1)) (heard_new e h u c x)

    pub had_run : (u : ℕ) (c : Call) → RanBefore (e ∷ h) u c (suc (length h)) → RanBefore h u c (length h)
    had_run u c x = ⊎_elim (λ q. q) (λ q. absurd (no_run u c q)) (ran_new e h u c x)

    pub was_put : (u : ℕ) (c : Call) (b : Bytes) → Put (e ∷ h) u c b → Put h u c b
    was_put u c b x = ⊎_elim (λ q. q) (λ q. absurd (no_run u c q.0)) (put_new e h u c b x)

    pub was_aside : (u : ℕ) (c : Call) → Aside (e ∷ h) u c → Aside h u c
    was_aside u c x = aside_old e h u c (λ q st. absurd (idle.no_hear c _ q)) x

  module _ (P : Parts) where
    -- each waiting message waited before, or is fit to wait; so is what a hear took
    pub waiting_on : (m n : Model P) → Waiting P h m → ((t o : ℕ) (c : Call) (f : Request) → Known h t o c f → Stands (e ∷ h) c.terminal o (suc (length h)) → Stands h c.terminal o (length h)) → ((b : Bytes) → In b (P.requests.waits n.requests) → In b (P.requests.waits m.requests) ⊎ ((t : ℕ) × (o : ℕ) × (c : Call) × (f : Request) × Known (e ∷ h) t o c f × (b ≡ c.request))) → ((w : Told) (room : ℕ) (b : Bytes) → e.asked ≡ asked_hear w room → e.took ≡ Some b → (t : ℕ) × (o : ℕ) × (c : Call) × (f : Request) × Known h t o c f × (b ≡ c.request)) → ((b : Bytes) → In b (P.replies.waits n.replies) → In b (P.replies.waits m.replies) ⊎ ((t : ℕ) × (o : ℕ) × (c : Call) × (f : Request) × (r : Reply) × Known (e ∷ h) t o c f × (b ≡ reply_message r) × Answers (e ∷ h) o c f r)) → Waiting P (e ∷ h) n
    waiting_on m n x stood asks takes tells = record {
      requests = λ b i. ⊎_elim (λ j. (let z = x.requests b j in (z.0, z.1, z.2, z.3, known_up e h z.0 z.1 z.2 z.3 z.4, z.5))) (λ z. z) (asks b i);
      heard = λ y f w room b a p q. ⊎_elim (λ z. (let k = takes w room b (sym (ap (λ v. v.asked) z.1) ∙ p) (sym (ap (λ v. v.took) z.1) ∙ q) in (k.0, k.1, k.2, k.3, known_up e h k.0 k.1 k.2 k.3 k.4, k.5, omega (arith, z.0, at_below h k.0 k.4.ordered.0 k.4.ordered.1)))) (λ z. (let k = x.heard y f w room b z.1 p q in (k.0, k.1, k.2, k.3, known_up e h k.0 k.1 k.2 k.3 k.4, k.5, k.6))) (newest_or_older e h y f a);
      replies = λ b i. ⊎_elim (λ j. (let z = x.replies b j in (z.0, z.1, z.2, z.3, z.4, known_up e h z.0 z.1 z.2 z.3 z.5, z.6, answers_carried z.1 z.2 z.3 z.4 (stood z.0 z.1 z.2 z.3 z.5) (put_still e h z.1 z.2) (ran_still e h z.1 z.2) z.7))) (λ z. z) (tells b i);
    }

    -- what has run
    pub done_idle : Idle e → ((c : Call) (u : ℕ) → Orders e c → RanBefore h u c (length h) → ⊥) → (first : P.service.Content) (m n : Model P) → n.content ≡ m.content → Done P first h m → Done P first (e ∷ h) n
    done_idle idle unrun first m n same x = record {
      list = x.list;
      runs = runs_on P.service.next P.service.reply request_message reply_message e h unrun x.list (λ t u c or se body r. no_run idle u c r) (λ u c z r. no_run idle u c r) x.runs;
      reach = x.reach ∙ sym same;
    }
