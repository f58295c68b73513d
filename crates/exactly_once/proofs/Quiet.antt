-- The invariant behind a quiet event that alters only the channels: refusals, resend, copies heard again, replies without effect.
use Rattle.std.proofs.Common.{◌≡◌, ℕ, suc, ◌<◌, Bool, true, false, cond, ◌⊎◌, ◌∷◌, length, get_or, Some, None, Option, sym, refl, ap, ◌∙◌, subst, inl, inr, ⊎_elim, arith}
use borrow.Author.Tests.{clash}
use Rattle.std.proofs.lemmas.Bool.{cond_both}
use Rattle.common.specs.Bytes.{Bytes}
use Rattle.common.specs.Search.{In, when_found}
use Rattle.wire.specs.Wire.{Request, Reply, Refusal, row_of, request_message, reply_message}
use Rattle.server.specs.Server.{ServerM, SessionM}
use Rattle.terminal.specs.Terminal.{TerminalM}
use Rattle.exactly_once.specs.History.{Told, Asked, asked_open, asked_order, asked_part, asked_resend, asked_hear, asked_resume, asked_take, asked_retarget, asked_close, Answer, refused, Event, History}
use Rattle.exactly_once.specs.Words.{Call, Ordered, Stands, Session}
use Rattle.exactly_once.specs.Steps.{Parts, Model, Step, terminal_at, refuse}
use Rattle.exactly_once.proofs.Tables.{found_both}
use Rattle.exactly_once.proofs.Unique.{session_one}
use Rattle.exactly_once.proofs.Newest.{EndsSession, Runs, stands_still, ran_still}
use Rattle.exactly_once.proofs.Runlist.{runs_on}
use Rattle.exactly_once.proofs.Invariant.{Known, Answers, Calls, TerminalSide, ServerSide, BothSides, Places, Waiting, Done, Inv}
use Rattle.exactly_once.proofs.Unchanged.{calls_on, waiting_on}
use Rattle.exactly_once.proofs.Carry.{Carries, carries_at, put_still, Quiet, quiet_up, quiet_down, quiet_runs, terminal_carried, server_carried, both_carried, answers_carried, stood}

module _ (P : Parts) (first : P.service.Content) where
  -- the house with other channels
  abbrev pub with_channels : Model P → P.requests.State → P.replies.State → Model P
  with_channels m q r = record { server = m.server; terminals = m.terminals; content = m.content; requests = q; replies = r }

  module _ (e : Event) (h : History) (m : Model P) (quiet : Quiet h e) (inv : Inv P first h m) where
    up : Carries h (e ∷ h)
    up = quiet_up e h quiet

    down : Carries (e ∷ h) h
    down = quiet_down e h quiet

    pub quiet_calls : Calls (e ∷ h) inv.ids
    quiet_calls = calls_on e h quiet.no_order inv.ids inv.ids (λ u q z. refl) inv.calls

    -- the runs
    pub quiet_done : (q : P.requests.State) (r : P.replies.State) (s : ServerM) → Done P first (e ∷ h) (record { server = s; terminals = m.terminals; content = m.content; requests = q; replies = r })
    quiet_done q r s = record {
      list = inv.done.list;
      runs = runs_on P.service.next P.service.reply request_message reply_message e h (λ c o z b. quiet.no_order c z) inv.done.list none (λ o c z b. quiet.no_order c z) inv.done.runs;
      reach = inv.done.reach;
    }
      where
        none : (t o : ℕ) (c : Call) → Ordered h t c → Session h c.terminal o t → 0 < length c.body → Runs h e o c → ⊥
        none t o c or se body ru =
            let k = inv.calls.known t c or in
            let same : k.0 ≡ o = session_one h c.terminal k.0 o t k.2.session se in
            quiet_runs e h quiet t o c k.1 (subst (λ x. Known h t x c k.1) same k.2) ru

    pub quiet_terminals : (p o : ℕ) (T : TerminalM) → Session (e ∷ h) p o (suc (length h)) → terminal_at P m p ≡ Some T → TerminalSide (e ∷ h) o T
    quiet_terminals p o T se at = terminal_carried o (carries_at o up) (carries_at o down) T (inv.terminals p o T (down.session p o se) at)

    pub quiet_sessions : (p o : ℕ) (S : SessionM) → Stands (e ∷ h) p o (suc (length h)) → get_or m.server.sessions p None ≡ Some S → ServerSide (e ∷ h) o S
    quiet_sessions p o S st at = server_carried o (carries_at o up) (carries_at o down) S (inv.sessions p o S (stood e h quiet p o st).0 at)

    pub quiet_both : (p o : ℕ) (T : TerminalM) (S : SessionM) → Stands (e ∷ h) p o (suc (length h)) → terminal_at P m p ≡ Some T → get_or m.server.sessions p None ≡ Some S → BothSides (e ∷ h) o T S
    quiet_both p o T S st at to = both_carried o (carries_at o up) (carries_at o down) T S (inv.both p o T S (stood e h quiet p o st).0 at to)

    pub quiet_places : ((p : ℕ) → EndsSession e p → ⊥) → (q : P.requests.State) (r : P.replies.State) → Places P (e ∷ h) inv.ids (with_channels m q r)
    quiet_places calm q r = record {
      eight_sessions = x.eight_sessions;
      eight_terminals = x.eight_terminals;
      boot_fits = x.boot_fits;
      count_fits = x.count_fits;
      counted = λ o p z. x.counted o p (down.opened o p z);
      apart = λ o u p s z w. x.apart o u p s (down.opened o p z) (down.opened u s w);
      newest = λ p o z. up.session p o (x.newest p o (stood e h quiet p o z).0);
      terminal_there = λ p o z. x.terminal_there p o (down.session p o z);
      terminal_known = λ p T z. (let w = x.terminal_known p T z in (w.0, up.session p w.0 w.1, w.2));
      session_there = λ p o z. x.session_there p o (stood e h quiet p o z).0;
      session_known = λ p S z. (let w = x.session_known p S z in (w.0, stands_still e h p w.0 w.1 (calm p), w.2));
    }
      where
        x : Places P h inv.ids m
        x = inv.places

    -- each waiting message waited before, or is fit to wait
    pub quiet_waiting : ((w : Told) (room : ℕ) (b : Bytes) → e.asked ≡ asked_hear w room → e.took ≡ Some b → (t : ℕ) × (o : ℕ) × (c : Call) × (f : Request) × Known h t o c f × (b ≡ c.request)) → (q : P.requests.State) (r : P.replies.State) (s : ServerM) → ((b : Bytes) → In b (P.requests.waits q) → In b (P.requests.waits m.requests) ⊎ ((t : ℕ) × (o : ℕ) × (c : Call) × (f : Request) × Known h t o c f × (b ≡ c.request))) → ((b : Bytes) → In b (P.replies.waits r) → In b (P.replies.waits m.replies) ⊎ ((t : ℕ) × (o : ℕ) × (c : Call) × (f : Request) × (r : Reply) × Known h t o c f × (b ≡ reply_message r) × Answers h o c f r)) → Waiting P (e ∷ h) (record { server = s; terminals = m.terminals; content = m.content; requests = q; replies = r })
    quiet_waiting takes q r s qs rs = waiting_on e h P m _ inv.waiting (λ t o c f z st. (stood e h quiet c.terminal o st).0) (λ b i. ⊎_elim inl (λ z. inr (z.0, z.1, z.2, z.3, up.known z.0 z.1 z.2 z.3 z.4, z.5)) (qs b i)) takes (λ b i. ⊎_elim inl (λ z. inr (z.0, z.1, z.2, z.3, z.4, up.known z.0 z.1 z.2 z.3 z.5, z.6, answers_carried z.1 z.2 z.3 z.4 (λ st. (stood e h quiet z.2.terminal z.1 st).0) (put_still e h z.1 z.2) (ran_still e h z.1 z.2) z.7)) (rs b i))

    -- the whole invariant, where only the channels change
    pub quiet_inv : ((p : ℕ) → EndsSession e p → ⊥) → ((w : Told) (room : ℕ) (b : Bytes) → e.asked ≡ asked_hear w room → e.took ≡ Some b → (t : ℕ) × (o : ℕ) × (c : Call) × (f : Request) × Known h t o c f × (b ≡ c.request)) → (q : P.requests.State) (r : P.replies.State) → ((b : Bytes) → In b (P.requests.waits q) → In b (P.requests.waits m.requests) ⊎ ((t : ℕ) × (o : ℕ) × (c : Call) × (f : Request) × Known h t o c f × (b ≡ c.request))) → ((b : Bytes) → In b (P.replies.waits r) → In b (P.replies.waits m.replies) ⊎ ((t : ℕ) × (o : ℕ) × (c : Call) × (f : Request) × (r : Reply) × Known h t o c f × (b ≡ reply_message r) × Answers h o c f r)) → Inv P first (e ∷ h) (with_channels m q r)
    quiet_inv calm takes q r qs rs = record {
      ids = inv.ids;
      calls = quiet_calls;
      places = quiet_places calm q r;
      terminals = quiet_terminals;
      sessions = quiet_sessions;
      both = quiet_both;
      waiting = quiet_waiting takes q r m.server qs rs;
      done = quiet_done q r m.server;
    }

-- an event that is refused closes no session
pub refused_calm : (a : Asked) (i j : ℕ) (b c : Option Bytes) (p : ℕ) → EndsSession (record { asked = a; answer = refused i j; put = b; took = c }) p → ⊥
refused_calm a i j b c p z = let x = z.1 in let w : ◌≡◌ {A = ℕ} 0 1 = cc in omega arith

-- nothing was taken
pub took_none : (b : Bytes) → ◌≡◌ {A = Option Bytes} None (Some b) → ⊥
took_none b y = let w : ◌≡◌ {A = ℕ} 0 1 = cc in omega arith

-- An event that is refused and took nothing is quiet.
pub refused_quiet : (h : History) (a : Asked) (i j : ℕ) (p : Option Bytes) → Quiet h (record { asked = a; answer = refused i j; put = p; took = None })
refused_quiet h a i j p = record {
  no_order = λ c z. (let x = z.0 in let w : ◌≡◌ {A = ℕ} 0 1 = cc in omega arith);
  no_open = λ q z. (let x = z.2 in let w : ◌≡◌ {A = ℕ} 0 1 = cc in omega arith);
  no_reply = λ c g z. (let x = z.2 in let w : ◌≡◌ {A = ℕ} 0 1 = cc in omega arith);
  no_resume = λ q s z. (let x = z.2 in let w : ◌≡◌ {A = ℕ} 0 1 = cc in omega arith);
  heard_again = λ t o c f w k z st. absurd (let x = z.2 in let w : ◌≡◌ {A = ℕ} 0 1 = cc in omega arith);
}

-- a resend, a retarget and a close order, open, hear, resume and take nothing
abbrev pub silent : Asked → Bool
silent (asked_open n) = false
silent (asked_order p k b room) = false
silent (asked_part p s room) = false
silent (asked_resend p s room) = true
silent (asked_hear w room) = false
silent (asked_resume p s room) = false
silent (asked_take room) = false
silent (asked_retarget p n) = true
silent (asked_close p) = true

-- so they are quiet
pub silent_quiet : (h : History) (a : Asked) (r : Answer) (b : Option Bytes) → silent a ≡ true → Quiet h (record { asked = a; answer = r; put = b; took = None })
silent_quiet h a r b s = record {
  no_order = λ c z. ⊎_elim (λ y. other _ refl y.1) (λ y. other _ refl y.1) z.2;
  no_open = λ q z. other _ refl z.1;
  no_reply = λ c g z. other _ refl z.1;
  no_resume = λ q i z. other _ refl z.1;
  heard_again = λ t o c f w k z st. absurd (other _ refl z.1);
}
  where
    other : (x : Asked) → silent x ≡ false → a ≡ x → ⊥
    other x f e = clash (sym f ∙ ap silent (sym e) ∙ s)

module _ (P : Parts) (first : P.service.Content) (h : History) where
  -- a call met with the outcome s keeps the invariant
  abbrev pub Good : Asked → Step P → Type 0
  Good a s = Inv P first (record { asked = a; answer = s.answer; put = s.put; took = s.took } ∷ h) s.after

  pub good_cond : (a : Asked) (b : Bool) (x y : Step P) → (b ≡ true → Good a x) → (b ≡ false → Good a y) → Good a (cond b x y)
  good_cond a b x y f g = cond_both b x y (Good a) f g

  pub good_found : {A : Type 0} (a : Asked) (x : Step P) (go : A → Step P) (o : Option A) → Good a x → ((y : A) → o ≡ Some y → Good a (go y)) → Good a (when_found x go o)
  good_found a x go o g f = found_both (Good a) x go o g f

  -- refused, with nothing altered
  pub good_refused : (a : Asked) (m : Model P) (r : Refusal) → Inv P first h m → Good a (refuse P m r)
  good_refused a m r inv = quiet_inv P first _ h m (refused_quiet h a (row_of r).number (row_of r).offset None) inv (refused_calm a (row_of r).number (row_of r).offset None None) (λ w room b x y. absurd (took_none b y)) m.requests m.replies (λ b i. inl i) (λ b i. inl i)
