-- Open keeps the invariant, and never gives the place of a standing session.
use Rattle.std.proofs.Common.{◌≡◌, ℕ, suc, ◌+◌, ◌^◌, ◌<◌, ◌≤◌, cond, eqb, ◌≢◌, ◌⊎◌, ◌∷◌, length, get_or, set, Some, None, Ok, sym, refl, ap, ◌∙◌, subst, inl, inr, ⊎_elim, arith}
use Rattle.std.proofs.lemmas.List.{get_or-set_same, get_or-set_other, length-set}
use Rattle.std.proofs.lemmas.Bool.{cases_eq, eq-eqb, ne_eqb}
use Rattle.common.specs.Search.{lowest_at}
use Rattle.wire.specs.Wire.{SessionId, Request}
use Rattle.server.specs.Server.{SessionM, new_id, new_session, is_vacant, opened_in}
use Rattle.terminal.specs.Terminal.{TerminalM, Effect, new_terminal}
use Rattle.exactly_once.specs.History.{Asked, asked_open, opened, Event, History}
use Rattle.exactly_once.specs.Words.{Call, Opened, Session, Stands}
use Rattle.exactly_once.specs.Steps.{Parts, Model, with_server, with_terminal, free_place, open_by, open_step, act, event_of}
use Rattle.exactly_once.proofs.Times.{at_below}
use Rattle.exactly_once.proofs.Tables.{some_same}
use Rattle.exactly_once.proofs.Unique.{Orders, opened_one}
use Rattle.exactly_once.proofs.Newest.{Opens, EndsSession, Replies, opened_new, stands_new, stands_now, stands_still, session_new, session_now, session_still, open_still, heard_still, ran_still}
use Rattle.exactly_once.proofs.Invariant.{Known, Calls, TerminalSide, ServerSide, BothSides, Places, Waiting, Done, Inv}
use Rattle.exactly_once.proofs.Carry.{CarriesAt, known_up, put_still, aside_still, terminal_carried, server_carried, both_carried}
use Rattle.exactly_once.proofs.Unchanged.{Idle, was_open, was_known, calls_on, was_heard, had_run, was_put, was_aside, waiting_on, done_idle}
use Rattle.exactly_once.proofs.Quiet.{took_none, Good, good_refused}
use Rattle.exactly_once.proofs.Vacant.{open_cases, vacant_fallen, vacant_tells, free_is}
use Rattle.exactly_once.proofs.Newborn.{terminal_born, server_born, both_born}

-- one more than a number of 64 bits that is not the last
next_fits : (n : ℕ) → n < 2 ^ 64 → (n ≡ 18446744073709551615 → ⊥) → n + 1 < 2 ^ 64
next_fits n lt ne = omega (arith, lt, ne)

module _ (P : Parts) (first : P.service.Content) (h : History) (m : Model P) (inv : Inv P first h m) (target : ℕ) (low : target ≤ 15) (p : ℕ) (within : p < length m.server.sessions) (vacant : get_or m.server.sessions p None ≡ None) (counts : m.server.count ≡ 18446744073709551615 → ⊥) where
  abbrev e : Event
  e = record { asked = asked_open target; answer = opened p; put = None; took = None }

  abbrev n : ℕ
  n = length h

  abbrev id : SessionId
  id = new_id m.server

  abbrev T : TerminalM
  T = new_terminal id target

  abbrev S : SessionM
  S = new_session id target

  abbrev after : Model P
  after = with_terminal P (with_server P m (opened_in m.server target p).after) p T

  -- what the event is and what it is not
  opens : Opens e p
  opens = (target, refl, refl)

  opens_here : (q : ℕ) → Opens e q → q ≡ p
  opens_here q z = let x = z.2 in let w : p ≡ q = cc in sym w

  no_order : (c : Call) → Orders e c → ⊥
  no_order c z = let x = z.0 in let w : ◌≡◌ {A = ℕ} 0 1 = cc in omega arith

  no_end : (q : ℕ) → EndsSession e q → ⊥
  no_end q z = let x = z.1 in let w : ◌≡◌ {A = ℕ} 0 1 = cc in omega arith

  no_reply : (c : Call) (g : Effect) → Replies e c g → ⊥
  no_reply c g z = let x = z.2 in let w : ◌≡◌ {A = ℕ} 0 1 = cc in omega arith

  idle : Idle e
  idle = record { no_hear = λ c w z. took_none c.request z.2; no_resume = λ q s z. (let x = z.2 in let w : ◌≡◌ {A = ℕ} 0 1 = cc in omega arith) }

  -- the ids, with that of the new session
  ids : ℕ → SessionId
  ids u = cond (eqb u n) id (inv.ids u)

  ids_new : (u : ℕ) → u ≡ n → ids u ≡ id
  unfolding ids
  ids_new u is = ap (λ b. cond b id (inv.ids u)) (eq-eqb u n is)

  ids_old : (u q : ℕ) → Opened h u q → ids u ≡ inv.ids u
  unfolding ids
  ids_old u q z = ap (λ b. cond b id (inv.ids u)) (ne_eqb u n (λ is. omega (arith, is, at_below h u z.0 z.2)))

  -- the session that stands after stood before, or is the new one
  stood_old : (q u : ℕ) → Opened h u q → Stands (e ∷ h) q u (suc n) → Stands h q u n
  stood_old q u op z = ⊎_elim (λ x. absurd (omega (arith, x.0, at_below h u op.0 op.2))) (λ x. x.0) (stands_new e h q u z)

  -- the calls of a session at another place
  module _ (q u : ℕ) (op : Opened h u q) (ne : q ≢ p) where
    elsewhere : (t : ℕ) (c : Call) (f : Request) → Known h t u c f → Opens e c.terminal → ⊥
    elsewhere t c f z w = ne (opened_one h u q c.terminal op z.session.0 ∙ opens_here c.terminal w)

    up : CarriesAt u h (e ∷ h)
    up = record {
      known = λ t c f. known_up e h t u c f;
      open_calls = λ t c f z x. open_still e h t c x (no_reply c) (elsewhere t c f z);
      heard = λ t c f z. heard_still e h u c;
      ran = λ t c f z. ran_still e h u c;
      put = λ t c f b z. put_still e h u c b;
      set_aside = λ t c f z x. aside_still e h u c x (idle.no_resume c.terminal c.slot);
    }

    down : CarriesAt u (e ∷ h) h
    down = record {
      known = λ t c f. was_known e h no_order t u c f;
      open_calls = λ t c f z x. (was_open e h t u c f (was_known e h no_order t u c f z) x).0;
      heard = λ t c f z. was_heard e h idle u c;
      ran = λ t c f z. had_run e h idle u c;
      put = λ t c f b z. was_put e h idle u c b;
      set_aside = λ t c f z. was_aside e h idle u c;
    }

  -- no call of the new session was ordered
  none_yet : (t : ℕ) (c : Call) (f : Request) → Known (e ∷ h) t n c f → ⊥
  none_yet t c f z = omega (arith, z.session.1, at_below (e ∷ h) t z.ordered.0 z.ordered.1)

  -- the two tables at p, and elsewhere
  in_terminals : p < length m.terminals
  in_terminals = omega (arith, within, inv.places.eight_sessions, inv.places.eight_terminals)

  terminal_here : get_or (set m.terminals p (Some T)) p None ≡ Some T
  terminal_here = get_or-set_same m.terminals p (Some T) None in_terminals

  session_here : get_or (set m.server.sessions p (Some S)) p None ≡ Some S
  session_here = get_or-set_same m.server.sessions p (Some S) None within

  terminal_away : (q : ℕ) → q ≢ p → get_or (set m.terminals p (Some T)) q None ≡ get_or m.terminals q None
  terminal_away q ne = get_or-set_other m.terminals p q (Some T) None ne

  session_away : (q : ℕ) → q ≢ p → get_or (set m.server.sessions p (Some S)) q None ≡ get_or m.server.sessions q None
  session_away q ne = get_or-set_other m.server.sessions p q (Some S) None ne

  terminal_is : (q : ℕ) (R : TerminalM) → q ≡ p → get_or (set m.terminals p (Some T)) q None ≡ Some R → T ≡ R
  terminal_is q R is to = some_same T R (sym terminal_here ∙ ap (λ j. get_or (set m.terminals p (Some T)) j None) (sym is) ∙ to)

  session_is : (q : ℕ) (R : SessionM) → q ≡ p → get_or (set m.server.sessions p (Some S)) q None ≡ Some R → S ≡ R
  session_is q R is to = some_same S R (sym session_here ∙ ap (λ j. get_or (set m.server.sessions p (Some S)) j None) (sym is) ∙ to)

  -- a session that stood is at another place
  stood_away : (q u : ℕ) → Stands h q u n → q ≢ p
  stood_away q u st is = vacant_fallen P first h m inv p u vacant (subst (λ x. Stands h x u n) is st)

  -- the newest session of a place: the new one, or one at another place
  newest_cases : (q u : ℕ) → Session (e ∷ h) q u (suc n) → ((u ≡ n) × (q ≡ p)) ⊎ (Session h q u n × (q ≢ p))
  newest_cases q u z = ⊎_elim (λ x. inl (x.0, opens_here q x.1)) (λ x. inr (x.0, λ is. x.1 (subst (λ y. Opens e y) (sym is) opens))) (session_new e h q u z)

  standing_cases : (q u : ℕ) → Stands (e ∷ h) q u (suc n) → ((u ≡ n) × (q ≡ p)) ⊎ (Stands h q u n × (q ≢ p))
  standing_cases q u z = ⊎_elim (λ x. inl (x.0, opens_here q x.1)) (λ x. inr (x.0, stood_away q u x.0)) (stands_new e h q u z)

  calls : Calls (e ∷ h) ids
  calls = calls_on e h no_order inv.ids ids ids_old inv.calls

  terminals : (q u : ℕ) (R : TerminalM) → Session (e ∷ h) q u (suc n) → get_or (set m.terminals p (Some T)) q None ≡ Some R → TerminalSide (e ∷ h) u R
  terminals q u R se to =
      ⊎_elim (λ x. subst (λ y. TerminalSide (e ∷ h) u y) (terminal_is q R x.1 to) (subst (λ y. TerminalSide (e ∷ h) y T) (sym x.0) (terminal_born id target low (e ∷ h) n none_yet))) (λ x. terminal_carried u (up q u x.0.0 x.1) (down q u x.0.0 x.1) R (inv.terminals q u R x.0 (sym (terminal_away q x.1) ∙ to))) (newest_cases q u se)

  sessions : (q u : ℕ) (R : SessionM) → Stands (e ∷ h) q u (suc n) → get_or (set m.server.sessions p (Some S)) q None ≡ Some R → ServerSide (e ∷ h) u R
  sessions q u R st to =
      ⊎_elim (λ x. subst (λ y. ServerSide (e ∷ h) u y) (session_is q R x.1 to) (subst (λ y. ServerSide (e ∷ h) y S) (sym x.0) (server_born id target low (e ∷ h) n none_yet))) (λ x. server_carried u (up q u x.0.0 x.1) (down q u x.0.0 x.1) R (inv.sessions q u R x.0 (sym (session_away q x.1) ∙ to))) (standing_cases q u st)

  both : (q u : ℕ) (X : TerminalM) (R : SessionM) → Stands (e ∷ h) q u (suc n) → get_or (set m.terminals p (Some T)) q None ≡ Some X → get_or (set m.server.sessions p (Some S)) q None ≡ Some R → BothSides (e ∷ h) u X R
  both q u X R st tx to = ⊎_elim new (λ x. both_carried u (up q u x.0.0 x.1) (down q u x.0.0 x.1) X R (inv.both q u X R x.0 (sym (terminal_away q x.1) ∙ tx) (sym (session_away q x.1) ∙ to))) (standing_cases q u st)
    where
      new : (u ≡ n) × (q ≡ p) → BothSides (e ∷ h) u X R
      new x = subst (λ y. BothSides (e ∷ h) u y R) (terminal_is q X x.1 tx) (subst (λ y. BothSides (e ∷ h) u T y) (session_is q R x.1 to) (subst (λ y. BothSides (e ∷ h) y T S) (sym x.0) (both_born id target low (e ∷ h) n none_yet)))

  places : Places P (e ∷ h) ids after
  places = record {
    eight_sessions = length-set m.server.sessions p (Some S) ∙ inv.places.eight_sessions;
    eight_terminals = length-set m.terminals p (Some T) ∙ inv.places.eight_terminals;
    boot_fits = inv.places.boot_fits;
    count_fits = next_fits m.server.count inv.places.count_fits counts;
    counted = λ u q z. counted u (opened_new e h u q z);
    apart = λ u v q r z w. apart u v (opened_new e h u q z) (opened_new e h v r w);
    newest = λ q u z. ⊎_elim (λ x. here_session q u x) (λ x. session_still e h q u (inv.places.newest q u x.0) (λ w. x.1 (opens_here q w))) (standing_cases q u z);
    terminal_there = λ q u z. ⊎_elim (λ x. (T, ap (λ j. get_or (set m.terminals p (Some T)) j None) x.1 ∙ terminal_here, sym (ids_new u x.0))) (λ x. (let w = inv.places.terminal_there q u x.0 in (w.0, terminal_away q x.1 ∙ w.1, w.2 ∙ sym (ids_old u q x.0.0)))) (newest_cases q u z);
    terminal_known = terminal_known;
    session_there = λ q u z. ⊎_elim (λ x. (S, ap (λ j. get_or (set m.server.sessions p (Some S)) j None) x.1 ∙ session_here, sym (ids_new u x.0))) (λ x. (let w = inv.places.session_there q u x.0 in (w.0, session_away q x.1 ∙ w.1, w.2 ∙ sym (ids_old u q x.0.0)))) (standing_cases q u z);
    session_known = session_known;
  }
    where
      here_session : (q u : ℕ) → (u ≡ n) × (q ≡ p) → Session (e ∷ h) q u (suc n)
      here_session q u x = subst (λ y. Session (e ∷ h) y u (suc n)) (sym x.1) (subst (λ y. Session (e ∷ h) p y (suc n)) (sym x.0) (session_now e h p opens))

      counted : {q : ℕ} (u : ℕ) → ((u ≡ n) × Opens e q) ⊎ ((u < n) × Opened h u q) → ((ids u).boot ≡ m.server.boot) × ((ids u).count < m.server.count + 1)
      counted u (inl x) = (ap (λ y. y.boot) (ids_new u x.0), omega (arith, ap (λ y. y.count) (ids_new u x.0)))
      counted {q} u (inr x) =
          let w = inv.places.counted u q x.1 in
          let is = ids_old u q x.1 in
          (ap (λ y. y.boot) is ∙ w.0, omega (arith, w.1, ap (λ y. y.count) is))

      -- the new id is later than each older one
      later : (u v q : ℕ) → u ≡ n → Opened h v q → ids u ≡ ids v → ⊥
      later u v q is z same = omega (arith, (inv.places.counted v q z).1, ap (λ y. y.count) (sym (ids_new u is) ∙ same ∙ ids_old v q z))

      apart : {q r : ℕ} (u v : ℕ) → ((u ≡ n) × Opens e q) ⊎ ((u < n) × Opened h u q) → ((v ≡ n) × Opens e r) ⊎ ((v < n) × Opened h v r) → ids u ≡ ids v → u ≡ v
      apart u v (inl x) (inl y) same = x.0 ∙ sym y.0
      apart {q} {r} u v (inl x) (inr y) same = absurd (later u v r x.0 y.1 same)
      apart {q} {r} u v (inr x) (inl y) same = absurd (later v u q y.0 x.1 (sym same))
      apart {q} {r} u v (inr x) (inr y) same = inv.places.apart u v q r x.1 y.1 (sym (ids_old u q x.1) ∙ same ∙ ids_old v r y.1)

      terminal_known : (q : ℕ) (R : TerminalM) → get_or (set m.terminals p (Some T)) q None ≡ Some R → (u : ℕ) × Session (e ∷ h) q u (suc n) × (R.id ≡ ids u)
      terminal_known q R to = ⊎_elim (λ is. (n, here_session q n (refl, is), ap (λ x. x.id) (sym (terminal_is q R is to)) ∙ sym (ids_new n refl))) (λ ne. (let w = inv.places.terminal_known q R (sym (terminal_away q ne) ∙ to) in (w.0, session_still e h q w.0 w.1 (λ z. ne (opens_here q z)), w.2 ∙ sym (ids_old w.0 q w.1.0)))) (cases_eq q p)

      session_known : (q : ℕ) (R : SessionM) → get_or (set m.server.sessions p (Some S)) q None ≡ Some R → (u : ℕ) × Stands (e ∷ h) q u (suc n) × (R.id ≡ ids u)
      session_known q R to = ⊎_elim (λ is. (n, subst (λ y. Stands (e ∷ h) y n (suc n)) (sym is) (stands_now e h p opens), ap (λ x. x.id) (sym (session_is q R is to)) ∙ sym (ids_new n refl))) (λ ne. (let w = inv.places.session_known q R (sym (session_away q ne) ∙ to) in (w.0, stands_still e h q w.0 w.1 (no_end q), w.2 ∙ sym (ids_old w.0 q w.1.0)))) (cases_eq q p)

  waiting : Waiting P (e ∷ h) after
  waiting = waiting_on e h P m after inv.waiting (λ t u c f z. stood_old c.terminal u z.session.0) (λ b j. inl j) (λ w room b x y. absurd (took_none b y)) (λ b j. inl j)

  done : Done P first (e ∷ h) after
  done = done_idle e h P idle (λ c u z r. no_order c z) first m after refl inv.done

  -- a session is opened at the vacant place p
  pub opened_inv : Inv P first (record { asked = asked_open target; answer = opened p; put = None; took = None } ∷ h) (with_terminal P (with_server P m (opened_in m.server target p).after) p (new_terminal (new_id m.server) target))
  opened_inv = record { ids = ids; calls = calls; places = places; terminals = terminals; sessions = sessions; both = both; waiting = waiting; done = done }

module _ (P : Parts) (first : P.service.Content) (h : History) (m : Model P) (inv : Inv P first h m) where
  -- open
  pub open_keeps : (target : ℕ) → Good P first h (asked_open target) (act P m (asked_open target))
  unfolding open_step
  open_keeps target = open_cases m.server target (λ r. Good P first h (asked_open target) (open_by P m target r)) (λ r. good_refused P first h (asked_open target) m r inv) accepted
    where
      accepted : (p : ℕ) → target ≤ 15 → lowest_at is_vacant m.server.sessions 0 ≡ Some p → (m.server.count ≡ 18446744073709551615 → ⊥) → Good P first h (asked_open target) (open_by P m target (Ok (opened_in m.server target p)))
      accepted p low e counts =
          let v = vacant_tells m.server.sessions p e in
          subst (λ q. Inv P first (record { asked = asked_open target; answer = opened q; put = None; took = None } ∷ h) (with_terminal P (with_server P m (opened_in m.server target p).after) q (new_terminal (new_id m.server) target))) (sym (free_is P first h m inv p e)) (opened_inv P first h m inv target low p v.0 v.1 counts)

  -- an open never gives the place of a standing session
  pub open_stays : (target p o : ℕ) → Stands h p o (length h) → (act P m (asked_open target)).answer ≡ opened p → ⊥
  unfolding open_step
  open_stays target p o st = open_cases m.server target (λ r. (open_by P m target r).answer ≡ opened p → ⊥) (λ r x. (let w : ◌≡◌ {A = ℕ} 0 1 = cc in omega arith)) given
    where
      given : (q : ℕ) → target ≤ 15 → lowest_at is_vacant m.server.sessions 0 ≡ Some q → (m.server.count ≡ 18446744073709551615 → ⊥) → opened (free_place P m) ≡ opened p → ⊥
      given q low e counts x =
          let is : free_place P m ≡ p = cc in
          let v = vacant_tells m.server.sessions q e in
          vacant_fallen P first h m inv p o (subst (λ y. get_or m.server.sessions y None ≡ None) (sym (free_is P first h m inv q e) ∙ is) v.1) st

  -- so no call at all replaces the record of a standing session
  pub place_stays : (a : Asked) (p o : ℕ) → Stands h p o (length h) → Opened (event_of P m a ∷ h) (length h) p → ⊥
  place_stays a p o st z = ⊎_elim (λ x. opens x.1.0 x.1.1 x.1.2) (λ x. omega (arith, x.0)) (opened_new (event_of P m a) h (length h) p z)
    where
      opens : (k : ℕ) → a ≡ asked_open k → (act P m a).answer ≡ opened p → ⊥
      opens k is e = open_stays k p o st (subst (λ x. (act P m x).answer ≡ opened p) is e)
