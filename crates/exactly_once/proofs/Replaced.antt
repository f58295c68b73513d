-- The records of one session are replaced at its place, at either end: the invariant, given what is so of that session, of the calls, of what waits and of what has run.
use Rattle.std.proofs.Common.{◌≡◌, ℕ, suc, ◌^◌, ◌<◌, ◌≢◌, ◌∷◌, length, get_or, Some, None, sym, ap, ◌∙◌, subst, ⊎_elim}
use Rattle.std.proofs.lemmas.Bool.{cases_eq}
use Rattle.server.specs.Server.{SessionM}
use Rattle.terminal.specs.Terminal.{TerminalM}
use Rattle.exactly_once.specs.History.{Event, History}
use Rattle.exactly_once.specs.Words.{Opened, Stands, Session}
use Rattle.exactly_once.specs.Steps.{Parts, Model, terminal_at}
use Rattle.exactly_once.proofs.Tables.{some_same}
use Rattle.exactly_once.proofs.Unique.{session_one, opened_one}
use Rattle.exactly_once.proofs.Newest.{Opens, EndsSession, stands_still, session_still}
use Rattle.exactly_once.proofs.Invariant.{Calls, TerminalSide, ServerSide, BothSides, Places, Waiting, Done, Inv}
use Rattle.exactly_once.proofs.Carry.{CarriesAt, terminal_carried, server_carried, both_carried}
use Rattle.exactly_once.proofs.Unchanged.{stood, was_newest, was_opened}

-- a session at another place is another one
pub elsewhere : (h : History) (o p u q : ℕ) → Opened h o p → Opened h u q → q ≢ p → u ≢ o
elsewhere h o p u q a b ne es = ne (opened_one h o q p (subst (λ x. Opened h x q) es b) a)

module _ (P : Parts) (first : P.service.Content) (h : History) (m : Model P) (inv : Inv P first h m) where
  -- the session that the server has at the place of the newest session o is o
  pub record ServerHas (p o : ℕ) (T : TerminalM) (S : SessionM) : Type 0 where
    pub stands : Stands h p o (length h)
    pub id : S.id ≡ inv.ids o
    pub server_side : ServerSide h o S
    pub both_sides : BothSides h o T S

  pub server_has : (p o : ℕ) (T : TerminalM) (S : SessionM) → Session h p o (length h) → terminal_at P m p ≡ Some T → get_or m.server.sessions p None ≡ Some S → ServerHas p o T S
  server_has p o T S new at to =
      let w = inv.places.session_known p S to in
      let es : w.0 ≡ o = session_one h p w.0 o (length h) (inv.places.newest p w.0 w.1) new in
      let st : Stands h p o (length h) = subst (λ x. Stands h p x (length h)) es w.1 in
      record { stands = st; id = w.2 ∙ ap inv.ids es; server_side = inv.sessions p o S st to; both_sides = inv.both p o T S st at to }

  -- the house n, after the event e, where the newest session o at place p has the record T
  pub record Replaced (e : Event) (n : Model P) (p o : ℕ) (T : TerminalM) : Type 0 where
    pub no_open : (q : ℕ) → Opens e q → ⊥
    pub no_end : (q : ℕ) → EndsSession e q → ⊥
    pub newest : Session h p o (length h)
    pub boot : n.server.boot ≡ m.server.boot
    pub count : n.server.count ≡ m.server.count
    pub eight_sessions : length n.server.sessions ≡ 8
    pub eight_terminals : length n.terminals ≡ 8
    -- at p
    pub terminal_here : terminal_at P n p ≡ Some T
    pub id : T.id ≡ inv.ids o
    pub session_here : Stands h p o (length h) → (S : SessionM) × (get_or n.server.sessions p None ≡ Some S) × (S.id ≡ inv.ids o)
    pub terminal_side : TerminalSide (e ∷ h) o T
    pub sides_here : (S : SessionM) → get_or n.server.sessions p None ≡ Some S → Stands h p o (length h) × (S.id ≡ inv.ids o) × ServerSide (e ∷ h) o S × BothSides (e ∷ h) o T S
    -- elsewhere
    pub terminals_away : (q : ℕ) → q ≢ p → terminal_at P n q ≡ terminal_at P m q
    pub sessions_away : (q : ℕ) → q ≢ p → get_or n.server.sessions q None ≡ get_or m.server.sessions q None
    pub up : (q u : ℕ) → Opened h u q → q ≢ p → CarriesAt u h (e ∷ h)
    pub down : (q u : ℕ) → Opened h u q → q ≢ p → CarriesAt u (e ∷ h) h
    -- the rest
    pub calls : Calls (e ∷ h) inv.ids
    pub waiting : Waiting P (e ∷ h) n
    pub done : Done P first (e ∷ h) n

  module _ (e : Event) (n : Model P) (p o : ℕ) (T : TerminalM) (R : Replaced e n p o T) where
    was : (q u : ℕ) → Session (e ∷ h) q u (suc (length h)) → Session h q u (length h)
    was = was_newest e h R.no_open

    before : (q u : ℕ) → Stands (e ∷ h) q u (suc (length h)) → Stands h q u (length h)
    before = stood e h R.no_open

    this : (q u : ℕ) → Session h q u (length h) → q ≡ p → u ≡ o
    this q u se is = session_one h p u o (length h) (subst (λ x. Session h x u (length h)) is se) R.newest

    this_stands : (q u : ℕ) → Stands h q u (length h) → q ≡ p → u ≡ o
    this_stands q u st is = this q u (inv.places.newest q u st) is

    is_T : (q : ℕ) (X : TerminalM) → q ≡ p → terminal_at P n q ≡ Some X → T ≡ X
    is_T q X is to = some_same T X (sym R.terminal_here ∙ ap (terminal_at P n) (sym is) ∙ to)

    at_p : (q : ℕ) (S : SessionM) → q ≡ p → get_or n.server.sessions q None ≡ Some S → get_or n.server.sessions p None ≡ Some S
    at_p q S is to = ap (λ j. get_or n.server.sessions j None) (sym is) ∙ to

    terminals : (q u : ℕ) (X : TerminalM) → Session (e ∷ h) q u (suc (length h)) → terminal_at P n q ≡ Some X → TerminalSide (e ∷ h) u X
    terminals q u X se to = ⊎_elim same differ (cases_eq q p)
      where
        same : q ≡ p → TerminalSide (e ∷ h) u X
        same is = subst (λ x. TerminalSide (e ∷ h) u x) (is_T q X is to) (subst (λ x. TerminalSide (e ∷ h) x T) (sym (this q u (was q u se) is)) R.terminal_side)

        differ : q ≢ p → TerminalSide (e ∷ h) u X
        differ ne = terminal_carried u (R.up q u (was q u se).0 ne) (R.down q u (was q u se).0 ne) X (inv.terminals q u X (was q u se) (sym (R.terminals_away q ne) ∙ to))

    sessions : (q u : ℕ) (S : SessionM) → Stands (e ∷ h) q u (suc (length h)) → get_or n.server.sessions q None ≡ Some S → ServerSide (e ∷ h) u S
    sessions q u S st to = ⊎_elim same differ (cases_eq q p)
      where
        same : q ≡ p → ServerSide (e ∷ h) u S
        same is = subst (λ x. ServerSide (e ∷ h) x S) (sym (this_stands q u (before q u st) is)) (R.sides_here S (at_p q S is to)).2

        differ : q ≢ p → ServerSide (e ∷ h) u S
        differ ne = server_carried u (R.up q u (before q u st).0 ne) (R.down q u (before q u st).0 ne) S (inv.sessions q u S (before q u st) (sym (R.sessions_away q ne) ∙ to))

    both : (q u : ℕ) (X : TerminalM) (S : SessionM) → Stands (e ∷ h) q u (suc (length h)) → terminal_at P n q ≡ Some X → get_or n.server.sessions q None ≡ Some S → BothSides (e ∷ h) u X S
    both q u X S st tx to = ⊎_elim same differ (cases_eq q p)
      where
        same : q ≡ p → BothSides (e ∷ h) u X S
        same is = subst (λ x. BothSides (e ∷ h) u x S) (is_T q X is tx) (subst (λ x. BothSides (e ∷ h) x T S) (sym (this_stands q u (before q u st) is)) (R.sides_here S (at_p q S is to)).3)

        differ : q ≢ p → BothSides (e ∷ h) u X S
        differ ne = both_carried u (R.up q u (before q u st).0 ne) (R.down q u (before q u st).0 ne) X S (inv.both q u X S (before q u st) (sym (R.terminals_away q ne) ∙ tx) (sym (R.sessions_away q ne) ∙ to))

    places : Places P (e ∷ h) inv.ids n
    places = record {
      eight_sessions = R.eight_sessions;
      eight_terminals = R.eight_terminals;
      boot_fits = subst (λ x. x < 2 ^ 64) (sym R.boot) inv.places.boot_fits;
      count_fits = subst (λ x. x < 2 ^ 64) (sym R.count) inv.places.count_fits;
      counted = λ u q z. (let w = inv.places.counted u q (was_opened e h R.no_open u q z) in (w.0 ∙ sym R.boot, subst (λ x. (inv.ids u).count < x) (sym R.count) w.1));
      apart = λ u v q r z w. inv.places.apart u v q r (was_opened e h R.no_open u q z) (was_opened e h R.no_open v r w);
      newest = λ q u z. session_still e h q u (inv.places.newest q u (before q u z)) (R.no_open q);
      terminal_there = λ q u z. terminal_there q u (was q u z);
      terminal_known = terminal_known;
      session_there = λ q u z. session_there q u (before q u z);
      session_known = session_known;
    }
      where
        terminal_there : (q u : ℕ) → Session h q u (length h) → (X : TerminalM) × (terminal_at P n q ≡ Some X) × (X.id ≡ inv.ids u)
        terminal_there q u se = ⊎_elim (λ is. (T, ap (terminal_at P n) is ∙ R.terminal_here, R.id ∙ ap inv.ids (sym (this q u se is)))) (λ ne. (let w = inv.places.terminal_there q u se in (w.0, R.terminals_away q ne ∙ w.1, w.2))) (cases_eq q p)

        terminal_known : (q : ℕ) (X : TerminalM) → terminal_at P n q ≡ Some X → (u : ℕ) × Session (e ∷ h) q u (suc (length h)) × (X.id ≡ inv.ids u)
        terminal_known q X to = ⊎_elim (λ is. (o, session_still e h q o (subst (λ x. Session h x o (length h)) (sym is) R.newest) (R.no_open q), ap (λ x. x.id) (sym (is_T q X is to)) ∙ R.id)) (λ ne. (let w = inv.places.terminal_known q X (sym (R.terminals_away q ne) ∙ to) in (w.0, session_still e h q w.0 w.1 (R.no_open q), w.2))) (cases_eq q p)

        session_there : (q u : ℕ) → Stands h q u (length h) → (S : SessionM) × (get_or n.server.sessions q None ≡ Some S) × (S.id ≡ inv.ids u)
        session_there q u st = ⊎_elim same (λ ne. (let w = inv.places.session_there q u st in (w.0, R.sessions_away q ne ∙ w.1, w.2))) (cases_eq q p)
          where
            same : q ≡ p → (S : SessionM) × (get_or n.server.sessions q None ≡ Some S) × (S.id ≡ inv.ids u)
            same is =
                let es : u ≡ o = this_stands q u st is in
                let w = R.session_here (subst (λ x. Stands h x o (length h)) is (subst (λ x. Stands h q x (length h)) es st)) in
                (w.0, ap (λ j. get_or n.server.sessions j None) is ∙ w.1, w.2 ∙ ap inv.ids (sym es))

        session_known : (q : ℕ) (S : SessionM) → get_or n.server.sessions q None ≡ Some S → (u : ℕ) × Stands (e ∷ h) q u (suc (length h)) × (S.id ≡ inv.ids u)
        session_known q S to = ⊎_elim (λ is. (let w = R.sides_here S (at_p q S is to) in (o, stands_still e h q o (subst (λ x. Stands h x o (length h)) (sym is) w.0) (R.no_end q), w.1))) (λ ne. (let w = inv.places.session_known q S (sym (R.sessions_away q ne) ∙ to) in (w.0, stands_still e h q w.0 w.1 (R.no_end q), w.2))) (cases_eq q p)

    pub replaced_inv : Inv P first (e ∷ h) n
    replaced_inv = record { ids = inv.ids; calls = R.calls; places = places; terminals = terminals; sessions = sessions; both = both; waiting = R.waiting; done = R.done }
