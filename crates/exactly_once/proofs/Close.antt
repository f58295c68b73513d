-- Close keeps the invariant: the session at its place stands no more.
use Rattle.std.proofs.Common.{◌≡◌, ℕ, suc, ◌<◌, ◌≢◌, ◌∷◌, length, get_or, set, Some, None, Ok, Err, Option, sym, refl, ap, ◌∙◌, subst, inl}
use Rattle.std.proofs.lemmas.List.{get_or-set_same, get_or-set_other, length-set}
use Rattle.common.specs.Search.{when_found}
use Rattle.wire.specs.Wire.{no_terminal, not_standing}
use Rattle.server.specs.Server.{SessionM, session_of, with_session, close_session}
use Rattle.terminal.specs.Terminal.{TerminalM}
use Rattle.exactly_once.specs.History.{asked_close, ok, Event, History}
use Rattle.exactly_once.specs.Words.{Stands}
use Rattle.exactly_once.specs.Steps.{Parts, Model, terminal_at, with_server, server_by, close_step, act}
use Rattle.exactly_once.proofs.Tables.{some_none, within}
use Rattle.exactly_once.proofs.Newest.{EndsSession, stands_still}
use Rattle.exactly_once.proofs.Invariant.{Places, Inv}
use Rattle.exactly_once.proofs.Carry.{Carries, Quiet, quiet_up, quiet_down, stood}
use Rattle.exactly_once.proofs.Present.{placed, placed_is, is_there}
use Rattle.exactly_once.proofs.Quiet.{silent_quiet, quiet_calls, quiet_done, quiet_terminals, quiet_sessions, quiet_both, quiet_waiting, took_none, Good, good_found, good_refused}

module _ (P : Parts) (first : P.service.Content) (h : History) (m : Model P) (inv : Inv P first h m) (p : ℕ) where
  -- the server without the session at p
  ended : (o : ℕ) → (st : Stands h p o (length h)) → Inv P first (record { asked = asked_close p; answer = ok; put = None; took = None } ∷ h) (with_server P m (placed P first h m inv p None))
  ended o st = record {
    ids = inv.ids;
    calls = quiet_calls P first e h m quiet inv;
    places = places;
    terminals = quiet_terminals P first e h m quiet inv;
    sessions = λ q u S sd at. (let ne = apart q u sd in quiet_sessions P first e h m quiet inv q u S sd (sym (get_or-set_other m.server.sessions p q None None ne) ∙ at));
    both = λ q u T S sd at to. (let ne = apart q u sd in quiet_both P first e h m quiet inv q u T S sd at (sym (get_or-set_other m.server.sessions p q None None ne) ∙ to));
    waiting = quiet_waiting P first e h m quiet inv (λ w room b x y. absurd (took_none b y)) m.requests m.replies (placed P first h m inv p None) (λ b i. inl i) (λ b i. inl i);
    done = quiet_done P first e h m quiet inv m.requests m.replies (placed P first h m inv p None);
  }
    where
      e : Event
      e = record { asked = asked_close p; answer = ok; put = None; took = None }

      quiet : Quiet h e
      quiet = silent_quiet h (asked_close p) ok None refl

      up : Carries h (e ∷ h)
      up = quiet_up e h quiet

      down : Carries (e ∷ h) h
      down = quiet_down e h quiet

      apart : (q u : ℕ) → Stands (e ∷ h) q u (suc (length h)) → q ≢ p
      apart q u sd is = (stood e h quiet q u sd).1 (ap asked_close (sym is), refl)

      inside : p < length m.server.sessions
      inside = let w = inv.places.session_there p o st in within m.server.sessions p w.0 w.1

      elsewhere : (q : ℕ) (S : SessionM) → get_or (set m.server.sessions p None) q None ≡ Some S → q ≢ p
      elsewhere q S at is = some_none S (sym at ∙ ap (λ i. get_or (set m.server.sessions p None) i None) is ∙ get_or-set_same m.server.sessions p None None inside)

      calm : (q : ℕ) → q ≢ p → EndsSession e q → ⊥
      calm q ne z = ne (let x = z.0 in let w : p ≡ q = cc in sym w)

      places : Places P (e ∷ h) inv.ids (with_server P m (placed P first h m inv p None))
      places = record {
        eight_sessions = length-set m.server.sessions p None ∙ inv.places.eight_sessions;
        eight_terminals = inv.places.eight_terminals;
        boot_fits = inv.places.boot_fits;
        count_fits = inv.places.count_fits;
        counted = λ o q z. inv.places.counted o q (down.opened o q z);
        apart = λ o u q s z w. inv.places.apart o u q s (down.opened o q z) (down.opened u s w);
        newest = λ q u z. up.session q u (inv.places.newest q u (stood e h quiet q u z).0);
        terminal_there = λ q u z. inv.places.terminal_there q u (down.session q u z);
        terminal_known = λ q T z. (let w = inv.places.terminal_known q T z in (w.0, up.session q w.0 w.1, w.2));
        session_there = λ q u z. (let w = inv.places.session_there q u (stood e h quiet q u z).0 in (w.0, get_or-set_other m.server.sessions p q None None (apart q u z) ∙ w.1, w.2));
        session_known = λ q S z. (let ne = elsewhere q S z in let w = inv.places.session_known q S (sym (get_or-set_other m.server.sessions p q None None ne) ∙ z) in (w.0, stands_still e h q w.0 w.1 (calm q ne), w.2));
      }

  -- the record at p has a session, or not
  close_by : (T : TerminalM) → terminal_at P m p ≡ Some T → (o : Option SessionM) → session_of m.server T.id ≡ o → Good P first h (asked_close p) (server_by P m (when_found (Err not_standing) (λ s. Ok (with_session m.server T.id None)) o))
  close_by T at None e = good_refused P first h (asked_close p) m not_standing inv
  close_by T at (Some S) e =
      let w = inv.places.terminal_known p T at in
      let st = is_there P first h m inv p w.0 T w.1 w.2 S e in
      subst (λ y. Good P first h (asked_close p) (server_by P m (Ok y))) (sym (placed_is P first h m inv p w.0 st T.id None (sym w.2))) (ended w.0 st)

  pub close_keeps : Good P first h (asked_close p) (act P m (asked_close p))
  unfolding close_step close_session
  close_keeps = good_found P first h (asked_close p) _ _ (terminal_at P m p) (good_refused P first h (asked_close p) m no_terminal inv) (λ T at. close_by T at (session_of m.server T.id) refl)
