-- Retarget keeps the invariant: slots open, and all that they keep stays.
use Rattle.std.proofs.Common.{◌≡◌, ℕ, zero, suc, ◌+◌, ◌≤◌, Bool, true, false, cond, ltb, List, [], ◌∷◌, length, get_or, set, Some, None, Ok, Err, Option, sym, refl, ap, ◌∙◌, subst, inl, inr, arith}
use Rattle.std.proofs.lemmas.List.{get_or-set_same, get_or-set_other, length-set}
use Rattle.std.proofs.lemmas.Bool.{ltb-false}
use Rattle.common.specs.Search.{when_found}
use Rattle.wire.specs.Wire.{Request, no_terminal, not_standing, high_target, few_trays}
use Rattle.slots.specs.Slots.{front_changed}
use Rattle.server.specs.Server.{SessionM, SlotM, session_of, with_session, retarget_session, retarget_in, retargeted, with_open, slot_at, new_slot, is_working, free_trays, shut_up_to}
use Rattle.terminal.specs.Terminal.{TerminalM, EndM, end_at}
use Rattle.exactly_once.specs.History.{asked_retarget, ok, Event, History}
use Rattle.exactly_once.specs.Words.{Call, Session, Stands}
use Rattle.exactly_once.specs.Steps.{Parts, Model, terminal_at, with_server, server_by, retarget_step, act}
use Rattle.exactly_once.proofs.Tables.{some_same, within, front_inside, front_length}
use Rattle.exactly_once.proofs.Newest.{EndsSession}
use Rattle.exactly_once.proofs.Invariant.{ByLast, Holds, pend, Close, Ready, ServerSide, BothSides, Inv}
use Rattle.exactly_once.proofs.Carry.{terminal_carried, Carries, carries_at, Quiet, quiet_up, quiet_down, server_carried, both_carried}
use Rattle.exactly_once.proofs.Present.{Standing, standing, placed, placed_is, is_there}
use Rattle.exactly_once.proofs.Replaced.{replaced_inv}
use Rattle.exactly_once.proofs.Quiet.{silent_quiet, quiet_calls, quiet_done, quiet_waiting, took_none, Good, good_found, good_refused}

-- a slot that may have opened and keeps all else
pub record Like (x y : SlotM) : Type 0 where
  pub number : y.number ≡ x.number
  pub highest : y.highest ≡ x.highest
  pub keep : y.keep ≡ x.keep
  pub body : y.body ≡ x.body
  pub last : y.last ≡ x.last
  pub gains : x.is_open ≡ true → y.is_open ≡ true

like_front : (n : ℕ) (xs : List SlotM) (i : ℕ) → Like (get_or xs i new_slot) (get_or (front_changed (with_open true) n xs) i new_slot)
like_front zero xs i = record { number = refl; highest = refl; keep = refl; body = refl; last = refl; gains = λ e. e }
like_front (suc n) [] i = record { number = refl; highest = refl; keep = refl; body = refl; last = refl; gains = λ e. e }
like_front (suc n) (x ∷ xs) zero = record { number = refl; highest = refl; keep = refl; body = refl; last = refl; gains = λ e. refl }
like_front (suc n) (x ∷ xs) (suc i) = like_front n xs i

module _ (h : History) (o : ℕ) (S R : SessionM) (like : (s : ℕ) → Like (slot_at S s) (slot_at R s)) where
  holds_like : (c : Call) (f : Request) (s : ℕ) → Holds h o c f (slot_at S s) → Holds h o c f (slot_at R s)
  holds_like c f s x = record { highest = (like s).highest ∙ x.highest; keep = (like s).keep ∙ x.keep; body = (like s).body ∙ x.body; last = subst (λ l. ByLast h o c f l) (sym (like s).last) x.last }

  pub server_like : length R.slots ≡ 16 → R.target ≤ 15 → ((s : ℕ) → s ≤ R.target → (slot_at R s).is_open ≡ true) → ServerSide h o S → ServerSide h o R
  server_like len low opens x = record {
    sixteen = len;
    target = low;
    target_open = opens;
    heard_low = λ t c f z b. omega (arith, x.heard_low t c f z b, (like f.slot).number);
    low_heard = λ t c f z le. x.low_heard t c f z (omega (arith, le, (like f.slot).number));
    older_ran = λ t c f z lt. x.older_ran t c f z (omega (arith, lt, (like f.slot).number));
    last_holds = λ t c f z e. holds_like c f f.slot (x.last_holds t c f z (e ∙ (like f.slot).number));
    last_known = λ s le. (let w = x.last_known s (omega (arith, le, (like s).number)) in (w.0, w.1, w.2, w.3, w.4, w.5 ∙ sym (like s).number));
    unused = λ s e. (like s).last ∙ x.unused s (sym (like s).number ∙ e);
  }

  close_like : (e : EndM) (s : ℕ) → Close e (slot_at S s) → Close e (slot_at R s)
  close_like e s x =
      let n = (like s).number in
      let p : pend (slot_at R s) ≡ pend (slot_at S s) = ap (λ l. cond (is_working l) 1 0) (like s).last in
      record { low = omega (arith, x.low, n); near = omega (arith, x.near, n, p); free = λ i. omega (arith, x.free i, n, p) }

  ready_like : (e : EndM) (s : ℕ) → Ready s e (slot_at S s) → Ready s e (slot_at R s)
  ready_like e s (inl x) = inl ((like s).gains x)
  ready_like e s (inr x) = inr (record { call = x.call; is = x.is; part = x.part; level = x.level ∙ sym (like s).number; high = x.high; goal = x.goal; bytes = x.bytes; ran = (like s).last ∙ x.ran; below = x.below })

  pub both_like : (T : TerminalM) → BothSides h o T S → BothSides h o T R
  both_like T x = record {
    close = λ s. close_like (end_at T s) s (x.close s);
    usable_ready = λ s u. ready_like (end_at T s) s (x.usable_ready s u);
    fresh_ready = λ t c f k high goal b z e lv fr fg pu s le. ready_like (end_at T s) s (x.fresh_ready t c f k high goal b z e lv fr fg pu s le);
  }

module _ (P : Parts) (first : P.service.Content) (h : History) (m : Model P) (inv : Inv P first h m) (p : ℕ) where
  module _ (target : ℕ) (low : target ≤ 15) (o : ℕ) (st : Stands h p o (length h)) where
    abbrev e : Event
    e = record { asked = asked_retarget p target; answer = ok; put = None; took = None }

    quiet : Quiet h e
    quiet = silent_quiet h (asked_retarget p target) ok None refl

    calm : (q : ℕ) → EndsSession e q → ⊥
    calm q z = let x = z.0 in let w : ◌≡◌ {A = ℕ} 0 1 = cc in omega arith

    up : Carries h (e ∷ h)
    up = quiet_up e h quiet

    down : Carries (e ∷ h) h
    down = quiet_down e h quiet

    abbrev now : Standing P first h m inv p o
    now = standing P first h m inv p o st

    abbrev R : SessionM
    R = retargeted now.S target

    like : (s : ℕ) → Like (slot_at now.S s) (slot_at R s)
    like s = like_front (target + 1) now.S.slots s

    there : get_or (set m.server.sessions p (Some R)) p None ≡ Some R
    there = get_or-set_same m.server.sessions p (Some R) None (within m.server.sessions p now.S now.session)

    opens : (s : ℕ) → s ≤ target → (slot_at R s).is_open ≡ true
    opens s le = ap (λ (x : SlotM). x.is_open) (front_inside (with_open true) (target + 1) now.S.slots s new_slot (omega (arith, le)) (omega (arith, le, low, now.server_side.sixteen)))

    server_R : ServerSide h o R
    server_R = server_like h o now.S R like (front_length (with_open true) (target + 1) now.S.slots ∙ now.server_side.sixteen) low opens now.server_side

    both_R : BothSides h o now.T R
    both_R = both_like h o now.S R like now.T now.both_sides

    retarget_inv : Inv P first (e ∷ h) (with_server P m (placed P first h m inv p (Some R)))
    retarget_inv = replaced_inv P first h m inv e (with_server P m (placed P first h m inv p (Some R))) p o now.T (record {
      no_open = quiet.no_open;
      no_end = calm;
      newest = inv.places.newest p o st;
      boot = refl;
      count = refl;
      eight_sessions = length-set m.server.sessions p (Some R) ∙ inv.places.eight_sessions;
      eight_terminals = inv.places.eight_terminals;
      terminal_here = now.terminal;
      id = now.TId;
      session_here = λ sd. (R, there, now.SId);
      terminal_side = terminal_carried o (carries_at o up) (carries_at o down) now.T now.terminal_side;
      sides_here = λ S at. (let is : R ≡ S = some_same R S (sym there ∙ at) in subst (λ x. Stands h p o (length h) × (x.id ≡ inv.ids o) × ServerSide (e ∷ h) o x × BothSides (e ∷ h) o now.T x) is (st, now.SId, server_carried o (carries_at o up) (carries_at o down) R server_R, both_carried o (carries_at o up) (carries_at o down) now.T R both_R));
      terminals_away = λ q ne. refl;
      sessions_away = λ q ne. get_or-set_other m.server.sessions p q (Some R) None ne;
      up = λ q u op ne. carries_at u up;
      down = λ q u op ne. carries_at u down;
      calls = quiet_calls P first e h m quiet inv;
      waiting = quiet_waiting P first e h m quiet inv (λ w room b x y. absurd (took_none b y)) m.requests m.replies (placed P first h m inv p (Some R)) (λ b i. inl i) (λ b i. inl i);
      done = quiet_done P first e h m quiet inv m.requests m.replies (placed P first h m inv p (Some R));
    })

  module _ (target : ℕ) where
    retarget_by : (T : TerminalM) → terminal_at P m p ≡ Some T → (o : Option SessionM) → session_of m.server T.id ≡ o → Good P first h (asked_retarget p target) (server_by P m (when_found (Err not_standing) (retarget_in m.server T.id target) o))
    retarget_by T at None f = good_refused P first h (asked_retarget p target) m not_standing inv
    retarget_by T at (Some S) f = go (ltb 15 target) (ltb (free_trays m.server) (shut_up_to S target)) refl
      where
        w : (o : ℕ) × Session h p o (length h) × (T.id ≡ inv.ids o)
        w = inv.places.terminal_known p T at

        st : Stands h p w.0 (length h)
        st = is_there P first h m inv p w.0 T w.1 w.2 S f

        n : Standing P first h m inv p w.0
        n = standing P first h m inv p w.0 st

        TIs : n.T ≡ T
        TIs = some_same n.T T (sym n.terminal ∙ at)

        SIs : n.S ≡ S
        SIs = some_same n.S S (sym n.lookup ∙ ap (λ x. session_of m.server x.id) TIs ∙ f)

        done : target ≤ 15 → Good P first h (asked_retarget p target) (server_by P m (Ok (with_session m.server T.id (Some (retargeted S target)))))
        done low = subst (λ y. Good P first h (asked_retarget p target) (server_by P m (Ok y))) (sym (ap (λ x. with_session m.server T.id (Some (retargeted x target))) (sym SIs) ∙ placed_is P first h m inv p w.0 st T.id (Some (retargeted n.S target)) (sym w.2))) (retarget_inv target low w.0 st)

        go : (b c : Bool) → ltb 15 target ≡ b → Good P first h (asked_retarget p target) (server_by P m (cond b (Err high_target) (cond c (Err few_trays) (Ok (with_session m.server T.id (Some (retargeted S target)))))))
        go true c g = good_refused P first h (asked_retarget p target) m high_target inv
        go false true g = good_refused P first h (asked_retarget p target) m few_trays inv
        go false false g = done (ltb-false 15 target g)

    pub retarget_keeps : Good P first h (asked_retarget p target) (act P m (asked_retarget p target))
    unfolding retarget_step retarget_session
    retarget_keeps = good_found P first h (asked_retarget p target) _ _ (terminal_at P m p) (good_refused P first h (asked_retarget p target) m no_terminal inv) (λ T at. retarget_by T at (session_of m.server T.id) refl)
