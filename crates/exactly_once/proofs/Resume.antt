-- Resume keeps the invariant.
use Rattle.std.proofs.Common.{◌≡◌, ℕ, ◌<◌, ◌≤◌, Bool, true, false, cond, leb, ◌∷◌, length, set, Some, None, Ok, Err, Option, sym, refl, ap, ◌∙◌, subst, inl, inr, ⊎_elim, arith}
use borrow.Author.Tests.{clash}
use Rattle.std.proofs.lemmas.Bool.{and_parts, leb-true, cases_eq, cases_lt}
use Rattle.common.specs.Bytes.{Bytes}
use Rattle.wire.specs.Wire.{SessionId, Request, short_scratch, no_terminal, not_standing, no_work, reply_message}
use Rattle.common.specs.Search.{when_found}
use Rattle.server.specs.Server.{ServerM, SessionM, SlotM, Last, never, in_progress, kept, not_kept, is_working, slot_at, with_slot, with_session, session_of, works_at, run_highest, finished, run_bytes, run_content, run_slot, resume_work, outcome_reply}
use Rattle.terminal.specs.Terminal.{TerminalM, OpenCall, end_at}
use Rattle.exactly_once.specs.History.{Told, run, aside, asked_resume, ok, Event, History}
use Rattle.exactly_once.specs.Words.{Call, Session, Stands, FirstHeard, Ran, RanBefore}
use Rattle.exactly_once.specs.Steps.{Parts, Model, terminal_at, resume_by, resume_step, is_short, act}
use Rattle.exactly_once.specs.Lived.{PartsLaws}
use Rattle.exactly_once.proofs.Times.{at_below}
use Rattle.exactly_once.proofs.Tables.{some_same}
use Rattle.exactly_once.proofs.Unique.{session_one, opened_one, first_heard_one, heard_one}
use Rattle.exactly_once.proofs.Newest.{Hears, Resumes, Runs, heard_still}
use Rattle.exactly_once.proofs.Invariant.{Known, Aside, result, Holds, ByLast, pend, Inv}
use Rattle.exactly_once.proofs.Present.{placed_is, call_cases, Standing, standing, is_there, same_call}
use Rattle.exactly_once.proofs.Quiet.{took_none, Good, good_cond, good_found, good_refused}
use Rattle.exactly_once.proofs.Resend.{held}
use Rattle.exactly_once.proofs.Running.{Running, running_inv}

-- work set aside has not run
pub aside_unran : (h : History) (o : ℕ) (c : Call) → Aside h o c → RanBefore h o c (length h) → ⊥
aside_unran h o c x r = go r.2
  where
    go : Ran h o c r.0 → ⊥
    go (inl a) =
        let same : r.0 ≡ x.0 = first_heard_one h o c r.0 x.0 run aside a x.1 in
        let told : run ≡ aside = heard_one h o o c c x.0 run aside (subst (λ y. FirstHeard h o c y run) same a).0 x.1.0 in
        let w : ◌≡◌ {A = ℕ} 0 1 = cc in
        omega arith
    go (inr a) =
        let same : a.0 ≡ x.0 = first_heard_one h o c a.0 x.0 aside aside a.1 x.1 in
        x.2 r.0 (omega (arith, same, a.2)) r.1 a.3

working_is : (l : Last) → is_working l ≡ true → l ≡ in_progress
working_is never e = absurd (clash e)
working_is in_progress e = refl
working_is (kept a b c) e = absurd (clash e)
working_is not_kept e = absurd (clash e)

module _ (P : Parts) (laws : PartsLaws P) (first : P.service.Content) (h : History) (m : Model P) (inv : Inv P first h m) (room : ℕ) where
  module _ (t o : ℕ) (c : Call) (f : Request) (z : Known h t o c f) (st : Stands h c.terminal o (length h)) where
    abbrev here : Standing P first h m inv c.terminal o
    here = standing P first h m inv c.terminal o st

    abbrev X : SlotM
    X = slot_at here.S f.slot

    module _ (eq : f.number ≡ X.number) (prog : X.last ≡ in_progress) where
      abbrev bytes : Bytes
      bytes = run_bytes P.service m.content X

      abbrev e : Event
      e = record { asked = asked_resume c.terminal f.slot room; answer = ok; put = Some (reply_message (result f (run_highest here.S f.slot) here.S.target bytes)); took = None }

      holds : Holds h o c f X
      holds = here.server_side.last_holds t c f z eq

      was_aside : Aside h o c
      was_aside = (subst (λ l. ByLast h o c f l) prog holds.last).0

      one : pend X ≡ 1
      one = ap (λ l. cond (is_working l) 1 0) prog

      level : f.number ≡ (end_at here.T f.slot).number
      level = let cl = here.both_sides.close f.slot in omega (arith, cl.low, cl.near, one, eq)

      busy : (k : OpenCall) × ((end_at here.T f.slot).call ≡ Some k)
      busy = ⊎_elim (λ x. absurd (omega (arith, (here.both_sides.close f.slot).free x, one, eq, level))) (λ x. x) (call_cases (end_at here.T f.slot))

      held_highest : busy.0.highest ≡ f.highest
      held_highest =
          let v = held P first h m inv c.terminal o here.T (inv.places.newest c.terminal o st) here.terminal here.TId f.slot busy.0 busy.1 in
          let fs : v.fields ≡ f = (same_call P first h m inv v.time t o o v.call c v.fields f v.known z (inv.calls.named v.time o v.call v.fields v.known ∙ sym (inv.calls.named t o c f z)) (ap (λ x. x.slot) v.is) (ap (λ x. x.number) v.is ∙ sym level)).3 in
          ap (λ x. x.highest) (sym v.is ∙ fs)

      no_hear : (d : Call) (w : Told) → Hears e d w → ⊥
      no_hear d w y = took_none d.request y.2

      only_resumes : (q s : ℕ) → Resumes e q s → (q ≡ c.terminal) × (s ≡ f.slot)
      only_resumes q s y =
          let x = y.1 in
          let a : c.terminal ≡ q = cc in
          let b : f.slot ≡ s = cc in
          (sym a, sym b)

      only_runs : (u v : ℕ) (d : Call) (k : Request) → Known h u v d k → Runs h e v d → u ≡ t
      only_runs u v d k y r = ⊎_elim (λ x. absurd (no_hear d run x.0)) (λ x. at_slot (only_resumes d.terminal d.slot x.2) (x.0, x.1, x.3)) r.1
        where
          at_slot : (d.terminal ≡ c.terminal) × (d.slot ≡ f.slot) → Aside h v d → u ≡ t
          at_slot q a =
              let vs : v ≡ o = session_one h c.terminal v o (length h) (subst (λ x. Session h x v (length h)) q.0 (inv.places.newest d.terminal v r.0)) (inv.places.newest c.terminal o st) in
              let y2 : Known h u o d k = subst (λ x. Known h u x d k) vs y in
              let a2 : Aside h o d = subst (λ x. Aside h x d) vs a in
              let es : k.slot ≡ f.slot = y.slot ∙ q.1 in
              let low : k.number ≤ X.number = subst (λ s. k.number ≤ (slot_at here.S s).number) es (here.server_side.heard_low u d k y2 (a2.0, aside, at_below h a2.0 a2.1.0.0 a2.1.0.2, a2.1.0)) in
              ⊎_elim (λ lt. absurd (aside_unran h o d a2 (here.server_side.older_ran u d k y2 (subst (λ s. k.number < (slot_at here.S s).number) (sym es) lt)))) (λ le. inv.calls.once u t o d c k f y2 z es (omega (arith, le, low, eq))) (cases_lt k.number X.number)

      running : Running P laws first h m inv e t o c f z st here.S
      running = record {
        length16 = here.server_side.sixteen;
        goal = refl;
        number = sym eq;
        highest = holds.highest;
        keep = holds.keep;
        body = holds.body;
        is_open = ⊎_elim (λ x. x) (λ x. absurd (let a = x.ran in let w : ◌≡◌ {A = ℕ} 0 1 = cc in omega arith)) (here.both_sides.usable_ready f.slot (here.terminal_side.held_usable f.slot busy.0 busy.1));
        no_order = λ d y. (let x = y.0 in let v : ◌≡◌ {A = ℕ} 0 1 = cc in omega arith);
        no_open = λ q y. (let x = y.1 in let v : ◌≡◌ {A = ℕ} 0 1 = cc in omega arith);
        no_end = λ q y. (let x = y.0 in let v : ◌≡◌ {A = ℕ} 0 1 = cc in omega arith);
        no_reply = λ d k y. (let x = y.1 in let v : ◌≡◌ {A = ℕ} 0 1 = cc in omega arith);
        only_hears = λ u v d k b y x. absurd (no_hear d b x);
        only_resumes = only_resumes;
        only_runs = only_runs;
        level = level;
        grows = omega (arith, eq);
        next = omega (arith, eq);
        below_ran = λ u d k y es lt. here.server_side.older_ran u d k y (subst (λ s. k.number < (slot_at here.S s).number) (sym es) (omega (arith, lt, eq)));
        heard_now = heard_still e h o c (here.server_side.low_heard t c f z (omega (arith, eq)));
        held = busy.0;
        holds = busy.1;
        held_highest = held_highest;
        held_part = (here.terminal_side.held_part f.slot busy.0 busy.1).0;
        runs = (st, inr (was_aside.0, was_aside.1, (room, ap (λ s. asked_resume c.terminal s room) z.slot, refl), was_aside.2));
        put = refl;
      }

      -- by the reply's id and number, and the server after
      abbrev Then : SessionId → ℕ → ServerM → Type 0
      Then id n s = Inv P first (record { asked = asked_resume c.terminal f.slot room; answer = ok; put = Some (reply_message (outcome_reply id n f.slot (run_highest here.S f.slot) here.S.target bytes)); took = None } ∷ h) (record { server = s; terminals = m.terminals; content = run_content P.service m.content X; requests = m.requests; replies = P.replies.puts m.replies (reply_message (outcome_reply id n f.slot (run_highest here.S f.slot) here.S.target bytes)) })

      abbrev placed : ServerM
      placed = record { boot = m.server.boot; count = m.server.count; sessions = set m.server.sessions c.terminal (Some (with_slot here.S f.slot (finished here.S f.slot bytes))) }

      run_inv : Then f.id f.number placed
      run_inv = running_inv P laws first h m inv e t o c f z st here.S running m.requests (λ b i. i) (λ a r b x y. absurd (took_none b y))

      id_is : f.id ≡ here.T.id
      id_is = inv.calls.named t o c f z ∙ sym here.TId

      resumed_good : Good P first h (asked_resume c.terminal f.slot room) (resume_by P m (Ok (run_slot P.service m.content m.server here.T.id f.slot here.S)))
      resumed_good =
          let set_in : with_session m.server here.T.id (Some (with_slot here.S f.slot (finished here.S f.slot bytes))) ≡ placed = placed_is P first h m inv c.terminal o st here.T.id (Some (with_slot here.S f.slot (finished here.S f.slot bytes))) (sym here.TId) in
          subst (λ s. Then here.T.id X.number s) (sym set_in) (subst (λ n. Then here.T.id n placed) eq (subst (λ d. Then d f.number placed) id_is run_inv))

  module _ (p slot : ℕ) where
    -- a standing session with work at the slot
    at_work : (o : ℕ) (st : Stands h p o (length h)) → slot ≤ 15 → (slot_at (standing P first h m inv p o st).S slot).last ≡ in_progress → Good P first h (asked_resume p slot room) (resume_by P m (Ok (run_slot P.service m.content m.server (standing P first h m inv p o st).T.id slot (standing P first h m inv p o st).S)))
    at_work o st le prog =
        let n = standing P first h m inv p o st in
        let some : 1 ≤ (slot_at n.S slot).number = ⊎_elim (λ x. absurd (let a = n.server_side.unused slot x in let w : ◌≡◌ {A = ℕ} 0 1 = cc in omega arith)) (λ x. omega (arith, x)) (cases_eq (slot_at n.S slot).number 0) in
        let w = n.server_side.last_known slot some in
        go w.0 w.1 w.2 w.3 p (opened_one h o w.1.terminal p w.3.session.0 st.0) st slot w.4 w.5 prog
      where
        go : (t : ℕ) (c : Call) (f : Request) → Known h t o c f → (q : ℕ) → c.terminal ≡ q → (sd : Stands h q o (length h)) (s : ℕ) → f.slot ≡ s → f.number ≡ (slot_at (standing P first h m inv q o sd).S s).number → (slot_at (standing P first h m inv q o sd).S s).last ≡ in_progress → Good P first h (asked_resume q s room) (resume_by P m (Ok (run_slot P.service m.content m.server (standing P first h m inv q o sd).T.id s (standing P first h m inv q o sd).S)))
        go t c f z q pe = subst (λ x. (sd : Stands h x o (length h)) (s : ℕ) → f.slot ≡ s → f.number ≡ (slot_at (standing P first h m inv x o sd).S s).number → (slot_at (standing P first h m inv x o sd).S s).last ≡ in_progress → Good P first h (asked_resume x s room) (resume_by P m (Ok (run_slot P.service m.content m.server (standing P first h m inv x o sd).T.id s (standing P first h m inv x o sd).S)))) pe (λ sd s se. subst (λ x. f.number ≡ (slot_at (standing P first h m inv c.terminal o sd).S x).number → (slot_at (standing P first h m inv c.terminal o sd).S x).last ≡ in_progress → Good P first h (asked_resume c.terminal x room) (resume_by P m (Ok (run_slot P.service m.content m.server (standing P first h m inv c.terminal o sd).T.id x (standing P first h m inv c.terminal o sd).S)))) se (resumed_good t o c f z sd))

    by_session : (T : TerminalM) → terminal_at P m p ≡ Some T → (x : Option SessionM) → session_of m.server T.id ≡ x → Good P first h (asked_resume p slot room) (resume_by P m (when_found (Err not_standing) (λ s. cond (works_at s slot) (Ok (run_slot P.service m.content m.server T.id slot s)) (Err no_work)) x))
    by_session T at None g = good_refused P first h (asked_resume p slot room) m not_standing inv
    by_session T at (Some S) g = by_work (works_at S slot) refl
      where
        w : (o : ℕ) × Session h p o (length h) × (T.id ≡ inv.ids o)
        w = inv.places.terminal_known p T at

        st : Stands h p w.0 (length h)
        st = is_there P first h m inv p w.0 T w.1 w.2 S g

        n : Standing P first h m inv p w.0
        n = standing P first h m inv p w.0 st

        TIs : n.T ≡ T
        TIs = some_same n.T T (sym n.terminal ∙ at)

        SIs : n.S ≡ S
        SIs = some_same n.S S (sym n.lookup ∙ ap (λ x. session_of m.server x.id) TIs ∙ g)

        by_work : (b : Bool) → works_at S slot ≡ b → Good P first h (asked_resume p slot room) (resume_by P m (cond b (Ok (run_slot P.service m.content m.server T.id slot S)) (Err no_work)))
        by_work false y = good_refused P first h (asked_resume p slot room) m no_work inv
        by_work true y =
            let q = and_parts (leb slot 15) (is_working (slot_at S slot).last) y in
            let prog : (slot_at n.S slot).last ≡ in_progress = ap (λ s. (slot_at s slot).last) SIs ∙ working_is (slot_at S slot).last q.1 in
            subst (λ s. Good P first h (asked_resume p slot room) (resume_by P m (Ok (run_slot P.service m.content m.server T.id slot s)))) SIs (subst (λ x. Good P first h (asked_resume p slot room) (resume_by P m (Ok (run_slot P.service m.content m.server x.id slot n.S)))) TIs (at_work w.0 st (leb-true slot 15 q.0) prog))

    pub resume_keeps : Good P first h (asked_resume p slot room) (act P m (asked_resume p slot room))
    unfolding resume_step resume_work
    resume_keeps =
        good_cond P first h (asked_resume p slot room) (is_short room) _ _
        (λ e. good_refused P first h (asked_resume p slot room) m short_scratch inv)
        (λ e. good_found P first h (asked_resume p slot room) _ _ (terminal_at P m p) (good_refused P first h (asked_resume p slot room) m no_terminal inv) (λ T at. by_session T at (session_of m.server T.id) refl))
