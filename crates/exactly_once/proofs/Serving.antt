-- A call set aside or run keeps the invariant: what its slot takes at the server, and what is so of every other call.
use Rattle.std.proofs.Common.{◌≡◌, ℕ, suc, ◌+◌, ◌<◌, ◌≤◌, Bool, true, false, cond, ◌≢◌, ◌⊎◌, ◌∷◌, length, get_or, set, Some, None, sym, refl, ap, ◌∙◌, subst, inl, inr, ⊎_elim, arith}
use Rattle.std.proofs.lemmas.List.{get_or-set_same, get_or-set_other, length-set}
use Rattle.std.proofs.lemmas.Bool.{cases_eq}
use Rattle.common.specs.Bytes.{Bytes}
use Rattle.common.specs.Search.{In}
use Rattle.wire.specs.Wire.{Request, Reply, reply_message}
use Rattle.server.specs.Server.{SessionM, SlotM, slot_at, with_slot, new_slot, is_working, never}
use Rattle.terminal.specs.Terminal.{EndM, OpenCall, Effect, end_at}
use Rattle.exactly_once.specs.History.{Told, run, aside, asked_hear, Event, History}
use Rattle.exactly_once.specs.Words.{Call, Ordered, Opened, Stands, Open, HeardBefore, RanBefore}
use Rattle.exactly_once.specs.Steps.{Parts, Model}
use Rattle.exactly_once.proofs.Tables.{some_same, some_none, at_each, within}
use Rattle.exactly_once.proofs.Unique.{Orders, ordered_one, opened_one}
use Rattle.exactly_once.proofs.Newest.{Opens, EndsSession, Replies, Hears, Resumes, Runs, open_still, heard_new, heard_still, ran_new, ran_still}
use Rattle.exactly_once.proofs.Invariant.{Known, Put, result, Answers, Holds, Close, pend, Ready, ServerSide, BothSides, Done, Inv}
use Rattle.exactly_once.proofs.Carry.{CarriesAt, known_up, put_new, put_still, aside_still, aside_old, terminal_moved, holds_moved}
use Rattle.exactly_once.proofs.Unchanged.{stood, was_open, was_known, calls_on, waiting_on}
use Rattle.exactly_once.proofs.Replaced.{replaced_inv}
use Rattle.exactly_once.proofs.Present.{Standing, standing, one_call}

pend_low : (x : SlotM) → pend x ≤ 1
pend_low x = go (is_working x.last)
  where
    go : (b : Bool) → cond b 1 0 ≤ 1
    go true = omega arith
    go false = omega arith

module _ (P : Parts) (first : P.service.Content) (h : History) (m : Model P) (inv : Inv P first h m) (e : Event) (t o : ℕ) (c : Call) (f : Request) (z : Known h t o c f) (st : Stands h c.terminal o (length h)) (Y : SlotM) where
  abbrev w : Standing P first h m inv c.terminal o
  w = standing P first h m inv c.terminal o st

  abbrev X : SlotM
  X = slot_at w.S f.slot

  abbrev E : EndM
  E = end_at w.T f.slot

  abbrev R : SessionM
  R = with_slot w.S f.slot Y

  -- what the event is, and what it does to c and its slot
  pub record Working : Type 0 where
    pub no_order : (d : Call) → Orders e d → ⊥
    pub no_open : (q : ℕ) → Opens e q → ⊥
    pub no_end : (q : ℕ) → EndsSession e q → ⊥
    pub no_reply : (d : Call) (g : Effect) → Replies e d g → ⊥
    pub only_hears : (u v : ℕ) (d : Call) (g : Request) (b : Told) → Known h u v d g → Hears e d b → u ≡ t
    pub only_resumes : (q s : ℕ) → Resumes e q s → (q ≡ c.terminal) × (s ≡ f.slot)
    pub only_runs : (u : ℕ) (d : Call) (g : Request) → Known h u o d g → Runs h e o d → u ≡ t
    pub number : Y.number ≡ f.number
    pub level : f.number ≡ E.number
    pub grows : X.number ≤ f.number
    pub next : f.number ≤ X.number + 1
    pub below_ran : (u : ℕ) (d : Call) (g : Request) → Known h u o d g → g.slot ≡ f.slot → g.number < f.number → RanBefore h o d (length h)
    pub heard_now : HeardBefore (e ∷ h) o c (suc (length h))
    pub holds : Holds (e ∷ h) o c f Y
    pub ready : Ready f.slot E Y
    pub target : f.slot ≤ w.S.target → Y.is_open ≡ true
    pub held : (k : OpenCall) × (E.call ≡ Some k)
    pub put_target : (high goal : ℕ) (b : Bytes) → goal ≤ 15 → Put (e ∷ h) o c (reply_message (result f high goal b)) → Put h o c (reply_message (result f high goal b)) ⊎ (goal ≡ w.S.target)

  module _ (W : Working) where
    abbrev n : ℕ
    n = length h

    abbrev p : ℕ
    p = c.terminal

    abbrev i : ℕ
    i = f.slot

    new_open : (u v : ℕ) (d : Call) (g : Request) → Known h u v d g → Open h u d n → Open (e ∷ h) u d (suc n)
    new_open u v d g k x = open_still e h u d x (W.no_reply d) (W.no_open d.terminal)

    -- calls of the same session other than c
    old_heard : (u : ℕ) (d : Call) (g : Request) → Known h u o d g → u ≢ t → HeardBefore (e ∷ h) o d (suc n) → HeardBefore h o d n
    old_heard u d g k ne x = ⊎_elim (λ q. q) (λ q. absurd (ne (W.only_hears u o d g q.0 k q.1))) (heard_new e h o d x)

    old_ran : (u : ℕ) (d : Call) (g : Request) → Known h u o d g → u ≢ t → RanBefore (e ∷ h) o d (suc n) → RanBefore h o d n
    old_ran u d g k ne x = ⊎_elim (λ q. q) (λ q. absurd (ne (W.only_runs u d g k q))) (ran_new e h o d x)

    old_put : (u : ℕ) (d : Call) (g : Request) (b : Bytes) → Known h u o d g → u ≢ t → Put (e ∷ h) o d b → Put h o d b
    old_put u d g b k ne x = ⊎_elim (λ q. q) (λ q. absurd (ne (W.only_runs u d g k q.0))) (put_new e h o d b x)

    -- the call ordered at t is c
    is_c : (u : ℕ) (d : Call) (g : Request) → Known h u o d g → u ≡ t → (d ≡ c) × (g ≡ f)
    is_c u d g k e' =
        let dc : d ≡ c = ordered_one h t d c (subst (λ x. Ordered h x d) e' k.ordered) z.ordered in
        let q = one_call P first h m inv u t o o d c g f k z (ap (λ x. x.request) dc) in
        (dc, q.3)

    split : (Q : ℕ → Call → Request → Type 0) → Q t c f → ((u : ℕ) (d : Call) (g : Request) → Known h u o d g → u ≢ t → Q u d g) → (u : ℕ) (d : Call) (g : Request) → Known (e ∷ h) u o d g → Q u d g
    split Q new old u d g k = ⊎_elim (λ q. (let r = is_c u d g (was_known e h W.no_order u o d g k) q in subst (λ x. Q x d g) (sym q) (subst (λ x. Q t x g) (sym r.0) (subst (λ x. Q t c x) (sym r.1) new)))) (λ ne. old u d g (was_known e h W.no_order u o d g k) ne) (cases_eq u t)

    inside : i < length w.S.slots
    inside = omega (arith, w.server_side.sixteen, (inv.calls.placed t o c f z).0)

    there : slot_at R i ≡ Y
    there = get_or-set_same w.S.slots i Y new_slot inside

    away : (s : ℕ) → s ≢ i → slot_at R s ≡ slot_at w.S s
    away s ne = get_or-set_other w.S.slots i s Y new_slot ne

    taller : (s : ℕ) → (slot_at w.S s).number ≤ (slot_at R s).number
    taller = at_each (λ s x. (slot_at w.S s).number ≤ x.number) w.S.slots i Y new_slot inside (omega (arith, W.number, W.grows)) (λ s ne. omega arith)

    -- a number at c's slot: lower, or c's own
    lower : (u : ℕ) (d : Call) (g : Request) → Known h u o d g → u ≢ t → g.slot ≡ i → g.number ≤ (slot_at R g.slot).number → g.number < f.number
    lower u d g k ne es le =
        let y : g.number ≤ f.number = omega (arith, le, ap (λ x. (slot_at R x).number) es, ap (λ (x : SlotM). x.number) there, W.number) in
        ⊎_elim (λ q. absurd (ne (inv.calls.once u t o d c g f k z es q))) (λ q. omega (arith, y, q)) (cases_eq g.number f.number)

    server : ServerSide (e ∷ h) o R
    server = record {
      sixteen = length-set w.S.slots i Y ∙ w.server_side.sixteen;
      target = w.server_side.target;
      target_open = at_each (λ s x. s ≤ w.S.target → x.is_open ≡ true) w.S.slots i Y new_slot inside W.target (λ s ne. w.server_side.target_open s);
      heard_low = split (λ u d g. HeardBefore (e ∷ h) o d (suc n) → g.number ≤ (slot_at R g.slot).number) (λ b. subst (λ x. f.number ≤ x.number) (sym there) (omega (arith, W.number))) (λ u d g k ne b. omega (arith, w.server_side.heard_low u d g k (old_heard u d g k ne b), taller g.slot));
      low_heard = split (λ u d g. g.number ≤ (slot_at R g.slot).number → HeardBefore (e ∷ h) o d (suc n)) (λ le. W.heard_now) low_heard;
      older_ran = split (λ u d g. g.number < (slot_at R g.slot).number → RanBefore (e ∷ h) o d (suc n)) (λ lt. absurd (omega (arith, lt, ap (λ (x : SlotM). x.number) there, W.number))) older_ran;
      last_holds = split (λ u d g. g.number ≡ (slot_at R g.slot).number → Holds (e ∷ h) o d g (slot_at R g.slot)) (λ q. subst (λ x. Holds (e ∷ h) o c f x) (sym there) W.holds) last_holds;
      last_known = at_each (λ s x. 1 ≤ x.number → (u : ℕ) × (d : Call) × (g : Request) × Known (e ∷ h) u o d g × (g.slot ≡ s) × (g.number ≡ x.number)) w.S.slots i Y new_slot inside (λ le. (t, c, f, known_up e h t o c f z, refl, sym W.number)) (λ s ne le. (let v = w.server_side.last_known s le in (v.0, v.1, v.2, known_up e h v.0 o v.1 v.2 v.3, v.4, v.5)));
      unused = at_each (λ s x. x.number ≡ 0 → x.last ≡ never) w.S.slots i Y new_slot inside (λ q. absurd (omega (arith, q, W.number, inv.calls.numbered t o c f z))) (λ s ne. w.server_side.unused s);
    }
      where
        low_heard : (u : ℕ) (d : Call) (g : Request) → Known h u o d g → u ≢ t → g.number ≤ (slot_at R g.slot).number → HeardBefore (e ∷ h) o d (suc n)
        low_heard u d g k ne le = heard_still e h o d (w.server_side.low_heard u d g k (⊎_elim same (λ na. subst (λ x. g.number ≤ x.number) (away g.slot na) le) (cases_eq g.slot i)))
          where
            same : g.slot ≡ i → g.number ≤ (slot_at w.S g.slot).number
            same es = omega (arith, lower u d g k ne es le, W.next, ap (λ x. (slot_at w.S x).number) es)

        older_ran : (u : ℕ) (d : Call) (g : Request) → Known h u o d g → u ≢ t → g.number < (slot_at R g.slot).number → RanBefore (e ∷ h) o d (suc n)
        older_ran u d g k ne lt = ran_still e h o d (⊎_elim (λ es. W.below_ran u d g k es (lower u d g k ne es (omega (arith, lt)))) (λ na. w.server_side.older_ran u d g k (subst (λ x. g.number < x.number) (away g.slot na) lt)) (cases_eq g.slot i))

        last_holds : (u : ℕ) (d : Call) (g : Request) → Known h u o d g → u ≢ t → g.number ≡ (slot_at R g.slot).number → Holds (e ∷ h) o d g (slot_at R g.slot)
        last_holds u d g k ne q = ⊎_elim same differ (cases_eq g.slot i)
          where
            same : g.slot ≡ i → Holds (e ∷ h) o d g (slot_at R g.slot)
            same es = absurd (omega (arith, lower u d g k ne es (omega (arith, q)), q, ap (λ x. (slot_at R x).number) es, ap (λ (x : SlotM). x.number) there, W.number))

            differ : g.slot ≢ i → Holds (e ∷ h) o d g (slot_at R g.slot)
            differ na = subst (λ x. Holds (e ∷ h) o d g x) (sym (away g.slot na)) (holds_moved o d g (slot_at w.S g.slot) (put_still e h o d) (ran_still e h o d) (old_ran u d g k ne) (λ x. aside_still e h o d x (λ r. na (k.slot ∙ (W.only_resumes d.terminal d.slot r).1))) (w.server_side.last_holds u d g k (q ∙ ap (λ (x : SlotM). x.number) (away g.slot na))))

    ready_still : (s : ℕ) → Ready s (end_at w.T s) (slot_at w.S s) → Ready s (end_at w.T s) (slot_at R s)
    ready_still = at_each (λ s x. Ready s (end_at w.T s) (slot_at w.S s) → Ready s (end_at w.T s) x) w.S.slots i Y new_slot inside (λ r. W.ready) (λ s ne r. r)

    both : BothSides (e ∷ h) o w.T R
    both = record {
      close = at_each (λ s x. Close (end_at w.T s) x) w.S.slots i Y new_slot inside (record { low = omega (arith, W.number, W.level); near = omega (arith, W.number, W.level, pend_low Y); free = λ q. absurd (some_none W.held.0 (sym W.held.1 ∙ q)) }) (λ s ne. w.both_sides.close s);
      usable_ready = at_each (λ s x. (end_at w.T s).usable ≡ true → Ready s (end_at w.T s) x) w.S.slots i Y new_slot inside (λ u. W.ready) (λ s ne. w.both_sides.usable_ready s);
      fresh_ready = λ u d g j high goal b k. fresh_ready u d g k j high goal b;
    }
      where
        fresh_ready : (u : ℕ) (d : Call) (g : Request) → Known (e ∷ h) u o d g → (j : OpenCall) (high goal : ℕ) (b : Bytes) → (end_at w.T g.slot).call ≡ Some j → g.number ≡ (end_at w.T g.slot).number → j.fresh ≡ true → goal ≤ 15 → Put (e ∷ h) o d (reply_message (result g high goal b)) → (s : ℕ) → s ≤ goal → Ready s (end_at w.T s) (slot_at R s)
        fresh_ready = split (λ u d g. (j : OpenCall) (high goal : ℕ) (b : Bytes) → (end_at w.T g.slot).call ≡ Some j → g.number ≡ (end_at w.T g.slot).number → j.fresh ≡ true → goal ≤ 15 → Put (e ∷ h) o d (reply_message (result g high goal b)) → (s : ℕ) → s ≤ goal → Ready s (end_at w.T s) (slot_at R s)) mine (λ u d g k ne j high goal b he lv fr fg pu s le. ready_still s (w.both_sides.fresh_ready u d g j high goal b k he lv fr fg (old_put u d g _ k ne pu) s le))
          where
            mine : (j : OpenCall) (high goal : ℕ) (b : Bytes) → (end_at w.T i).call ≡ Some j → f.number ≡ (end_at w.T i).number → j.fresh ≡ true → goal ≤ 15 → Put (e ∷ h) o c (reply_message (result f high goal b)) → (s : ℕ) → s ≤ goal → Ready s (end_at w.T s) (slot_at R s)
            mine j high goal b he lv fr fg pu s le = ⊎_elim (λ q. ready_still s (w.both_sides.fresh_ready t c f j high goal b z he lv fr fg q s le)) (λ q. ready_still s (inl (w.server_side.target_open s (omega (arith, le, q))))) (W.put_target high goal b fg pu)

    -- sessions at other places
    module _ (q v : ℕ) (op : Opened h v q) (na : q ≢ p) where
      place : (u : ℕ) (d : Call) (g : Request) → Known h u v d g → d.terminal ≡ p → ⊥
      place u d g k es = na (opened_one h v q d.terminal op k.session.0 ∙ es)

      not_heard : (u : ℕ) (d : Call) (g : Request) (b : Told) → Known h u v d g → Hears e d b → ⊥
      not_heard u d g b k x =
          let ts : u ≡ t = W.only_hears u v d g b k x in
          place u d g k (ap (λ y. y.terminal) (ordered_one h t d c (subst (λ y. Ordered h y d) ts k.ordered) z.ordered))

      not_run : (u : ℕ) (d : Call) (g : Request) → Known h u v d g → Runs h e v d → ⊥
      not_run u d g k r = ⊎_elim (λ x. not_heard u d g run k x.0) (λ x. place u d g k (W.only_resumes d.terminal d.slot x.2).0) r.1

      up : CarriesAt v h (e ∷ h)
      up = record {
        known = λ u d g. known_up e h u v d g;
        open_calls = λ u d g k. new_open u v d g k;
        heard = λ u d g k. heard_still e h v d;
        ran = λ u d g k. ran_still e h v d;
        put = λ u d g b k. put_still e h v d b;
        set_aside = λ u d g k x. aside_still e h v d x (λ r. place u d g k (W.only_resumes d.terminal d.slot r).0);
      }

      down : CarriesAt v (e ∷ h) h
      down = record {
        known = λ u d g. was_known e h W.no_order u v d g;
        open_calls = λ u d g k x. (was_open e h u v d g (was_known e h W.no_order u v d g k) x).0;
        heard = λ u d g k x. ⊎_elim (λ y. y) (λ y. absurd (not_heard u d g y.0 (was_known e h W.no_order u v d g k) y.1)) (heard_new e h v d x);
        ran = λ u d g k x. ⊎_elim (λ y. y) (λ y. absurd (not_run u d g (was_known e h W.no_order u v d g k) y)) (ran_new e h v d x);
        put = λ u d g b k x. ⊎_elim (λ y. y) (λ y. absurd (not_run u d g (was_known e h W.no_order u v d g k) y.0)) (put_new e h v d b x);
        set_aside = λ u d g k x. aside_old e h v d (λ q sd. absurd (not_heard u d g aside (was_known e h W.no_order u v d g k) q)) x;
      }

    -- the whole
    module _ (content : P.service.Content) (qs : P.requests.State) (rs : P.replies.State) where
      -- with what waits then, and what has run
      pub working_inv : ((b : Bytes) → In b (P.requests.waits qs) → In b (P.requests.waits m.requests)) → ((b : Bytes) → In b (P.replies.waits rs) → In b (P.replies.waits m.replies) ⊎ ((r : Reply) × (b ≡ reply_message r) × Answers (e ∷ h) o c f r)) → ((a : Told) (room : ℕ) (b : Bytes) → e.asked ≡ asked_hear a room → e.took ≡ Some b → b ≡ c.request) → Done P first (e ∷ h) (record { server = record { boot = m.server.boot; count = m.server.count; sessions = set m.server.sessions c.terminal (Some (with_slot (standing P first h m inv c.terminal o st).S f.slot Y)) }; terminals = m.terminals; content = content; requests = qs; replies = rs }) → Inv P first (e ∷ h) (record { server = record { boot = m.server.boot; count = m.server.count; sessions = set m.server.sessions c.terminal (Some (with_slot (standing P first h m inv c.terminal o st).S f.slot Y)) }; terminals = m.terminals; content = content; requests = qs; replies = rs })
      working_inv asks tells takes done = replaced_inv P first h m inv e after p o w.T (record {
        no_open = W.no_open;
        no_end = W.no_end;
        newest = inv.places.newest p o st;
        boot = refl;
        count = refl;
        eight_sessions = length-set m.server.sessions p (Some R) ∙ inv.places.eight_sessions;
        eight_terminals = inv.places.eight_terminals;
        terminal_here = w.terminal;
        id = w.TId;
        session_here = λ sd. (R, placed, w.SId);
        terminal_side = terminal_moved o w.T (λ x d g. known_up e h x o d g) (λ x d g. was_known e h W.no_order x o d g) (λ x d g k. new_open x o d g k) (λ x d g k y. (was_open e h x o d g k y).0) w.terminal_side;
        sides_here = λ S at. (let is : R ≡ S = some_same R S (sym placed ∙ at) in subst (λ x. Stands h p o n × (x.id ≡ inv.ids o) × ServerSide (e ∷ h) o x × BothSides (e ∷ h) o w.T x) is (st, w.SId, server, both));
        terminals_away = λ q ne. refl;
        sessions_away = λ q ne. get_or-set_other m.server.sessions p q (Some R) None ne;
        up = up;
        down = down;
        calls = calls_on e h W.no_order inv.ids inv.ids (λ u q x. refl) inv.calls;
        waiting = waiting_on e h P m after inv.waiting (λ u v d g k. stood e h W.no_open d.terminal v) (λ b j. inl (asks b j)) (λ a room b x y. (t, o, c, f, z, takes a room b x y)) (λ b j. ⊎_elim inl (λ s. inr (t, o, c, f, s.0, known_up e h t o c f z, s.1, s.2)) (tells b j));
        done = done;
      })
        where
          after : Model P
          after = record { server = record { boot = m.server.boot; count = m.server.count; sessions = set m.server.sessions c.terminal (Some (with_slot (standing P first h m inv c.terminal o st).S f.slot Y)) }; terminals = m.terminals; content = content; requests = qs; replies = rs }

          placed : get_or (set m.server.sessions p (Some R)) p None ≡ Some R
          placed = get_or-set_same m.server.sessions p (Some R) None (within m.server.sessions p w.S w.session)
