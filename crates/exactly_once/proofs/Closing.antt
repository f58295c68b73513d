-- A reply that closes a call keeps the invariant: of all words only that the call is open goes.
use Rattle.std.proofs.Common.{◌≡◌, ℕ, suc, ◌<◌, ◌≤◌, Bool, true, false, cond, ltb, ◌≢◌, ◌⊎◌, [], ◌∷◌, length, get_or, Some, None, Option, sym, refl, ap, ◌∙◌, subst, inl, inr, ⊎_elim, arith}
use borrow.Author.Tests.{clash}
use Rattle.std.proofs.lemmas.List.{get_or-set_same, get_or-set_other, length-set}
use Rattle.std.proofs.lemmas.Bool.{cases_eq}
use Rattle.std.specs.Option.{option_map}
use Rattle.common.specs.Bytes.{Bytes}
use Rattle.wire.specs.Wire.{Request, reply_message}
use Rattle.server.specs.Server.{SessionM, Last, never, in_progress, kept, not_kept, slot_at, is_working}
use Rattle.terminal.specs.Terminal.{TerminalM, OpenCall, Effect, answered, done, unknown, end_at}
use Rattle.exactly_once.specs.History.{asked_take, taken, Event, History}
use Rattle.exactly_once.specs.Words.{Call, Session, Stands, Open, RanBefore}
use Rattle.exactly_once.specs.Steps.{Parts, Model, terminal_at, rest_replies, with_terminal}
use Rattle.exactly_once.specs.Lived.{PartsLaws}
use Rattle.exactly_once.proofs.Tables.{some_same, some_none, within}
use Rattle.exactly_once.proofs.Unique.{Orders, session_one, opened_one, open_newest, ran_heard}
use Rattle.exactly_once.proofs.Newest.{Opens, EndsSession, Replies, open_still, heard_still, ran_still}
use Rattle.exactly_once.proofs.Invariant.{Known, Put, result, ByLast, Holds, Close, pend, Shutting, Ready, TerminalSide, ServerSide, BothSides, Inv}
use Rattle.exactly_once.proofs.Carry.{CarriesAt, known_up, put_still, aside_still, holds_moved}
use Rattle.exactly_once.proofs.Unchanged.{Idle, stood, was_open, was_known, calls_on, was_heard, had_run, was_put, was_aside, waiting_on, done_idle}
use Rattle.exactly_once.proofs.Replaced.{elsewhere, server_has, replaced_inv}
use Rattle.exactly_once.proofs.Belonging.{Belonging}
use Rattle.exactly_once.proofs.Closed.{aged, ClosedAt}

-- what a reply that closes the call c at slot i of a standing session has behind it
pub record Rightly (h : History) (o : ℕ) (c : Call) (T : TerminalM) (S : SessionM) (i : ℕ) (shut : Bool) (taught : ℕ) : Type 0 where
  pub ran : RanBefore h o c (length h)
  pub taught_ready : (s : ℕ) → s < taught → Ready s (end_at T s) (slot_at S s)
  pub shutting : Shutting i (end_at T i) (slot_at S i) → shut ≡ true

-- an open call that aged
aged_back : (shut : Bool) (x : Option OpenCall) (k : OpenCall) → option_map (aged shut) x ≡ Some k → (j : OpenCall) × (x ≡ Some j) × (aged shut j ≡ k)
aged_back shut None k e = absurd (some_none k (sym e))
aged_back shut (Some j) k e = (j, refl, some_same (aged shut j) k e)

module _ (P : Parts) (laws : PartsLaws P) (first : P.service.Content) (h : History) (m : Model P) (inv : Inv P first h m) (t o : ℕ) (c : Call) (f : Request) (z : Known h t o c f) (p : ℕ) (T : TerminalM) (at : terminal_at P m p ≡ Some T) (is : Belonging h t o c f p T) (i : ℕ) (fi : f.slot ≡ i) (T' : TerminalM) (shut : Bool) (taught : ℕ) (ch : ClosedAt T T' i shut taught) (rightly : (S : SessionM) → Stands h p o (length h) → ServerSide h o S → BothSides h o T S → Rightly h o c T S i shut taught) (room : ℕ) (g : Effect) (ends : ((x : Bytes) × (g ≡ answered x)) ⊎ (g ≡ done) ⊎ (g ≡ unknown)) (b : Bytes) where
  abbrev e : Event
  e = record { asked = asked_take room; answer = taken p i g; put = None; took = Some b }

  abbrev n : ℕ
  n = length h

  abbrev after : Model P
  after = with_terminal P (rest_replies P m) p T'

  side : TerminalSide h o T
  side = is.side

  no_order : (d : Call) → Orders e d → ⊥
  no_order d y = let x = y.0 in let w : ◌≡◌ {A = ℕ} 0 1 = cc in omega arith

  no_open : (q : ℕ) → Opens e q → ⊥
  no_open q y = let x = y.2 in let w : ◌≡◌ {A = ℕ} 0 1 = cc in omega arith

  no_end : (q : ℕ) → EndsSession e q → ⊥
  no_end q y = let x = y.1 in let w : ◌≡◌ {A = ℕ} 0 1 = cc in omega arith

  idle : Idle e
  idle = record { no_hear = λ d w y. (let x = y.1 in let v : ◌≡◌ {A = ℕ} 0 1 = cc in omega arith); no_resume = λ q s y. (let x = y.2 in let w : ◌≡◌ {A = ℕ} 0 1 = cc in omega arith) }

  -- it closes what is open at p and i, and nothing else
  replies_at : (d : Call) (y : Effect) → Replies e d y → (d.terminal ≡ p) × (d.slot ≡ i)
  replies_at d y x = let w = x.2 in (cc, cc)

  replies_here : (d : Call) → d.terminal ≡ p → d.slot ≡ i → Replies e d g
  replies_here d x y = (room, refl, (λ j. taken (sym x j) (sym y j) g), ends)

  -- an open call of another session stays open
  up : (u : ℕ) → u ≢ o → CarriesAt u h (e ∷ h)
  up u ne = record {
    known = λ v d k. known_up e h v u d k;
    open_calls = λ v d k x y. open_still e h v d y (λ y1 w. ne (elsewhere v d k x y (replies_at d y1 w).0)) (no_open d.terminal);
    heard = λ v d k x. heard_still e h u d;
    ran = λ v d k x. ran_still e h u d;
    put = λ v d k y x. put_still e h u d y;
    set_aside = λ v d k x y. aside_still e h u d y (idle.no_resume d.terminal d.slot);
  }
    where
      elsewhere : (v : ℕ) (d : Call) (k : Request) → Known h v u d k → Open h v d n → d.terminal ≡ p → u ≡ o
      elsewhere v d k x y q = session_one h p u o n (subst (λ w. Session h w u n) q (open_newest h v u d n x.session x.ordered y)) is.newest

  down : (u : ℕ) → CarriesAt u (e ∷ h) h
  down u = record {
    known = λ v d k. was_known e h no_order v u d k;
    open_calls = λ v d k x y. (was_open e h v u d k (was_known e h no_order v u d k x) y).0;
    heard = λ v d k x. was_heard e h idle u d;
    ran = λ v d k x. had_run e h idle u d;
    put = λ v d k y x. was_put e h idle u d y;
    set_aside = λ v d k x. was_aside e h idle u d;
  }

  -- an open call that a slot holds now was held before, at another slot
  held_before : (s : ℕ) (k : OpenCall) → (end_at T' s).call ≡ Some k → (s ≢ i) × ((j : OpenCall) × ((end_at T s).call ≡ Some j) × (aged shut j ≡ k))
  held_before s k y = (ne, aged_back shut (end_at T s).call k (sym (ch.other s ne) ∙ y))
    where
      ne : s ≢ i
      ne q = some_none k (sym y ∙ ap (λ j. (end_at T' j).call) q ∙ ch.rest)

  terminal : TerminalSide (e ∷ h) o T'
  terminal = record {
    sixteen = ch.sixteen ∙ side.sixteen;
    bound = λ s. subst (λ x. x ≤ 4294967295) (sym (ch.number s)) (side.bound s);
    low = λ v d k x. subst (λ y. k.number ≤ y) (sym (ch.number k.slot)) (side.low v d k (was_known e h no_order v o d k x));
    open_held = open_held;
    held_open = held_open;
    held_usable = λ s k y. (let w = held_before s k y in ch.usable s w.0 (side.held_usable s w.1.0 w.1.1));
    held_part = λ s k y. (let w = held_before s k y in subst (λ x. (x.part ≡ ltb x.highest s) × (x.part ≡ true → x.body ≡ [])) w.1.2 (side.held_part s w.1.0 w.1.1));
  }
    where
      open_held : (v : ℕ) (d : Call) (k : Request) → Known (e ∷ h) v o d k → Open (e ∷ h) v d (suc n) → (j : OpenCall) × ((end_at T' k.slot).call ≡ Some j) × (k.number ≡ (end_at T' k.slot).number) × (j.highest ≡ k.highest) × (j.keep ≡ k.keep) × (j.body ≡ k.body)
      open_held v d k x y =
          let x0 = was_known e h no_order v o d k x in
          let y0 = was_open e h v o d k x0 y in
          let w = side.open_held v d k x0 y0.0 in
          let place : d.terminal ≡ p = opened_one h o d.terminal p x0.session.0 is.newest.0 in
          let ne : k.slot ≢ i = λ q. y0.1 g (replies_here d place (sym x0.slot ∙ q)) in
          (aged shut w.0, ch.other k.slot ne ∙ ap (option_map (aged shut)) w.1, w.2 ∙ sym (ch.number k.slot), w.3, w.4, w.5)

      held_open : (s : ℕ) (k : OpenCall) → (end_at T' s).call ≡ Some k → (v : ℕ) × (d : Call) × (j : Request) × Known (e ∷ h) v o d j × (j.slot ≡ s) × (j.number ≡ (end_at T' s).number) × Open (e ∷ h) v d (suc n)
      held_open s k y =
          let w = held_before s k y in
          let x = side.held_open s w.1.0 w.1.1 in
          (x.0, x.1, x.2, known_up e h x.0 o x.1 x.2 x.3, x.4, x.5 ∙ sym (ch.number s), open_still e h x.0 x.1 x.6 (λ y1 q. w.0 (sym x.4 ∙ x.3.slot ∙ (replies_at x.1 y1 q).1)) (no_open x.1.terminal))

  -- the server's part of its session: no word of it changes
  server : (S : SessionM) → ServerSide h o S → ServerSide (e ∷ h) o S
  server S x = record {
    sixteen = x.sixteen;
    target = x.target;
    target_open = x.target_open;
    heard_low = λ v d k y w. x.heard_low v d k (was_known e h no_order v o d k y) (was_heard e h idle o d w);
    low_heard = λ v d k y le. heard_still e h o d (x.low_heard v d k (was_known e h no_order v o d k y) le);
    older_ran = λ v d k y lt. ran_still e h o d (x.older_ran v d k (was_known e h no_order v o d k y) lt);
    last_holds = λ v d k y q. holds_moved o d k (slot_at S k.slot) (put_still e h o d) (ran_still e h o d) (had_run e h idle o d) (λ w. aside_still e h o d w (idle.no_resume d.terminal d.slot)) (x.last_holds v d k (was_known e h no_order v o d k y) q);
    last_known = λ s le. (let w = x.last_known s le in (w.0, w.1, w.2, known_up e h w.0 o w.1 w.2 w.3, w.4, w.5));
    unused = x.unused;
  }

  -- both ends of it, if it stands
  module _ (S : SessionM) (server_side : ServerSide h o S) (both_sides : BothSides h o T S) (right : Rightly h o c T S i shut taught) where
    -- a ready slot stays so, unless it is the call's and shut
    ready_still : (s : ℕ) → (s ≡ i → shut ≡ true → ⊥) → Ready s (end_at T s) (slot_at S s) → Ready s (end_at T' s) (slot_at S s)
    ready_still s hope (inl x) = inl x
    ready_still s hope (inr x) = ⊎_elim here away (cases_eq s i)
      where
        here : s ≡ i → Ready s (end_at T' s) (slot_at S s)
        here q = absurd (hope q (right.shutting (subst (λ j. Shutting j (end_at T j) (slot_at S j)) q x)))

        away : s ≢ i → Ready s (end_at T' s) (slot_at S s)
        away ne = inr (record { call = aged shut x.call; is = ch.other s ne ∙ ap (option_map (aged shut)) x.is; part = x.part; level = ch.number s ∙ x.level; high = x.high; goal = x.goal; bytes = x.bytes; ran = x.ran; below = x.below })

    -- the call has run, so nothing is in progress at its slot
    close_here : Close (end_at T' i) (slot_at S i)
    close_here =
        let x = both_sides.close i in
        let num : f.number ≡ (end_at T i).number = is.number ∙ ap (λ s. (end_at T s).number) fi in
        let low : f.number ≤ (slot_at S i).number = subst (λ s. f.number ≤ (slot_at S s).number) fi (server_side.heard_low t c f z (ran_heard h o c n right.ran)) in
        let level : f.number ≡ (slot_at S i).number = omega (arith, num, low, x.low) in
        let holds : Holds h o c f (slot_at S i) = subst (λ s. Holds h o c f (slot_at S s)) fi (server_side.last_holds t c f z (level ∙ ap (λ s. (slot_at S s).number) (sym fi))) in
        let none : pend (slot_at S i) ≡ 0 = idle (slot_at S i).last holds.last in
        record { low = omega (arith, ch.number i, x.low); near = omega (arith, ch.number i, x.near); free = λ q. omega (arith, ch.number i, num, level, none) }
      where
        idle : (l : Last) → ByLast h o c f l → ◌≡◌ {A = ℕ} (cond (is_working l) 1 0) 0
        idle never x = absurd x
        idle in_progress x = absurd (x.1 right.ran)
        idle (kept high goal y) x = refl
        idle not_kept x = refl

    close_all : (s : ℕ) → Close (end_at T' s) (slot_at S s)
    close_all s = ⊎_elim (λ q. subst (λ j. Close (end_at T' j) (slot_at S j)) (sym q) close_here) away (cases_eq s i)
      where
        away : s ≢ i → Close (end_at T' s) (slot_at S s)
        away ne =
            let x = both_sides.close s in
            record { low = omega (arith, ch.number s, x.low); near = omega (arith, ch.number s, x.near); free = λ q. omega (arith, ch.number s, x.free (unheld q)) }
          where
            unheld : (end_at T' s).call ≡ None → (end_at T s).call ≡ None
            unheld q = go (end_at T s).call (sym (ch.other s ne) ∙ q)
              where
                go : (y : Option OpenCall) → option_map (aged shut) y ≡ None → y ≡ None
                go None w = refl
                go (Some k) w = absurd (some_none (aged shut k) w)

    both : BothSides (e ∷ h) o T' S
    both = record {
      close = close_all;
      usable_ready = λ s u. ready_still s (λ q sh. ch.gone sh (subst (λ j. (end_at T' j).usable ≡ true) q u)) (⊎_elim (both_sides.usable_ready s) (right.taught_ready s) (ch.learnt s u));
      fresh_ready = fresh_ready;
    }
      where
        fresh_ready : (v : ℕ) (d : Call) (k : Request) (j : OpenCall) (high goal : ℕ) (y : Bytes) → Known (e ∷ h) v o d k → (end_at T' k.slot).call ≡ Some j → k.number ≡ (end_at T' k.slot).number → j.fresh ≡ true → goal ≤ 15 → Put (e ∷ h) o d (reply_message (result k high goal y)) → (s : ℕ) → s ≤ goal → Ready s (end_at T' s) (slot_at S s)
        fresh_ready v d k j high goal y x he lv fr fg pu s le =
            let w = held_before k.slot j he in
            let fresh : cond shut false w.1.0.fresh ≡ true = ap (λ q. q.fresh) w.1.2 ∙ fr in
            let both_ways : (shut ≡ true → ⊥) × (w.1.0.fresh ≡ true) = split shut w.1.0.fresh fresh in
            ready_still s (λ q. both_ways.0) (both_sides.fresh_ready v d k w.1.0 high goal y (was_known e h no_order v o d k x) w.1.1 (lv ∙ ch.number k.slot) both_ways.1 fg (was_put e h idle o d _ pu) s le)
          where
            split : (a1 a2 : Bool) → cond a1 false a2 ≡ true → (a1 ≡ true → ⊥) × (a2 ≡ true)
            split true a2 q = absurd (clash q)
            split false a2 q = (λ w. clash w, q)

  known_id : T.id ≡ inv.ids o
  known_id =
      let w = inv.places.terminal_known p T at in
      w.2 ∙ ap inv.ids (session_one h p w.0 o n w.1 is.newest)

  -- the call closed
  pub closing_inv : Inv P first (record { asked = asked_take room; answer = taken p i g; put = None; took = Some b } ∷ h) (with_terminal P (rest_replies P m) p T')
  closing_inv = replaced_inv P first h m inv e after p o T' (record {
    no_open = no_open;
    no_end = no_end;
    newest = is.newest;
    boot = refl;
    count = refl;
    eight_sessions = inv.places.eight_sessions;
    eight_terminals = length-set m.terminals p (Some T') ∙ inv.places.eight_terminals;
    terminal_here = get_or-set_same m.terminals p (Some T') None (within m.terminals p T at);
    id = ch.id ∙ known_id;
    session_here = inv.places.session_there p o;
    terminal_side = terminal;
    sides_here = sides;
    terminals_away = λ q ne. get_or-set_other m.terminals p q (Some T') None ne;
    sessions_away = λ q ne. refl;
    up = λ q u op ne. up u (elsewhere h o p u q is.newest.0 op ne);
    down = λ q u op ne. down u;
    calls = calls_on e h no_order inv.ids inv.ids (λ u q y. refl) inv.calls;
    waiting = waiting_on e h P m after inv.waiting (λ v u d k x. stood e h no_open d.terminal u) (λ y j. inl j) (λ w k y q tk. absurd (let v : ◌≡◌ {A = ℕ} 0 1 = cc in omega arith)) (λ y j. inl (laws.replies.rest_waited m.replies y j));
    done = done_idle e h P idle (λ d u y r. no_order d y) first m after refl inv.done;
  })
    where
      sides : (S : SessionM) → get_or m.server.sessions p None ≡ Some S → Stands h p o n × (S.id ≡ inv.ids o) × ServerSide (e ∷ h) o S × BothSides (e ∷ h) o T' S
      sides S to =
          let w = server_has P first h m inv p o T S is.newest at to in
          (w.stands, w.id, server S w.server_side, both S w.server_side w.both_sides (rightly S w.stands w.server_side w.both_sides))
