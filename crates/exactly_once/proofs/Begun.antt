-- An accepted order or part keeps the invariant: a call begun at a slot that was ready.
use Rattle.std.proofs.Common.{◌≡◌, ℕ, suc, ◌+◌, ◌^◌, ◌<◌, ◌≤◌, true, ltb, ◌≢◌, ◌⊎◌, [], ◌∷◌, length, get_or, Some, None, sym, refl, ap, ◌∙◌, subst, inl, inr, ⊎_elim, arith}
use Rattle.std.proofs.lemmas.List.{get_or-set_same, get_or-set_other, length-set}
use Rattle.common.specs.Bytes.{Bytes}
use Rattle.wire.specs.Wire.{Request, request_message, reply_message, FitsRequest}
use Rattle.server.specs.Server.{SessionM, slot_at}
use Rattle.terminal.specs.Terminal.{TerminalM, OpenCall, Effect, end_at, with_end, begun, call_request, new_end}
use Rattle.exactly_once.specs.History.{Asked, ordered, Event, History}
use Rattle.exactly_once.specs.Words.{Call, Ordered, Session, Stands, Open, HeardBefore, RanBefore}
use Rattle.exactly_once.specs.Steps.{Parts, Model, terminal_at, put_request, with_terminal}
use Rattle.exactly_once.specs.Lived.{PartsLaws}
use Rattle.exactly_once.proofs.Messages.{same_request}
use Rattle.exactly_once.proofs.Tables.{some_same, some_none, at_each, within}
use Rattle.exactly_once.proofs.Unique.{Orders, orders_one, session_one, ran_heard}
use Rattle.exactly_once.proofs.Newest.{Opens, EndsSession, Replies, ordered_new, ordered_now, session_old, session_kept, open_now, open_still, heard_still, ran_still}
use Rattle.exactly_once.proofs.Invariant.{Known, Put, result, Holds, Close, Ready, Calls, TerminalSide, ServerSide, BothSides, Inv}
use Rattle.exactly_once.proofs.Carry.{CarriesAt, known_up, known_new, put_still, aside_still, holds_moved}
use Rattle.exactly_once.proofs.Quiet.{took_none}
use Rattle.exactly_once.proofs.Unchanged.{Idle, stood, was_open, was_heard, had_run, was_put, was_aside, waiting_on, done_idle}
use Rattle.exactly_once.proofs.Replaced.{elsewhere, server_has, replaced_inv}

-- what a call begun at slot i must be
pub record FitCall (T : TerminalM) (i : ℕ) (k : OpenCall) : Type 0 where
  pub slot : i ≤ 15
  pub rest : (end_at T i).call ≡ None
  pub usable : (end_at T i).usable ≡ true
  pub next : (end_at T i).number < 4294967295
  pub highest : k.highest ≤ 15
  pub part : k.part ≡ ltb k.highest i
  pub bare : k.part ≡ true → k.body ≡ []
  pub form : (i ≤ k.highest) ⊎ (k.body ≡ [])
  pub short : length k.body ≤ 256

module _ (P : Parts) (laws : PartsLaws P) (first : P.service.Content) (h : History) (m : Model P) (inv : Inv P first h m) (p : ℕ) (T : TerminalM) (at : terminal_at P m p ≡ Some T) (i : ℕ) (k : OpenCall) (fit : FitCall T i k) (a : Asked) where
  -- the call, its fields and its event
  abbrev F : Request
  F = call_request T i ((end_at T i).number + 1) k

  abbrev C : Call
  C = record { terminal = p; slot = i; keep = k.keep; body = k.body; request = request_message F }

  abbrev e : Event
  e = record { asked = a; answer = ordered i; put = Some (request_message F); took = None }

  abbrev T' : TerminalM
  T' = with_end T i (begun (end_at T i) k)

  abbrev n : ℕ
  n = length h

  abbrev after : Model P
  after = put_request P (with_terminal P m p T') (request_message F)

  no_open : (q : ℕ) → Opens e q → ⊥
  no_open q z = let x = z.2 in let w : ◌≡◌ {A = ℕ} 0 1 = cc in omega arith

  no_end : (q : ℕ) → EndsSession e q → ⊥
  no_end q z = let x = z.1 in let w : ◌≡◌ {A = ℕ} 0 1 = cc in omega arith

  no_reply : (c : Call) (g : Effect) → Replies e c g → ⊥
  no_reply c g z = let x = z.2 in let w : ◌≡◌ {A = ℕ} 0 1 = cc in omega arith

  idle : Idle e
  idle = record { no_hear = λ c w z. took_none c.request z.2; no_resume = λ q s z. (let x = z.2 in let w : ◌≡◌ {A = ℕ} 0 1 = cc in omega arith) }

  here : (o : ℕ) × Session h p o n × (T.id ≡ inv.ids o)
  here = inv.places.terminal_known p T at

  abbrev o : ℕ
  o = here.0

  side : TerminalSide h o T
  side = inv.terminals p o T here.1 at

  fits : FitsRequest F
  fits =
      let c = inv.places.counted o p here.1.0 in
      let b = inv.places.boot_fits in
      let g = inv.places.count_fits in
      let x : T.id.boot ≡ (inv.ids o).boot = ap (λ y. y.boot) here.2 in
      let y : T.id.count ≡ (inv.ids o).count = ap (λ z. z.count) here.2 in
      let s = fit.slot in
      let t = fit.next in
      let v = fit.highest in
      (record { boot = subst (λ z. z < 2 ^ 64) (sym (x ∙ c.0)) b; count = subst (λ z. z < 2 ^ 64) (sym y) (below (inv.ids o).count m.server.count c.1 g); number_fits = omega arith; slot_fits = omega arith }, omega arith)
    where
      below : (x y : ℕ) → x < y → y < 2 ^ 64 → x < 2 ^ 64
      below x y l g = omega arith

  -- an older call of the same session has a lower number at this slot
  older : (t : ℕ) (c : Call) (g : Request) → Known h t o c g → g.slot ≡ i → g.number ≡ (end_at T i).number + 1 → ⊥
  older t c g z es en = omega (arith, subst (λ x. g.number ≤ (end_at T x).number) es (side.low t c g z), en)

  -- its request was never heard
  unheard : (u : ℕ) → HeardBefore h u C n → ⊥
  unheard u b =
      let w = inv.waiting.heard b.0 b.3.0 b.1 b.3.1 (request_message F) b.3.2 b.3.3 b.3.4 in
      let g = w.3 in
      let same : g ≡ F = same_request g F w.4.fits w.4.short fits fit.short (sym w.4.message ∙ sym w.5) in
      let ids : inv.ids w.1 ≡ inv.ids o = sym (inv.calls.named w.0 w.1 w.2 g w.4) ∙ ap (λ x. x.id) same ∙ here.2 in
      let os : w.1 ≡ o = inv.places.apart w.1 o w.2.terminal p w.4.session.0 here.1.0 ids in
      older w.0 w.2 g (subst (λ x. Known h w.0 x w.2 g) os w.4) (ap (λ x. x.slot) same) (ap (λ x. x.number) same)

  unrun : (u : ℕ) → RanBefore h u C n → ⊥
  unrun u r = unheard u (ran_heard h u C n r)

  module _ (orders : Orders e C) where
    knownC : Known (e ∷ h) n o C F
    knownC = record { ordered = ordered_now e h C orders; session = session_kept e h p o n (omega arith) here.1; message = refl; slot = refl; keep = refl; body = refl; fits = fits; short = fit.short }

    cases : (t u : ℕ) (c : Call) (f : Request) → Known (e ∷ h) t u c f → Known h t u c f ⊎ ((t ≡ n) × (u ≡ o) × (c ≡ C) × (f ≡ F))
    cases t u c f z = ⊎_elim (λ q. inr (new q)) inl (known_new e h t u c f z)
      where
        new : (t ≡ n) × Orders e c → (t ≡ n) × (u ≡ o) × (c ≡ C) × (f ≡ F)
        new q =
            let cs : c ≡ C = orders_one e c C q.1 orders in
            let s1 : Session (e ∷ h) c.terminal u n = subst (λ x. Session (e ∷ h) c.terminal u x) q.0 z.session in
            let s2 : Session h p u n = session_old e h p u n (omega arith) (subst (λ x. Session (e ∷ h) x.terminal u n) cs s1) in
            (q.0, session_one h p u o n s2 here.1, cs, same_request f F z.fits z.short fits fit.short (sym z.message ∙ ap (λ x. x.request) cs))

    -- of each call known after: the new one, or one known before
    split : (Q : ℕ → ℕ → Call → Request → Type 0) → Q n o C F → ((t u : ℕ) (c : Call) (f : Request) → Known h t u c f → Q t u c f) → (t u : ℕ) (c : Call) (f : Request) → Known (e ∷ h) t u c f → Q t u c f
    split Q new old t u c f z = ⊎_elim (old t u c f) (λ q. subst (λ x. Q x u c f) (sym q.0) (subst (λ x. Q n x c f) (sym q.1) (subst (λ x. Q n o x f) (sym q.2) (subst (λ x. Q n o C x) (sym q.3) new)))) (cases t u c f z)

    up : (u : ℕ) → CarriesAt u h (e ∷ h)
    up u = record {
      known = λ t c f. known_up e h t u c f;
      open_calls = λ t c f z x. open_still e h t c x (no_reply c) (no_open c.terminal);
      heard = λ t c f z. heard_still e h u c;
      ran = λ t c f z. ran_still e h u c;
      put = λ t c f b z. put_still e h u c b;
      set_aside = λ t c f z x. aside_still e h u c x (idle.no_resume c.terminal c.slot);
    }

    down : (u : ℕ) → (u ≡ o → ⊥) → CarriesAt u (e ∷ h) h
    down u ne = record {
      known = back;
      open_calls = λ t c f z x. (was_open e h t u c f (back t c f z) x).0;
      heard = λ t c f z. was_heard e h idle u c;
      ran = λ t c f z. had_run e h idle u c;
      put = λ t c f b z. was_put e h idle u c b;
      set_aside = λ t c f z. was_aside e h idle u c;
    }
      where
        back : (t : ℕ) (c : Call) (f : Request) → Known (e ∷ h) t u c f → Known h t u c f
        back t c f z = ⊎_elim (λ x. x) (λ q. absurd (ne q.1)) (cases t u c f z)

    inside : i < length T.slots
    inside = omega (arith, side.sixteen, fit.slot)

    there : end_at T' i ≡ begun (end_at T i) k
    there = get_or-set_same T.slots i (begun (end_at T i) k) new_end inside

    away : (s : ℕ) → s ≢ i → end_at T' s ≡ end_at T s
    away s ne = get_or-set_other T.slots i s (begun (end_at T i) k) new_end ne

    calls : Calls (e ∷ h) inv.ids
    calls = record {
      known = known;
      named = split (λ t u c f. f.id ≡ inv.ids u) here.2 inv.calls.named;
      numbered = split (λ t u c f. 1 ≤ f.number) (omega arith) inv.calls.numbered;
      placed = split (λ t u c f. (f.slot ≤ 15) × (f.highest ≤ 15)) (fit.slot, fit.highest) inv.calls.placed;
      formed = split (λ t u c f. (f.slot ≤ f.highest) ⊎ (f.body ≡ [])) fit.form inv.calls.formed;
      once = once;
    }
      where
        known : (t : ℕ) (c : Call) → Ordered (e ∷ h) t c → (u : ℕ) × (f : Request) × Known (e ∷ h) t u c f
        known t c z = ⊎_elim new (λ q. (let w = inv.calls.known t c q.1 in (w.0, w.1, known_up e h t w.0 c w.1 w.2))) (ordered_new e h t c z)
          where
            new : (t ≡ n) × Orders e c → (u : ℕ) × (f : Request) × Known (e ∷ h) t u c f
            new q = (o, F, subst (λ x. Known (e ∷ h) x o c F) (sym q.0) (subst (λ x. Known (e ∷ h) n o x F) (sym (orders_one e c C q.1 orders)) knownC))

        once : (t v u : ℕ) (c d : Call) (f g : Request) → Known (e ∷ h) t u c f → Known (e ∷ h) v u d g → f.slot ≡ g.slot → f.number ≡ g.number → t ≡ v
        once t v u c d f g x y es en = go (cases t u c f x) (cases v u d g y)
          where
            go : Known h t u c f ⊎ ((t ≡ n) × (u ≡ o) × (c ≡ C) × (f ≡ F)) → Known h v u d g ⊎ ((v ≡ n) × (u ≡ o) × (d ≡ C) × (g ≡ F)) → t ≡ v
            go (inl z) (inl w) = inv.calls.once t v u c d f g z w es en
            go (inr z) (inr w) = z.0 ∙ sym w.0
            go (inl z) (inr w) = absurd (older t c f (subst (λ r. Known h t r c f) w.1 z) (es ∙ ap (λ r. r.slot) w.3) (en ∙ ap (λ r. r.number) w.3))
            go (inr z) (inl w) = absurd (older v d g (subst (λ r. Known h v r d g) z.1 w) (sym es ∙ ap (λ r. r.slot) z.3) (sym en ∙ ap (λ r. r.number) z.3))

    grows : (s : ℕ) → (end_at T s).number ≤ (end_at T' s).number
    grows = at_each (λ s x. (end_at T s).number ≤ x.number) T.slots i (begun (end_at T i) k) new_end inside (omega arith) (λ s ne. omega arith)

    terminal : TerminalSide (e ∷ h) o T'
    terminal = record {
      sixteen = length-set T.slots i _ ∙ side.sixteen;
      bound = at_each (λ s x. x.number ≤ 4294967295) T.slots i (begun (end_at T i) k) new_end inside (omega (arith, fit.next)) (λ s ne. side.bound s);
      low = λ t c f z. low t o c f z refl;
      open_held = λ t c f z. open_held t o c f z refl;
      held_open = at_each (λ s x. (j : OpenCall) → x.call ≡ Some j → (t : ℕ) × (c : Call) × (f : Request) × Known (e ∷ h) t o c f × (f.slot ≡ s) × (f.number ≡ x.number) × Open (e ∷ h) t c (suc n)) T.slots i (begun (end_at T i) k) new_end inside (λ j g. (n, C, F, knownC, refl, refl, open_now e h C)) (λ s ne j g. (let w = side.held_open s j g in (w.0, w.1, w.2, known_up e h w.0 o w.1 w.2 w.3, w.4, w.5, (up o).open_calls w.0 w.1 w.2 w.3 w.6)));
      held_usable = at_each (λ s x. (j : OpenCall) → x.call ≡ Some j → x.usable ≡ true) T.slots i (begun (end_at T i) k) new_end inside (λ j g. fit.usable) (λ s ne. side.held_usable s);
      held_part = at_each (λ s x. (j : OpenCall) → x.call ≡ Some j → (j.part ≡ ltb j.highest s) × (j.part ≡ true → j.body ≡ [])) T.slots i (begun (end_at T i) k) new_end inside (λ j g. subst (λ y. (y.part ≡ ltb y.highest i) × (y.part ≡ true → y.body ≡ [])) (some_same k j g) (fit.part, fit.bare)) (λ s ne. side.held_part s);
    }
      where
        low : (t u : ℕ) (c : Call) (f : Request) → Known (e ∷ h) t u c f → u ≡ o → f.number ≤ (end_at T' f.slot).number
        low = split (λ t u c f. u ≡ o → f.number ≤ (end_at T' f.slot).number) (λ z. subst (λ x. (end_at T i).number + 1 ≤ x.number) (sym there) (omega arith)) (λ t u c f z es. omega (arith, side.low t c f (subst (λ x. Known h t x c f) es z), grows f.slot))

        open_held : (t u : ℕ) (c : Call) (f : Request) → Known (e ∷ h) t u c f → u ≡ o → Open (e ∷ h) t c (suc n) → (j : OpenCall) × ((end_at T' f.slot).call ≡ Some j) × (f.number ≡ (end_at T' f.slot).number) × (j.highest ≡ f.highest) × (j.keep ≡ f.keep) × (j.body ≡ f.body)
        open_held = split (λ t u c f. u ≡ o → Open (e ∷ h) t c (suc n) → (j : OpenCall) × ((end_at T' f.slot).call ≡ Some j) × (f.number ≡ (end_at T' f.slot).number) × (j.highest ≡ f.highest) × (j.keep ≡ f.keep) × (j.body ≡ f.body)) (λ es op. (k, ap (λ x. x.call) there, sym (ap (λ x. x.number) there), refl, refl, refl)) old
          where
            old : (t u : ℕ) (c : Call) (f : Request) → Known h t u c f → u ≡ o → Open (e ∷ h) t c (suc n) → (j : OpenCall) × ((end_at T' f.slot).call ≡ Some j) × (f.number ≡ (end_at T' f.slot).number) × (j.highest ≡ f.highest) × (j.keep ≡ f.keep) × (j.body ≡ f.body)
            old t u c f z es op =
                let w = side.open_held t c f (subst (λ x. Known h t x c f) es z) (was_open e h t u c f z op).0 in
                let ne : f.slot ≢ i = λ is. some_none w.0 (sym w.1 ∙ ap (λ x. (end_at T x).call) is ∙ fit.rest) in
                (w.0, ap (λ x. x.call) (away f.slot ne) ∙ w.1, w.2 ∙ sym (ap (λ x. x.number) (away f.slot ne)), w.3, w.4, w.5)

    -- the session at p, if it stands
    module _ (S : SessionM) (server_side : ServerSide h o S) (both_sides : BothSides h o T S) where
      above : (slot_at S i).number ≤ (end_at T i).number
      above = (both_sides.close i).low

      server : ServerSide (e ∷ h) o S
      server = record {
        sixteen = server_side.sixteen;
        target = server_side.target;
        target_open = server_side.target_open;
        heard_low = λ t c f z. heard_low t o c f z refl;
        low_heard = λ t c f z. low_heard t o c f z refl;
        older_ran = λ t c f z. older_ran t o c f z refl;
        last_holds = λ t c f z. last_holds t o c f z refl;
        last_known = λ s le. (let w = server_side.last_known s le in (w.0, w.1, w.2, known_up e h w.0 o w.1 w.2 w.3, w.4, w.5));
        unused = server_side.unused;
      }
        where
          heard_low : (t u : ℕ) (c : Call) (f : Request) → Known (e ∷ h) t u c f → u ≡ o → HeardBefore (e ∷ h) u c (suc n) → f.number ≤ (slot_at S f.slot).number
          heard_low = split (λ t u c f. u ≡ o → HeardBefore (e ∷ h) u c (suc n) → f.number ≤ (slot_at S f.slot).number) (λ es b. absurd (unheard o (was_heard e h idle o C b))) (λ t u c f z es b. server_side.heard_low t c f (subst (λ x. Known h t x c f) es z) (subst (λ x. HeardBefore h x c n) es (was_heard e h idle u c b)))

          low_heard : (t u : ℕ) (c : Call) (f : Request) → Known (e ∷ h) t u c f → u ≡ o → f.number ≤ (slot_at S f.slot).number → HeardBefore (e ∷ h) o c (suc n)
          low_heard = split (λ t u c f. u ≡ o → f.number ≤ (slot_at S f.slot).number → HeardBefore (e ∷ h) o c (suc n)) (λ es le. absurd (omega (arith, above, le))) (λ t u c f z es le. heard_still e h o c (server_side.low_heard t c f (subst (λ x. Known h t x c f) es z) le))

          older_ran : (t u : ℕ) (c : Call) (f : Request) → Known (e ∷ h) t u c f → u ≡ o → f.number < (slot_at S f.slot).number → RanBefore (e ∷ h) o c (suc n)
          older_ran = split (λ t u c f. u ≡ o → f.number < (slot_at S f.slot).number → RanBefore (e ∷ h) o c (suc n)) (λ es le. absurd (omega (arith, above, le))) (λ t u c f z es le. ran_still e h o c (server_side.older_ran t c f (subst (λ x. Known h t x c f) es z) le))

          last_holds : (t u : ℕ) (c : Call) (f : Request) → Known (e ∷ h) t u c f → u ≡ o → f.number ≡ (slot_at S f.slot).number → Holds (e ∷ h) o c f (slot_at S f.slot)
          last_holds = split (λ t u c f. u ≡ o → f.number ≡ (slot_at S f.slot).number → Holds (e ∷ h) o c f (slot_at S f.slot)) (λ es le. absurd (omega (arith, above, le))) (λ t u c f z es le. holds_moved o c f (slot_at S f.slot) (put_still e h o c) (ran_still e h o c) (had_run e h idle o c) (λ x. aside_still e h o c x (idle.no_resume c.terminal c.slot)) (server_side.last_holds t c f (subst (λ x. Known h t x c f) es z) le))

      -- nothing shuts a slot at rest
      opened_here : Ready i (end_at T i) (slot_at S i) → (slot_at S i).is_open ≡ true
      opened_here (inl x) = x
      opened_here (inr x) = absurd (some_none x.call (sym x.is ∙ fit.rest))

      ready_still : (s : ℕ) → Ready s (end_at T s) (slot_at S s) → Ready s (end_at T' s) (slot_at S s)
      ready_still = at_each (λ s x. Ready s (end_at T s) (slot_at S s) → Ready s x (slot_at S s)) T.slots i (begun (end_at T i) k) new_end inside (λ r. inl (opened_here r)) (λ s ne r. r)

      both : BothSides (e ∷ h) o T' S
      both = record {
        close = at_each (λ s x. Close x (slot_at S s)) T.slots i (begun (end_at T i) k) new_end inside close_here (λ s ne. both_sides.close s);
        usable_ready = at_each (λ s x. x.usable ≡ true → Ready s x (slot_at S s)) T.slots i (begun (end_at T i) k) new_end inside (λ u. inl (opened_here (both_sides.usable_ready i u))) (λ s ne. both_sides.usable_ready s);
        fresh_ready = λ t c f j high goal b z. fresh_ready t o c f z refl j high goal b;
      }
        where
          close_here : Close (begun (end_at T i) k) (slot_at S i)
          close_here =
              let x = both_sides.close i in
              let y = x.free fit.rest in
              record { low = omega (arith, x.low); near = omega (arith, y); free = λ z. absurd (some_none k z) }

          fresh_ready : (t u : ℕ) (c : Call) (f : Request) → Known (e ∷ h) t u c f → u ≡ o → (j : OpenCall) (high goal : ℕ) (b : Bytes) → (end_at T' f.slot).call ≡ Some j → f.number ≡ (end_at T' f.slot).number → j.fresh ≡ true → goal ≤ 15 → Put (e ∷ h) o c (reply_message (result f high goal b)) → (s : ℕ) → s ≤ goal → Ready s (end_at T' s) (slot_at S s)
          fresh_ready = split (λ t u c f. u ≡ o → (j : OpenCall) (high goal : ℕ) (b : Bytes) → (end_at T' f.slot).call ≡ Some j → f.number ≡ (end_at T' f.slot).number → j.fresh ≡ true → goal ≤ 15 → Put (e ∷ h) o c (reply_message (result f high goal b)) → (s : ℕ) → s ≤ goal → Ready s (end_at T' s) (slot_at S s)) (λ es j high goal b he lv fr fg pu s le. absurd (let w = was_put e h idle o C _ pu in unrun o (w.0, w.2, w.3))) old
            where
              old : (t u : ℕ) (c : Call) (f : Request) → Known h t u c f → u ≡ o → (j : OpenCall) (high goal : ℕ) (b : Bytes) → (end_at T' f.slot).call ≡ Some j → f.number ≡ (end_at T' f.slot).number → j.fresh ≡ true → goal ≤ 15 → Put (e ∷ h) o c (reply_message (result f high goal b)) → (s : ℕ) → s ≤ goal → Ready s (end_at T' s) (slot_at S s)
              old t u c f z es j high goal b he lv fr fg pu s le =
                  let w : Known h t o c f = subst (λ x. Known h t x c f) es z in
                  let ne : f.slot ≢ i = λ is. older t c f w is (lv ∙ ap (λ x. (end_at T' x).number) is ∙ ap (λ x. x.number) there) in
                  ready_still s (both_sides.fresh_ready t c f j high goal b w (sym (ap (λ x. x.call) (away f.slot ne)) ∙ he) (lv ∙ ap (λ x. x.number) (away f.slot ne)) fr fg (was_put e h idle o c _ pu) s le)

    -- the call begun
    pub begun_inv : Inv P first (record { asked = a; answer = ordered i; put = Some (request_message (call_request T i ((end_at T i).number + 1) k)); took = None } ∷ h) (put_request P (with_terminal P m p (with_end T i (begun (end_at T i) k))) (request_message (call_request T i ((end_at T i).number + 1) k)))
    begun_inv = replaced_inv P first h m inv e after p o T' (record {
      no_open = no_open;
      no_end = no_end;
      newest = here.1;
      boot = refl;
      count = refl;
      eight_sessions = inv.places.eight_sessions;
      eight_terminals = length-set m.terminals p (Some T') ∙ inv.places.eight_terminals;
      terminal_here = get_or-set_same m.terminals p (Some T') None (within m.terminals p T at);
      id = here.2;
      session_here = inv.places.session_there p o;
      terminal_side = terminal;
      sides_here = sides;
      terminals_away = λ q ne. get_or-set_other m.terminals p q (Some T') None ne;
      sessions_away = λ q ne. refl;
      up = λ q u op ne. up u;
      down = λ q u op ne. down u (elsewhere h o p u q here.1.0 op ne);
      calls = calls;
      waiting = waiting_on e h P m after inv.waiting (λ t u c f z. stood e h no_open c.terminal u) (λ b j. ⊎_elim (λ q. inr (n, o, C, F, knownC, q.0)) inl (laws.requests.put_keeps m.requests (request_message F) b j)) (λ w room b x y. absurd (took_none b y)) (λ b j. inl j);
      done = done_idle e h P idle (λ c u z r. unrun u (subst (λ x. RanBefore h u x n) (orders_one e c C z orders) r)) first m after refl inv.done;
    })
      where
        sides : (S : SessionM) → get_or m.server.sessions p None ≡ Some S → Stands h p o n × (S.id ≡ inv.ids o) × ServerSide (e ∷ h) o S × BothSides (e ∷ h) o T' S
        sides S to =
            let w = server_has P first h m inv p o T S here.1 at to in
            (w.stands, w.id, server S w.server_side w.both_sides, both S w.server_side w.both_sides)
