-- How both ends agree at present: the last five clauses of the promise from the invariant.
use Rattle.std.proofs.Common.{◌≡◌, ℕ, ◌+◌, ◌<◌, ◌≤◌, true, not, ◌⊎◌, ◌↔◌, length, get_or, set, is_some, Some, None, Option, sym, refl, ap, ◌∙◌, subst, inl, inr, ⊎_elim, arith}
use borrow.Author.Tests.{clash}
use Rattle.std.proofs.lemmas.Bool.{cases_lt}
use Rattle.wire.specs.Wire.{SessionId, Request}
use Rattle.common.specs.Search.{when_found}
use Rattle.server.specs.Server.{SlotM, SessionM, session_of, slot_at, new_slot, ServerM, with_session}
use Rattle.terminal.specs.Terminal.{TerminalM, EndM, OpenCall, end_at, is_busy, new_end}
use Rattle.exactly_once.specs.History.{History, Told}
use Rattle.exactly_once.specs.Words.{Call, Ordered, Opened, Stands, Session, Open, HeardBefore, Heard}
use Rattle.exactly_once.specs.Steps.{Parts, Model, terminal_at}
use Rattle.exactly_once.specs.Lived.{ends, end_of, slot_of}
use Rattle.exactly_once.proofs.Messages.{same_request}
use Rattle.exactly_once.proofs.Unique.{ordered_one, session_one, opened_one, open_newest}
use Rattle.exactly_once.proofs.Tables.{some_none, session_found, session_set, session_none, session_tells}
use Rattle.exactly_once.proofs.Invariant.{Known, Close, TerminalSide, ServerSide, BothSides, Inv}

-- nothing is open there
pub at_rest_none : (x : EndM) → not (is_busy x) ≡ true → x.call ≡ None
at_rest_none x e = go x.call e
  where
    go : (c : Option OpenCall) → not (is_some c) ≡ true → c ≡ None
    go None f = refl
    go (Some k) f = absurd (clash f)

pub call_cases : (x : EndM) → (x.call ≡ None) ⊎ ((k : OpenCall) × (x.call ≡ Some k))
call_cases x = go x.call
  where
    go : (c : Option OpenCall) → (c ≡ None) ⊎ ((k : OpenCall) × (c ≡ Some k))
    go None = inl refl
    go (Some k) = inr (k, refl)

module _ (P : Parts) (first : P.service.Content) (h : History) (m : Model P) (inv : Inv P first h m) where
  -- a standing session: its two records, and all that is known of them
  pub record Standing (p o : ℕ) : Type 0 where
    pub T : TerminalM
    pub S : SessionM
    pub terminal : terminal_at P m p ≡ Some T
    pub session : get_or m.server.sessions p None ≡ Some S
    pub TId : T.id ≡ inv.ids o
    pub SId : S.id ≡ inv.ids o
    pub alone : (q : ℕ) (r : SessionM) → get_or m.server.sessions q None ≡ Some r → r.id ≡ S.id → q ≡ p
    pub lookup : session_of m.server T.id ≡ Some S
    pub terminal_side : TerminalSide h o T
    pub server_side : ServerSide h o S
    pub both_sides : BothSides h o T S

  pub standing : (p o : ℕ) → Stands h p o (length h) → Standing p o
  standing p o st = record {
    T = t.0;
    S = s.0;
    terminal = t.1;
    session = s.1;
    TId = t.2;
    SId = s.2;
    alone = alone;
    lookup = session_found m.server p s.0 s.1 alone t.0.id (s.2 ∙ sym t.2);
    terminal_side = inv.terminals p o t.0 new t.1;
    server_side = inv.sessions p o s.0 st s.1;
    both_sides = inv.both p o t.0 s.0 st t.1 s.1;
  }
    where
      new : Session h p o (length h)
      new = inv.places.newest p o st

      t : (T : TerminalM) × (terminal_at P m p ≡ Some T) × (T.id ≡ inv.ids o)
      t = inv.places.terminal_there p o new

      s : (S : SessionM) × (get_or m.server.sessions p None ≡ Some S) × (S.id ≡ inv.ids o)
      s = inv.places.session_there p o st

      alone : (q : ℕ) (r : SessionM) → get_or m.server.sessions q None ≡ Some r → r.id ≡ s.0.id → q ≡ p
      alone q r at e =
          let k = inv.places.session_known q r at in
          let same : k.0 ≡ o = inv.places.apart k.0 o q p k.1.0 st.0 (sym k.2 ∙ e ∙ s.2) in
          opened_one h o q p (subst (λ x. Opened h x q) same k.1.0) st.0

  -- the server with another session, or none, in its place
  abbrev pub placed : ℕ → Option SessionM → ServerM
  placed p x = record { boot = m.server.boot; count = m.server.count; sessions = set m.server.sessions p x }

  pub placed_is : (p o : ℕ) → Stands h p o (length h) → (id : SessionId) (x : Option SessionM) → inv.ids o ≡ id → with_session m.server id x ≡ placed p x
  placed_is p o st id x e = let w = standing p o st in session_set m.server p w.S w.session w.alone id x (w.SId ∙ e)

  -- a record whose session does not stand: the server has none of its id
  pub not_there : (p o : ℕ) (T : TerminalM) → Session h p o (length h) → T.id ≡ inv.ids o → (Stands h p o (length h) → ⊥) → session_of m.server T.id ≡ None
  not_there p o T new id gone = session_none m.server T.id none
    where
      none : (q : ℕ) (r : SessionM) → get_or m.server.sessions q None ≡ Some r → r.id ≡ T.id → ⊥
      none q r at e =
          let k = inv.places.session_known q r at in
          let same : k.0 ≡ o = inv.places.apart k.0 o q p k.1.0 new.0 (sym k.2 ∙ e ∙ id) in
          let q_is : q ≡ p = opened_one h o q p (subst (λ x. Opened h x q) same k.1.0) new.0 in
          gone (subst (λ x. Stands h x o (length h)) q_is (subst (λ x. Stands h q x (length h)) same k.1))

  -- a record whose session the server has: it stands
  pub is_there : (p o : ℕ) (T : TerminalM) → Session h p o (length h) → T.id ≡ inv.ids o → (S : SessionM) → session_of m.server T.id ≡ Some S → Stands h p o (length h)
  is_there p o T new id S e =
      let w = session_tells m.server T.id S e in
      let k = inv.places.session_known w.0 S w.1 in
      let same : k.0 ≡ o = inv.places.apart k.0 o w.0 p k.1.0 new.0 (sym k.2 ∙ w.2 ∙ id) in
      let q_is : w.0 ≡ p = opened_one h o w.0 p (subst (λ x. Opened h x w.0) same k.1.0) new.0 in
      subst (λ x. Stands h x o (length h)) q_is (subst (λ x. Stands h w.0 x (length h)) same k.1)

  -- calls of one session, slot and number are one
  pub same_call : (t u o v : ℕ) (c d : Call) (f g : Request) → Known h t o c f → Known h u v d g → f.id ≡ g.id → f.slot ≡ g.slot → f.number ≡ g.number → (t ≡ u) × (o ≡ v) × (c ≡ d) × (f ≡ g)
  same_call t u o v c d f g x y ids slots numbers =
      let os : o ≡ v = inv.places.apart o v c.terminal d.terminal x.session.0 y.session.0 (sym (inv.calls.named t o c f x) ∙ ids ∙ inv.calls.named u v d g y) in
      let ts : t ≡ u = inv.calls.once t u v c d f g (subst (λ w. Known h t w c f) os x) y slots numbers in
      let cs : c ≡ d = ordered_one h u c d (subst (λ w. Ordered h w c) ts x.ordered) y.ordered in
      (ts, os, cs, same_request f g x.fits x.short y.fits y.short (sym x.message ∙ ap (λ w. w.request) cs ∙ y.message))

  -- and so are calls of one request
  pub one_call : (t u o v : ℕ) (c d : Call) (f g : Request) → Known h t o c f → Known h u v d g → c.request ≡ d.request → (t ≡ u) × (o ≡ v) × (c ≡ d) × (f ≡ g)
  one_call t u o v c d f g x y e =
      let fs : f ≡ g = same_request f g x.fits x.short y.fits y.short (sym x.message ∙ e ∙ y.message) in
      same_call t u o v c d f g x y (ap (λ z. z.id) fs) (ap (λ z. z.slot) fs) (ap (λ z. z.number) fs)

  -- a call is heard after it was ordered
  pub heard_after : (t o : ℕ) (c : Call) (f : Request) (x : ℕ) (w : Told) → Known h t o c f → Heard h o c x w → t < x
  heard_after t o c f x w z y =
      let k = inv.waiting.heard x y.0 w y.1 c.request y.2 y.3 y.4 in
      let same : t ≡ k.0 = (one_call t k.0 o k.1 c k.2 f k.3 z k.4 k.5).0 in
      subst (λ v. v < x) (sym same) k.6

  -- a call whose number is that of a slot with an open call is the open one
  pub held_is : (t o : ℕ) (c : Call) (f : Request) (T : TerminalM) → TerminalSide h o T → Known h t o c f → f.number ≡ (end_at T f.slot).number → (k : OpenCall) → (end_at T f.slot).call ≡ Some k → Open h t c (length h)
  held_is t o c f T side z level k e =
      let w = side.held_open f.slot k e in
      let same = same_call w.0 t o o w.1 c w.2 f w.3 z (inv.calls.named w.0 o w.1 w.2 w.3 ∙ sym (inv.calls.named t o c f z)) w.4 (w.5 ∙ sym level) in
      subst (λ x. Open h t x (length h)) same.2 (subst (λ x. Open h x w.1 (length h)) same.0 w.6)

  -- a call whose id the server has: its session stands
  pub served_there : (t o : ℕ) (c : Call) (f : Request) → Known h t o c f → (S : SessionM) → session_of m.server f.id ≡ Some S → Stands h c.terminal o (length h) × (get_or m.server.sessions c.terminal None ≡ Some S)
  served_there t o c f z S e =
      let w = session_tells m.server f.id S e in
      let k = inv.places.session_known w.0 S w.1 in
      let same : k.0 ≡ o = inv.places.apart k.0 o w.0 c.terminal k.1.0 z.session.0 (sym k.2 ∙ w.2 ∙ inv.calls.named t o c f z) in
      let q_is : w.0 ≡ c.terminal = opened_one h o w.0 c.terminal (subst (λ x. Opened h x w.0) same k.1.0) z.session.0 in
      (subst (λ x. Stands h x o (length h)) q_is (subst (λ x. Stands h w.0 x (length h)) same k.1), subst (λ x. get_or m.server.sessions x None ≡ Some S) q_is w.1)

  module _ (p o s : ℕ) (st : Stands h p o (length h)) where
    abbrev pub now : Standing p o
    now = standing p o st

    pub end_is : end_of P m p s ≡ end_at now.T s
    end_is = ap (when_found new_end (λ (t : TerminalM). end_at t s)) now.terminal

    pub slot_is : slot_of P m p s ≡ slot_at now.S s
    slot_is = ap (when_found new_slot (λ (t : TerminalM). when_found new_slot (λ (x : SessionM). slot_at x s) (session_of m.server t.id))) now.terminal ∙ ap (when_found new_slot (λ (x : SessionM). slot_at x s)) now.lookup

    close : Close (end_at now.T s) (slot_at now.S s)
    close = now.both_sides.close s

    idle : (ends P m).at_rest p s ≡ true → (end_at now.T s).call ≡ None
    idle e = at_rest_none (end_at now.T s) (sym (ap (λ x. not (is_busy x)) end_is) ∙ e)

    -- an open call there is of the same session
    same_session : (t : ℕ) (c : Call) → Ordered h t c → c.terminal ≡ p → Open h t c (length h) → (f : Request) × Known h t o c f
    same_session t c or e op =
        let k = inv.calls.known t c or in
        let here : Session h p k.0 (length h) = subst (λ x. Session h x k.0 (length h)) e (open_newest h t k.0 c (length h) k.2.session or op) in
        let same : k.0 ≡ o = session_one h p k.0 o (length h) here (inv.places.newest p o st) in
        (k.1, subst (λ x. Known h t x c k.1) same k.2)

    none_open : (ends P m).at_rest p s ≡ true → (t : ℕ) (c : Call) → Ordered h t c → c.terminal ≡ p → c.slot ≡ s → Open h t c (length h) → ⊥
    none_open e t c or at_p at_s op =
        let k = same_session t c or at_p op in
        let held = now.terminal_side.open_held t c k.0 k.1 op in
        let slot : k.0.slot ≡ s = k.1.slot ∙ at_s in
        some_none held.0 (sym held.1 ∙ ap (λ x. (end_at now.T x).call) slot ∙ idle e)

    at_rest_then : ((t : ℕ) (c : Call) → Ordered h t c → c.terminal ≡ p → c.slot ≡ s → Open h t c (length h) → ⊥) → (ends P m).at_rest p s ≡ true
    at_rest_then f = ap (λ x. not (is_busy x)) end_is ∙ ⊎_elim (λ e. ap (λ x. not (is_some x)) e) (λ k. absurd (busy k.0 k.1)) (call_cases (end_at now.T s))
      where
        busy : (k : OpenCall) → (end_at now.T s).call ≡ Some k → ⊥
        busy k e =
            let w = now.terminal_side.held_open s k e in
            let place : w.1.terminal ≡ p = opened_one h o w.1.terminal p w.3.session.0 st.0 in
            f w.0 w.1 w.3.ordered place (sym w.3.slot ∙ w.4) w.6

    pub rests : ((ends P m).at_rest p s ≡ true) ↔ ((t : ℕ) (c : Call) → Ordered h t c → c.terminal ≡ p → c.slot ≡ s → Open h t c (length h) → ⊥)
    rests = (none_open, at_rest_then)

    pub equal : (ends P m).at_rest p s ≡ true → (ends P m).terminal_number p s ≡ (ends P m).server_number p s
    equal e =
        let c = close in
        let same : (end_at now.T s).number ≡ (slot_at now.S s).number = omega (arith, c.low, c.free (idle e)) in
        ap (λ (x : EndM). x.number) end_is ∙ same ∙ sym (ap (λ (x : SlotM). x.number) slot_is)

    pub usable_open : (ends P m).at_rest p s ≡ true → (ends P m).usable p s ≡ true → (ends P m).server_open p s ≡ true
    usable_open e u =
        let usable : (end_at now.T s).usable ≡ true = sym (ap (λ (x : EndM). x.usable) end_is) ∙ u in
        ap (λ (x : SlotM). x.is_open) slot_is ∙ ⊎_elim (λ o. o) (λ sh. absurd (some_none sh.call (sym sh.is ∙ idle e))) (now.both_sides.usable_ready s usable)

  module _ (t o : ℕ) (c : Call) (or : Ordered h t c) (op : Open h t c (length h)) (se : Session h c.terminal o t) (st : Stands h c.terminal o (length h)) where
    call_known : (f : Request) × Known h t o c f
    call_known = same_session c.terminal o c.slot st t c or refl op

    abbrev pub here : Standing c.terminal o
    here = standing c.terminal o st

    number_is : call_known.0.number ≡ (end_at here.T c.slot).number
    number_is = (here.terminal_side.open_held t c call_known.0 call_known.1 op).2 ∙ ap (λ x. (end_at here.T x).number) call_known.1.slot

    pub level : HeardBefore h o c (length h) → (ends P m).terminal_number c.terminal c.slot ≡ (ends P m).server_number c.terminal c.slot
    level he =
        let low : call_known.0.number ≤ (slot_at here.S c.slot).number = subst (λ x. call_known.0.number ≤ (slot_at here.S x).number) call_known.1.slot (here.server_side.heard_low t c call_known.0 call_known.1 he) in
        let cl = here.both_sides.close c.slot in
        let same : (end_at here.T c.slot).number ≡ (slot_at here.S c.slot).number = omega (arith, cl.low, low, number_is) in
        ap (λ (x : EndM). x.number) (end_is c.terminal o c.slot st) ∙ same ∙ sym (ap (λ (x : SlotM). x.number) (slot_is c.terminal o c.slot st))

    pub ahead : (HeardBefore h o c (length h) → ⊥) → (ends P m).terminal_number c.terminal c.slot ≡ (ends P m).server_number c.terminal c.slot + 1
    ahead un =
        let cl = here.both_sides.close c.slot in
        let high : (slot_at here.S c.slot).number < call_known.0.number = ⊎_elim (λ lt. lt) (λ le. absurd (un (here.server_side.low_heard t c call_known.0 call_known.1 (subst (λ x. call_known.0.number ≤ (slot_at here.S x).number) (sym call_known.1.slot) le)))) (cases_lt (slot_at here.S c.slot).number call_known.0.number) in
        let same : (end_at here.T c.slot).number ≡ (slot_at here.S c.slot).number + 1 = omega (arith, cl.near, high, number_is) in
        ap (λ (x : EndM). x.number) (end_is c.terminal o c.slot st) ∙ same ∙ sym (ap (λ (x : SlotM). x.number + 1) (slot_is c.terminal o c.slot st))
