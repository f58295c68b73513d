-- What a history tells once: the call ordered at a time, the session of a time, the first hearing, the run.
use Rattle.std.proofs.Common.{◌≡◌, ℕ, ◌<◌, Bool, false, ◌⊎◌, [], Some, sym, ◌∙◌, subst, inl, inr, ⊎_elim, arith}
use Rattle.std.proofs.lemmas.Bool.{cases_eq, cases_lt}
use Rattle.common.specs.Bytes.{Bytes}
use Rattle.exactly_once.specs.History.{Told, run, aside, asked_order, asked_part, ordered, Event, History, At}
use Rattle.exactly_once.specs.Words.{Call, Ordered, Opened, Session, Open, Heard, HeardBefore, FirstHeard, Ran, RanBefore}
use Rattle.exactly_once.proofs.Times.{at_one}

-- what an event orders
abbrev pub Orders : Event → Call → Type 0
Orders e c = (e.answer ≡ ordered c.slot) × (e.put ≡ Some c.request) × (((room : ℕ) × (e.asked ≡ asked_order c.terminal c.keep c.body room)) ⊎ ((room : ℕ) × (e.asked ≡ asked_part c.terminal c.slot room) × (c.keep ≡ false) × (c.body ≡ [])))

abbrev made : ℕ → ℕ → Bool → Bytes → Bytes → Call
made p s k b r = record { terminal = p; slot = s; keep = k; body = b; request = r }

same_made : (p q s t : ℕ) (k l : Bool) (a b x y : Bytes) → p ≡ q → s ≡ t → k ≡ l → a ≡ b → x ≡ y → made p s k a x ≡ made q t l b y
same_made p q s t k l a b x y e1 e2 e3 e4 e5 = cc

same_call : (c d : Call) → c.terminal ≡ d.terminal → c.slot ≡ d.slot → c.keep ≡ d.keep → c.body ≡ d.body → c.request ≡ d.request → c ≡ d
same_call c d e1 e2 e3 e4 e5 = same_made c.terminal d.terminal c.slot d.slot c.keep d.keep c.body d.body c.request d.request e1 e2 e3 e4 e5

pub orders_one : (e : Event) (c d : Call) → Orders e c → Orders e d → c ≡ d
orders_one e c d p q = go p.2 q.2
  where
    slots : c.slot ≡ d.slot
    slots = let x = p.0 in let y = q.0 in cc

    requests : c.request ≡ d.request
    requests = let x = p.1 in let y = q.1 in cc

    go : (((room : ℕ) × (e.asked ≡ asked_order c.terminal c.keep c.body room)) ⊎ ((room : ℕ) × (e.asked ≡ asked_part c.terminal c.slot room) × (c.keep ≡ false) × (c.body ≡ []))) → (((room : ℕ) × (e.asked ≡ asked_order d.terminal d.keep d.body room)) ⊎ ((room : ℕ) × (e.asked ≡ asked_part d.terminal d.slot room) × (d.keep ≡ false) × (d.body ≡ []))) → c ≡ d
    go (inl x) (inl y) =
        let a = x.1 in
        let b = y.1 in
        same_call c d (cc) slots (cc) (cc) requests
    go (inl x) (inr y) = absurd (let a = x.1 in let b = y.1 in let z : ◌≡◌ {A = ℕ} 0 1 = cc in omega arith)
    go (inr x) (inl y) = absurd (let a = x.1 in let b = y.1 in let z : ◌≡◌ {A = ℕ} 0 1 = cc in omega arith)
    go (inr x) (inr y) =
        let a = x.1 in
        let b = y.1 in
        same_call c d (cc) slots (x.2 ∙ sym y.2) (x.3 ∙ sym y.3) requests

module _ (h : History) where
  -- one call is ordered at a time
  pub ordered_one : (t : ℕ) (c d : Call) → Ordered h t c → Ordered h t d → c ≡ d
  ordered_one t c d p q =
      let same : q.0 ≡ p.0 = at_one h t q.0 p.0 q.1 p.1 in
      let r : Orders q.0 d = (q.2, q.3, q.4) in
      orders_one p.0 c d (p.2, p.3, p.4) (subst (λ e. Orders e d) same r)

  -- one session at a place is the newest before a time
  pub session_one : (p o q t : ℕ) → Session h p o t → Session h p q t → o ≡ q
  session_one p o q t a b =
      ⊎_elim (λ e. e) (λ ne. ⊎_elim (λ lt. absurd (a.2 q lt b.1 b.0)) (λ le. absurd (b.2 o (omega (arith, ne, le)) a.1 a.0)) (cases_lt o q)) (cases_eq o q)

  -- an open call's session is the newest at its place
  pub open_newest : (t o : ℕ) (c : Call) (x : ℕ) → Session h c.terminal o t → Ordered h t c → Open h t c x → Session h c.terminal o x
  open_newest t o c x s k op = (s.0, omega (arith, s.1, op.0), later)
    where
      later : (y : ℕ) → o < y → y < x → Opened h y c.terminal → ⊥
      later y lt gt z =
          ⊎_elim (λ below. s.2 y lt below z) (λ le. ⊎_elim (λ e. clash_at e) (λ ne. op.2 y (omega (arith, le, ne)) gt z) (cases_eq y t)) (cases_lt y t)
        where
          clash_at : y ≡ t → ⊥
          clash_at e =
              let same : z.0 ≡ k.0 = at_one h t z.0 k.0 (subst (λ w. At h w z.0) e z.2) k.1 in
              let a = z.4 in
              let b = k.2 in
              let w : ◌≡◌ {A = ℕ} 0 1 = cc in
              omega arith

  -- hear tells one thing at a time
  pub heard_one : (o q : ℕ) (c d : Call) (x : ℕ) (v w : Told) → Heard h o c x v → Heard h q d x w → v ≡ w
  heard_one o q c d x v w a b =
      let same : a.0 ≡ b.0 = at_one h x a.0 b.0 a.2 b.2 in
      let y = a.3 in
      let z = b.3 in
      cc

  -- the first hearing
  pub first_heard_one : (o : ℕ) (c : Call) (x y : ℕ) (v w : Told) → FirstHeard h o c x v → FirstHeard h o c y w → x ≡ y
  first_heard_one o c x y v w a b =
      ⊎_elim (λ e. e) (λ ne. ⊎_elim (λ lt. absurd (b.1 (x, v, lt, a.0))) (λ le. absurd (a.1 (y, w, omega (arith, ne, le), b.0))) (cases_lt x y)) (cases_eq x y)

  told_one : (o : ℕ) (c : Call) (x y : ℕ) (v w : Told) → FirstHeard h o c x v → FirstHeard h o c y w → v ≡ w
  told_one o c x y v w a b = heard_one o o c c y v w (subst (λ z. Heard h o c z v) (first_heard_one o c x y v w a b) a.0) b.0

  -- the run
  pub ran_one : (o : ℕ) (c : Call) (x y : ℕ) → Ran h o c x → Ran h o c y → x ≡ y
  ran_one o c x y (inl a) (inl b) = first_heard_one o c x y run run a b
  ran_one o c x y (inl a) (inr b) = absurd (let e = told_one o c x b.0 run aside a b.1 in let z : ◌≡◌ {A = ℕ} 0 1 = cc in omega arith)
  ran_one o c x y (inr a) (inl b) = absurd (let e = told_one o c a.0 y aside run a.1 b in let z : ◌≡◌ {A = ℕ} 0 1 = cc in omega arith)
  ran_one o c x y (inr a) (inr b) =
      let same : a.0 ≡ b.0 = first_heard_one o c a.0 b.0 aside aside a.1 b.1 in
      ⊎_elim (λ e. e) (λ ne. ⊎_elim (λ lt. absurd (b.5 x (omega (arith, same, a.2)) lt a.3)) (λ le. absurd (a.5 y (omega (arith, same, b.2)) (omega (arith, ne, le)) b.3)) (cases_lt x y)) (cases_eq x y)

  -- what has run was heard
  pub ran_heard : (o : ℕ) (c : Call) (x : ℕ) → RanBefore h o c x → HeardBefore h o c x
  ran_heard o c x r = go r.2
    where
      go : Ran h o c r.0 → HeardBefore h o c x
      go (inl a) = (r.0, run, r.1, a.0)
      go (inr a) = (a.0, aside, omega (arith, a.2, r.1), a.1.0)

  -- an open gives one place
  pub opened_one : (o p q : ℕ) → Opened h o p → Opened h o q → p ≡ q
  opened_one o p q a b =
      let same : a.0 ≡ b.0 = at_one h o a.0 b.0 a.2 b.2 in
      let x = a.4 in
      let y = b.4 in
      cc
