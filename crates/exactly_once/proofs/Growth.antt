-- Two histories alike below a time: each word about earlier times is the same for both.
use Rattle.std.proofs.Common.{ℕ, ◌<◌, ◌≤◌, ◌∷◌, length, inl, inr, arith}
use Rattle.terminal.specs.Terminal.{Effect}
use Rattle.exactly_once.specs.History.{Told, run, aside, Event, History, At}
use Rattle.exactly_once.specs.Words.{Call, Ordered, Opened, ClosedSession, Stands, Session, ReplyCloses, Open, Closed, Heard, HeardBefore, FirstHeard, Resumed, Ran, RanBefore}
use Rattle.exactly_once.proofs.Times.{at_older}

-- the same events before time n
pub record Alike (n : ℕ) (h k : History) : Type 0 where
  pub there : (t : ℕ) (e : Event) → t < n → At h t e → At k t e
  pub back : (t : ℕ) (e : Event) → t < n → At k t e → At h t e

pub flip : {n : ℕ} {h k : History} → Alike n h k → Alike n k h
flip a = record { there = a.back; back = a.there }

-- a history and that with one event more
pub grown : (x : Event) (h : History) → Alike (length h) h (x ∷ h)
grown x h = record { there = λ t e lt a. inr a; back = λ t e lt a. at_older x h t e lt a }

module _ {n : ℕ} {h k : History} where
  pub ordered : Alike n h k → (t : ℕ) (c : Call) → t < n → Ordered h t c → Ordered k t c
  ordered a t c lt o = (o.0, a.there t o.0 lt o.1, o.2, o.3, o.4)

  pub opened : Alike n h k → (t p : ℕ) → t < n → Opened h t p → Opened k t p
  opened a t p lt o = (o.0, o.1, a.there t o.0 lt o.2, o.3, o.4)

  pub closed_session : Alike n h k → (t p : ℕ) → t < n → ClosedSession h t p → ClosedSession k t p
  closed_session a t p lt o = (o.0, a.there t o.0 lt o.1, o.2, o.3)

  pub reply_closes : Alike n h k → (c : Call) (x : ℕ) (f : Effect) → x < n → ReplyCloses h c x f → ReplyCloses k c x f
  reply_closes a c x f lt o = (o.0, o.1, a.there x o.0 lt o.2, o.3, o.4, o.5)

  pub resumed : Alike n h k → (p s x : ℕ) → x < n → Resumed h p s x → Resumed k p s x
  resumed a p s x lt o = (o.0, o.1, a.there x o.0 lt o.2, o.3, o.4)

module _ {n : ℕ} {h k : History} (a : Alike n h k) where
  pub stands : (p o t : ℕ) → t ≤ n → Stands h p o t → Stands k p o t
  stands p o t le s = (opened a o p (omega (arith, le, s.1)) s.0, s.1, λ x lt gt z. s.2 x lt gt (closed_session (flip a) x p (omega (arith, le, gt)) z))

  pub session : (p o t : ℕ) → t ≤ n → Session h p o t → Session k p o t
  session p o t le s = (opened a o p (omega (arith, le, s.1)) s.0, s.1, λ x lt gt z. s.2 x lt gt (opened (flip a) x p (omega (arith, le, gt)) z))

  pub still_open : (t : ℕ) (c : Call) (x : ℕ) → x ≤ n → Open h t c x → Open k t c x
  still_open t c x le o =
      (o.0, λ y f lt gt z. o.1 y f lt gt (reply_closes (flip a) c y f (omega (arith, le, gt)) z), λ y lt gt z. o.2 y lt gt (opened (flip a) y c.terminal (omega (arith, le, gt)) z))

  pub closed : (t : ℕ) (c : Call) (x : ℕ) (f : Effect) → x < n → Closed h t c x f → Closed k t c x f
  closed t c x f lt o = (still_open t c x (omega (arith, lt)) o.0, reply_closes a c x f lt o.1)

  pub heard : (o : ℕ) (c : Call) (x : ℕ) (w : Told) → x < n → Heard h o c x w → Heard k o c x w
  heard o c x w lt z = (z.0, z.1, a.there x z.0 lt z.2, z.3, z.4, stands c.terminal o x (omega (arith, lt)) z.5)

  pub heard_before : (o : ℕ) (c : Call) (x : ℕ) → x ≤ n → HeardBefore h o c x → HeardBefore k o c x
  heard_before o c x le z = (z.0, z.1, z.2, heard o c z.0 z.1 (omega (arith, le, z.2)) z.3)

module _ {n : ℕ} {h k : History} (a : Alike n h k) where
  pub first_heard : (o : ℕ) (c : Call) (x : ℕ) (w : Told) → x < n → FirstHeard h o c x w → FirstHeard k o c x w
  first_heard o c x w lt z = (heard a o c x w lt z.0, λ b. z.1 (heard_before (flip a) o c x (omega (arith, lt)) b))

  pub ran : (o : ℕ) (c : Call) (x : ℕ) → x < n → Ran h o c x → Ran k o c x
  ran o c x lt (inl z) = inl (first_heard o c x run lt z)
  ran o c x lt (inr z) =
      inr (z.0, first_heard o c z.0 aside (omega (arith, lt, z.2)) z.1, z.2, resumed a c.terminal c.slot x lt z.3, stands a c.terminal o x (omega (arith, lt)) z.4, λ y gt le r. z.5 y gt le (resumed (flip a) c.terminal c.slot y (omega (arith, le, lt)) r))

  pub ran_before : (o : ℕ) (c : Call) (x : ℕ) → x ≤ n → RanBefore h o c x → RanBefore k o c x
  ran_before o c x le z = (z.0, z.1, ran o c z.0 (omega (arith, le, z.1)) z.2)
