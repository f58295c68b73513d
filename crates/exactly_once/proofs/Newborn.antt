-- A session just opened: both its ends are at rest, no call of it was ordered, and what the invariant asks of it.
use Rattle.std.proofs.Common.{◌≡◌, ℕ, ◌+◌, ◌<◌, ◌≤◌, true, replicate, Some, sym, refl, ap, ◌∙◌, subst, inl, ⊎_elim, arith}
use borrow.Author.Tests.{clash}
use Rattle.std.proofs.lemmas.Bool.{cases_lt}
use Rattle.wire.specs.Wire.{SessionId, Request}
use Rattle.server.specs.Server.{SlotM, SessionM, never, slot_at, new_slot, with_open, new_session}
use Rattle.terminal.specs.Terminal.{TerminalM, EndM, OpenCall, end_at, new_end, with_usable, new_terminal}
use Rattle.exactly_once.specs.History.{History}
use Rattle.exactly_once.specs.Words.{Call}
use Rattle.exactly_once.proofs.Tables.{some_none, rest_of, front_inside, front_outside, front_length}
use Rattle.exactly_once.proofs.Invariant.{Known, Close, Ready, TerminalSide, ServerSide, BothSides}

module _ (id : SessionId) (target : ℕ) (low : target ≤ 15) where
  abbrev T : TerminalM
  T = new_terminal id target

  abbrev S : SessionM
  S = new_session id target

  -- what holds of both ends of each slot: those up to the target, and those above
  each_slot : (Q : ℕ → EndM → SlotM → Type 0) → ((s : ℕ) → s ≤ target → Q s (with_usable true new_end) (with_open true new_slot)) → ((s : ℕ) → target < s → Q s new_end new_slot) → (s : ℕ) → Q s (end_at T s) (slot_at S s)
  each_slot Q below above s = ⊎_elim beyond up_to (cases_lt target s)
    where
      up_to : s ≤ target → Q s (end_at T s) (slot_at S s)
      up_to le =
          let x : end_at T s ≡ with_usable true new_end = front_inside (with_usable true) (target + 1) (replicate 16 new_end) s new_end (omega (arith, le)) (omega (arith, le, low)) ∙ ap (with_usable true) (rest_of 16 s new_end) in
          let y : slot_at S s ≡ with_open true new_slot = front_inside (with_open true) (target + 1) (replicate 16 new_slot) s new_slot (omega (arith, le)) (omega (arith, le, low)) ∙ ap (with_open true) (rest_of 16 s new_slot) in
          subst (λ v. Q s v (slot_at S s)) (sym x) (subst (λ v. Q s (with_usable true new_end) v) (sym y) (below s le))

      beyond : target < s → Q s (end_at T s) (slot_at S s)
      beyond lt =
          let x : end_at T s ≡ new_end = front_outside (with_usable true) (target + 1) (replicate 16 new_end) s new_end (omega (arith, lt)) ∙ rest_of 16 s new_end in
          let y : slot_at S s ≡ new_slot = front_outside (with_open true) (target + 1) (replicate 16 new_slot) s new_slot (omega (arith, lt)) ∙ rest_of 16 s new_slot in
          subst (λ v. Q s v (slot_at S s)) (sym x) (subst (λ v. Q s new_end v) (sym y) (above s lt))

  -- the terminal holds no call
  no_call : (s : ℕ) (k : OpenCall) → (end_at T s).call ≡ Some k → ⊥
  no_call = each_slot (λ s x y. (k : OpenCall) → x.call ≡ Some k → ⊥) (λ s le k e. some_none k (sym e)) (λ s lt k e. some_none k (sym e))

  -- in a history that knows no call of it
  module _ (h : History) (o : ℕ) (none : (t : ℕ) (c : Call) (f : Request) → Known h t o c f → ⊥) where
    pub terminal_born : TerminalSide h o (new_terminal id target)
    terminal_born = record {
      sixteen = front_length (with_usable true) (target + 1) (replicate 16 new_end);
      bound = each_slot (λ s x y. x.number ≤ 4294967295) (λ s le. omega arith) (λ s lt. omega arith);
      low = λ t c f z. absurd (none t c f z);
      open_held = λ t c f z. absurd (none t c f z);
      held_open = λ s k e. absurd (no_call s k e);
      held_usable = λ s k e. absurd (no_call s k e);
      held_part = λ s k e. absurd (no_call s k e);
    }

    pub server_born : ServerSide h o (new_session id target)
    server_born = record {
      sixteen = front_length (with_open true) (target + 1) (replicate 16 new_slot);
      target = low;
      target_open = each_slot (λ s x y. s ≤ target → y.is_open ≡ true) (λ s le g. refl) (λ s lt le. absurd (omega (arith, lt, le)));
      heard_low = λ t c f z. absurd (none t c f z);
      low_heard = λ t c f z. absurd (none t c f z);
      older_ran = λ t c f z. absurd (none t c f z);
      last_holds = λ t c f z. absurd (none t c f z);
      last_known = λ s le. absurd (omega (arith, le, number s));
      unused = each_slot (λ s x y. y.number ≡ 0 → y.last ≡ never) (λ s le e. refl) (λ s lt e. refl);
    }
      where
        number : (s : ℕ) → (slot_at S s).number ≡ 0
        number = each_slot (λ s x y. y.number ≡ 0) (λ s le. refl) (λ s lt. refl)

    pub both_born : BothSides h o (new_terminal id target) (new_session id target)
    both_born = record {
      close = each_slot (λ s x y. Close x y) (λ s le. record { low = omega arith; near = omega arith; free = λ e. omega arith }) (λ s lt. record { low = omega arith; near = omega arith; free = λ e. omega arith });
      usable_ready = each_slot (λ s x y. x.usable ≡ true → Ready s x y) (λ s le e. inl refl) (λ s lt e. absurd (clash e));
      fresh_ready = λ t c f k high goal b z. absurd (none t c f z);
    }
