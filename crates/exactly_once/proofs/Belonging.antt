-- A reply that belongs to an open call of a terminal: it is the call that the reply answers.
use Rattle.std.proofs.Common.{◌≡◌, ℕ, true, ◌&&◌, eqb, leb, length, is_some, Some, None, Option, sym, refl, ap, ◌∙◌, subst}
use borrow.Author.Tests.{clash}
use Rattle.std.proofs.lemmas.Bool.{and_parts, eqb-true}
use Rattle.wire.specs.Wire.{same_id, Request, Reply}
use Rattle.terminal.specs.Terminal.{TerminalM, EndM, OpenCall, belongs, end_at, is_busy}
use Rattle.exactly_once.specs.History.{History}
use Rattle.exactly_once.specs.Words.{Call, Session, Open}
use Rattle.exactly_once.specs.Steps.{Parts, Model, terminal_at}
use Rattle.exactly_once.proofs.Tables.{same_id_true}
use Rattle.exactly_once.proofs.Unique.{opened_one}
use Rattle.exactly_once.proofs.Invariant.{Known, Answers, TerminalSide, Inv}
use Rattle.exactly_once.proofs.Present.{held_is}

busy_some : (x : EndM) → is_busy x ≡ true → (k : OpenCall) × (x.call ≡ Some k)
busy_some x e = go x.call e
  where
    go : (o : Option OpenCall) → is_some o ≡ true → (k : OpenCall) × (o ≡ Some k)
    go None f = absurd (clash f)
    go (Some k) f = (k, refl)

-- what is then known of the call c
pub record Belonging (h : History) (t o : ℕ) (c : Call) (f : Request) (p : ℕ) (T : TerminalM) : Type 0 where
  pub place : c.terminal ≡ p
  pub newest : Session h p o (length h)
  pub side : TerminalSide h o T
  pub held : OpenCall
  pub holds : (end_at T f.slot).call ≡ Some held
  pub number : f.number ≡ (end_at T f.slot).number
  pub is_open : Open h t c (length h)

module _ (P : Parts) (first : P.service.Content) (h : History) (m : Model P) (inv : Inv P first h m) where
  pub belonging : (t o : ℕ) (c : Call) (f : Request) (r : Reply) → Known h t o c f → Answers h o c f r → (p : ℕ) (T : TerminalM) → terminal_at P m p ≡ Some T → belongs T r ≡ true → Belonging h t o c f p T
  belonging t o c f r z an p T at be =
      let a = and_parts (same_id T.id r.id) (leb r.slot 15 && (is_busy (end_at T r.slot) && eqb (end_at T r.slot).number r.number)) be in
      let b = and_parts (leb r.slot 15) (is_busy (end_at T r.slot) && eqb (end_at T r.slot).number r.number) a.1 in
      let d = and_parts (is_busy (end_at T r.slot)) (eqb (end_at T r.slot).number r.number) b.1 in
      let w = inv.places.terminal_known p T at in
      let ids : inv.ids w.0 ≡ inv.ids o = sym w.2 ∙ same_id_true T.id r.id a.0 ∙ an.id ∙ inv.calls.named t o c f z in
      let os : w.0 ≡ o = inv.places.apart w.0 o p c.terminal w.1.0 z.session.0 ids in
      let se : Session h p o (length h) = subst (λ x. Session h p x (length h)) os w.1 in
      let side : TerminalSide h o T = inv.terminals p o T se at in
      let k = busy_some (end_at T r.slot) d.0 in
      let ke : (end_at T f.slot).call ≡ Some k.0 = ap (λ s. (end_at T s).call) (sym an.slot) ∙ k.1 in
      let num : f.number ≡ (end_at T f.slot).number = sym an.number ∙ sym (eqb-true (end_at T r.slot).number r.number d.1) ∙ ap (λ s. (end_at T s).number) an.slot in
      record {
        place = opened_one h o c.terminal p z.session.0 se.0;
        newest = se;
        side = side;
        held = k.0;
        holds = ke;
        number = num;
        is_open = held_is P first h m inv t o c f T side z num k.0 ke;
      }
