-- Every history keeps the invariant: a house has it as it is made, and each call keeps it.
use Rattle.std.proofs.Common.{◌∷◌, sym, subst}
use Rattle.exactly_once.specs.History.{Asked, asked_open, asked_order, asked_part, asked_resend, asked_hear, asked_resume, asked_take, asked_retarget, asked_close, History}
use Rattle.exactly_once.specs.Steps.{Parts, Model, act, event_of}
use Rattle.exactly_once.specs.Lived as lived
use Rattle.exactly_once.specs.Lived.{PartsLaws, Lived}
use Rattle.exactly_once.proofs.Invariant.{Inv}
use Rattle.exactly_once.proofs.Made.{made}
use Rattle.exactly_once.proofs.Opening.{open_keeps}
use Rattle.exactly_once.proofs.Take.{take_keeps}
use Rattle.exactly_once.proofs.Resend.{resend_keeps}
use Rattle.exactly_once.proofs.Close.{close_keeps}
use Rattle.exactly_once.proofs.Retarget.{retarget_keeps}
use Rattle.exactly_once.proofs.Ordering.{order_keeps, part_keeps}
use Rattle.exactly_once.proofs.Hear.{hear_keeps}
use Rattle.exactly_once.proofs.Resume.{resume_keeps}

module _ (P : Parts) (laws : PartsLaws P) (first : P.service.Content) where
  -- each call keeps it
  pub step_keeps : (h : History) (m : Model P) → Inv P first h m → (a : Asked) → Inv P first (event_of P m a ∷ h) (act P m a).after
  step_keeps h m inv (asked_open target) = open_keeps P first h m inv target
  step_keeps h m inv (asked_order p keep body room) = order_keeps P laws first h m inv p room keep body
  step_keeps h m inv (asked_part p slot room) = part_keeps P laws first h m inv p room slot
  step_keeps h m inv (asked_resend p slot room) = resend_keeps P first h m inv laws p slot room
  step_keeps h m inv (asked_hear told room) = hear_keeps P laws first h m inv room told
  step_keeps h m inv (asked_resume p slot room) = resume_keeps P laws first h m inv room p slot
  step_keeps h m inv (asked_take room) = take_keeps P laws first h m inv room
  step_keeps h m inv (asked_retarget p target) = retarget_keeps P first h m inv p target
  step_keeps h m inv (asked_close p) = close_keeps P first h m inv p

  -- the invariant of every history
  pub lived_inv : {h : History} {m : Model P} → Lived P first h m → Inv P first h m
  lived_inv (lived.made f) = made P first _ f
  lived_inv (lived.met {h = h} {m = m} a l e) = subst (λ n. Inv P first (event_of P m a ∷ h) n) (sym e) (step_keeps h m (lived_inv l) a)
