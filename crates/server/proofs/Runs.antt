-- The call at a slot, from the records to the model.
use Rattle.std.proofs.Common.{◌≡◌, ℕ, ◌<◌, true, length, get_or, is_some, Some, None, Option, sym, refl, ap, ◌∙◌}
use borrow.Author.Tests.{clash}
use Rattle.std.proofs.lemmas.List.{get_or-set_same, set-set}
use Rattle.common.specs.Bytes.{Bytes}
use Rattle.slots.specs.Slots.{highest_at}
use Rattle.slots.proofs.Slots.{highest_map}
use Rattle.server.specs.declared.records.Slot.{Slot}
use Rattle.server.specs.declared.records.Session.{Session}
use Rattle.server.specs.declared.state.Server.{Server}
use Rattle.server.specs.Server.{SlotM, SessionM, ServerM, slot_at, with_slot, with_open, run_open, run_highest, finished}
use Rattle.server.specs.Models.{model, slot_in, standing_model, session_model}
use Rattle.server.specs.Places.{session_at, change_at, at_slot, settled, ended, concluded}
use Rattle.server.proofs.Trays.{session_here}
use Rattle.server.proofs.Changes.{with_places, change_twice, change_same}

-- the session that stands at a place, in the records and in the model
module _ (v : Server) (p : ℕ) (s : Session) (hs : get_or v.sessions p None ≡ Some s) where
  pub session_there : session_at (model v) p ≡ Some (standing_model v.trays s)
  session_there = session_here v.trays v.sessions p ∙ ap (session_model v.trays) hs

  pub session_is : (m : SessionM) → session_at (model v) p ≡ Some m → m ≡ standing_model v.trays s
  session_is m e = let q = sym session_there ∙ e in cc

  pub highest_told : (m : SessionM) → session_at (model v) p ≡ Some m → highest_at (λ (x : Slot). is_some x.tray) s.slots 0 0 ≡ highest_at (λ (x : SlotM). x.is_open) m.slots 0 0
  highest_told m e =
      sym (highest_map (λ (x : SlotM). x.is_open) (slot_in v.trays) s.slots 0 0)
      ∙ ap (λ (n : SessionM). highest_at (λ (x : SlotM). x.is_open) n.slots 0 0) (sym (session_is m e))

  pub target_told : (m : SessionM) → session_at (model v) p ≡ Some m → s.target ≡ m.target
  target_told m e = ap (λ (n : SessionM). n.target) (sym (session_is m e))

-- a run: the slot settled first, then its call ended
pub settled_slot : (s : SessionM) (i : ℕ) → i < length s.slots → slot_at (settled i s) i ≡ with_open (run_open s i) (slot_at s i)
settled_slot s i h = get_or-set_same s.slots i _ _ h

pub settled_ended : (s : SessionM) (i : ℕ) (bytes : Bytes) → i < length s.slots → ended i bytes (settled i s) ≡ with_slot s i (finished s i bytes)
settled_ended s i bytes h =
    ap (λ x. with_slot (settled i s) i (concluded x (run_highest s i) s.target bytes)) (settled_slot s i h)
    ∙ ap (λ xs. record { id = s.id; target = s.target; slots = xs }) (set-set s.slots i (with_open (run_open s i) (slot_at s i)) (finished s i bytes))

pub run_state : (m m' n : ServerM) (p i : ℕ) (bytes : Bytes) → ((s : SessionM) → session_at m p ≡ Some s → i < length s.slots) → m' ≡ change_at m p (settled i) → n ≡ change_at m' p (ended i bytes) → n ≡ change_at m p (λ s. with_slot s i (finished s i bytes))
run_state m m' n p i bytes k e g =
    g
    ∙ ap (λ q. change_at q p (ended i bytes)) e
    ∙ ap (with_places m) (change_twice m.sessions p (settled i) (ended i bytes) ∙ change_same m.sessions p (λ s. ended i bytes (settled i s)) (λ s. with_slot s i (finished s i bytes)) (λ s r. settled_ended s i bytes (k s r)))

pub end_state : (m n : ServerM) (p i high target : ℕ) (bytes : Bytes) → ((s : SessionM) → session_at m p ≡ Some s → (high ≡ highest_at (λ (x : SlotM). x.is_open) s.slots 0 0) × (target ≡ s.target)) → n ≡ change_at m p (at_slot (λ x. concluded x high target bytes) i) → n ≡ change_at m p (ended i bytes)
end_state m n p i high target bytes k e =
    e ∙ ap (with_places m) (change_same m.sessions p (at_slot (λ x. concluded x high target bytes) i) (ended i bytes) (λ s r. (λ u. with_slot s i (concluded (slot_at s i) ((k s r).0 u) ((k s r).1 u) bytes))))

-- some session
pub some_of : (o : Option SessionM) → is_some o ≡ true → (s : SessionM) × (o ≡ Some s)
some_of None e = absurd (clash e)
some_of (Some s) e = (s, refl)
