-- The worked cases, proved.
use Rattle.std.proofs.Common.{◌≡◌, ℕ, zero, suc, ◌+◌, true, List, [], ◌∷◌, get_or, refl}
use Rattle.std.proofs.lemmas.List.{get_or-set_other}
use Rattle.slots.specs.Slots.{front_changed}
use Rattle.server.specs.Server.{SlotM, new_slot, with_open, finished, free_trays, open_session}
use Rattle.server.specs.Laws.{Cases}

-- a slot after the first n were opened
front_number : (n : ℕ) (xs : List SlotM) (i : ℕ) → (get_or (front_changed (with_open true) n xs) i new_slot).number ≡ (get_or xs i new_slot).number
front_number zero xs i = refl
front_number (suc n) [] i = refl
front_number (suc n) (x ∷ xs) zero = refl
front_number (suc n) (x ∷ xs) (suc i) = front_number n xs i

pub cases : Cases
unfolding free_trays open_session
cases = record {
  one_is_new = λ q e. rw e;
  zero_misordered = λ q e. rw e;
  two_misordered = λ q e. rw e;
  slot_15 = λ id q s n h. rw (s, n, h);
  slot_16 = λ s q e. rw e;
  worn_out = λ x q e f. rw (e, f);
  no_tray = refl;
  fifth = refl;
  other_slots = λ s i j bytes n. get_or-set_other s.slots i j (finished s i bytes) new_slot n;
  reopened_number = λ s target i. front_number (target + 1) s.slots i;
}
