-- Calls in progress, as the model counts them.
use Rattle.std.proofs.Common.{◌≡◌, ℕ, ◌*◌, ◌≤◌, Bool, cond, List, [], ◌∷◌, map, length, Some, None, sum_by, count_by, Option, refl, ap, ◌∙◌, zero-le, arith}
use Rattle.std.proofs.lemmas.List.Sums.{sum_by-cons, count_by-le-length}
use Rattle.common.specs.Bytes.{Bytes}
use Rattle.server.specs.declared.records.Tray.{Tray}
use Rattle.server.specs.declared.records.Slot.{Slot}
use Rattle.server.specs.declared.records.Session.{Session}
use Rattle.server.specs.declared.records.Last.{Last}
use Rattle.server.specs.declared.records.Last.TheVariants.{Never, InProgress, Kept, NotKept}
use Rattle.server.specs.Server.{SlotM, is_working}
use Rattle.server.specs.Models.{last_model, slot_in, session_model}
use Rattle.server.specs.Trays.{tray_at}
use Rattle.server.specs.Counts.{working_slots, works, slots_working}
use Rattle.server.proofs.Trays.{sum_map_is}

-- the bytes do not matter
same : (l : Last) (b : Bytes) → is_working (last_model l b) ≡ is_working (last_model l [])
same Never b = refl
same InProgress b = refl
same (Kept h t) b = refl
same NotKept b = refl

works_is : (ts : List Tray) (x : Slot) → is_working (slot_in ts x).last ≡ works x
works_is ts x = same x.last (tray_at ts x.tray).reply

working_slots_is : (ts : List Tray) (o : Option Session) → working_slots (session_model ts o) ≡ slots_working o
working_slots_is ts None = refl
working_slots_is ts (Some s) =
    sum_map_is (λ (x : SlotM). cond (is_working x.last) 1 0) (slot_in ts) s.slots
    ∙ ap (λ (p : Slot → Bool). count_by p s.slots) (λ i x. works_is ts x i)

pub working_sum_is : (ts : List Tray) (ss : List (Option Session)) → sum_by working_slots (map (session_model ts) ss) ≡ sum_by slots_working ss
working_sum_is ts ss = sum_map_is working_slots (session_model ts) ss ∙ ap (λ (f : Option Session → ℕ). sum_by f ss) (λ i o. working_slots_is ts o i)

working_low : (o : Option Session) → slots_working o ≤ 16
working_low None = zero-le
working_low (Some s) = omega (arith, count_by-le-length works s.slots, s.whole)

pub working_sum_low : (ss : List (Option Session)) → sum_by slots_working ss ≤ 16 * length ss
working_sum_low [] = zero-le
working_sum_low (o ∷ ss) = let a = sum_by-cons slots_working o ss in omega (arith, a, working_low o, working_sum_low ss)
