-- Which slot owns which tray.
use Rattle.std.specs.Prelude.{◌≡◌, ℕ, ◌+◌, Bool, false, cond, not, List, [], is_some, Some, None, sum_by, count_by, Option, slice_index_or}
use Rattle.common.specs.Search.{when_found}
use Rattle.std.proofs.Common.{zero-le}
use Rattle.server.specs.declared.records.Last.TheVariants.{Never}
use Rattle.server.specs.declared.records.Spot.{Spot}
use Rattle.server.specs.declared.records.Tray.{Tray}
use Rattle.server.specs.declared.records.Slot.{Slot}
use Rattle.server.specs.declared.records.Session.{Session}

-- a tray that no slot owns
abbrev pub no_tray : Tray
no_tray = record { owner = None; request = []; reply = [] }

-- the tray with that number, or an empty one
abbrev pub tray_at : List Tray → Option ℕ → Tray
tray_at ts None = no_tray
tray_at ts (Some k) = slice_index_or ts k no_tray

-- a slot never used
abbrev pub no_slot : Slot
no_slot = record { tray = None; number = 0; highest = 0; keep = false; last = Never; low = (zero-le, zero-le) }

-- the tray of slot i of a session, if the slot is open
abbrev pub tray_in : Option Session → ℕ → Option ℕ
tray_in None i = None
tray_in (Some s) i = (slice_index_or s.slots i no_slot).tray

-- the tray of slot i of the session at a place
abbrev pub tray_of : List (Option Session) → ℕ → ℕ → Option ℕ
tray_of ss place i = tray_in (slice_index_or ss place None) i

-- slot i of the session at a place
abbrev pub spot : ℕ → ℕ → Spot
spot place i = record { place = place; slot = i }

-- the tray of each open slot has that slot as its owner
abbrev pub Marked : List (Option Session) → List Tray → Type 0
Marked ss ts = (place i k : ℕ) → tray_of ss place i ≡ Some k → (slice_index_or ts k no_tray).owner ≡ Some (spot place i)

-- distinct open slots own distinct trays
abbrev pub Apart : List (Option Session) → Type 0
Apart ss = (place place' i i' k : ℕ) → tray_of ss place i ≡ Some k → tray_of ss place' i' ≡ Some k → (place ≡ place') × (i ≡ i')

-- a tray that no slot owns
abbrev pub is_free : Tray → Bool
is_free t = not (is_some t.owner)

-- how many slots of a session are open
abbrev pub slots_open : Option Session → ℕ
slots_open None = 0
slots_open (Some s) = count_by (λ (x : Slot). is_some x.tray) s.slots

-- each open slot owns a tray, and every other tray is free
abbrev pub Owned : List (Option Session) → List Tray → Type 0
Owned ss ts = Marked ss ts × (count_by is_free ts + sum_by slots_open ss ≡ 64)

-- one tray, if slot i of the session at a place is shut
abbrev pub shut_in : List (Option Session) → ℕ → ℕ → ℕ
shut_in ss place i = when_found 0 (λ (s : Session). cond (is_some (tray_in (Some s) i)) 0 1) (slice_index_or ss place None)
