-- Changes at a place of the model, one after another.
use Rattle.std.proofs.Common.{◌≡◌, ℕ, zero, suc, ◌+◌, ◌<◌, ◌≤◌, Bool, true, false, cond, not, ◌&&◌, ltb, leb, List, [], ◌∷◌, map, length, get_or, take, drop, set, is_some, Some, None, count_by, Option, sym, refl, ap, ◌∙◌, arith}
use borrow.Author.Tests.{clash}
use Rattle.std.specs.Option.{option_map}
use Rattle.std.proofs.lemmas.List.{get_or_default, get_or-take, length-map, length-take-le, set-get_or, nil_from_length}
use Rattle.std.proofs.lemmas.Bool.{and_parts, and_right, not_from_true, eqb-true, leb-true}
use Rattle.std.proofs.lemmas.List.Edits.{map_over_more}
use Rattle.std.proofs.lemmas.List.Sums.{sum_by-drop_more}
use Rattle.slots.specs.Slots.{front_changed}
use Rattle.slots.proofs.Slots.{front_length}
use Rattle.common.specs.Search.{when_found}
use Rattle.server.specs.declared.records.Tray.{Tray}
use Rattle.server.specs.declared.records.Session.{Session}
use Rattle.server.specs.Server.{Last, never, in_progress, kept, not_kept, SlotM, SessionM, ServerM, new_slot, slot_at, with_slot, with_open, is_working, is_bare, shuts, run_open, works_at}
use Rattle.server.specs.Models.{session_model, slot_in}
use Rattle.server.proofs.Trays.{stood}
use Rattle.server.specs.Places.{emptied, emptied_last, settled, change_in, change_at, at_slot, at_front, session_at, shut_at, works_in}

abbrev pub with_places : ServerM → List (Option SessionM) → ServerM
with_places m places = record { boot = m.boot; count = m.count; sessions = places }

pub at_change : (places : List (Option SessionM)) (p : ℕ) (f : SessionM → SessionM) → get_or (change_in places p f) p None ≡ option_map f (get_or places p None)
at_change [] p f = refl
at_change (o ∷ os) zero f = refl
at_change (o ∷ os) (suc p) f = at_change os p f

pub some_mapped : (o : Option SessionM) (f : SessionM → SessionM) → is_some (option_map f o) ≡ is_some o
some_mapped None f = refl
some_mapped (Some s) f = refl

pub change_twice : (places : List (Option SessionM)) (p : ℕ) (f g : SessionM → SessionM) → change_in (change_in places p f) p g ≡ change_in places p (λ s. g (f s))
change_twice [] p f g = refl
change_twice (None ∷ os) zero f g = refl
change_twice (Some s ∷ os) zero f g = refl
change_twice (o ∷ os) (suc p) f g = ap (λ ys. o ∷ ys) (change_twice os p f g)

-- changes that agree on the session that is there
pub change_same : (places : List (Option SessionM)) (p : ℕ) (f g : SessionM → SessionM) → ((s : SessionM) → get_or places p None ≡ Some s → f s ≡ g s) → change_in places p f ≡ change_in places p g
change_same places p f g h = ap (set places p) (go (get_or places p None) refl)
  where
    go : (o : Option SessionM) → get_or places p None ≡ o → option_map f o ≡ option_map g o
    go None e = refl
    go (Some s) e = ap Some (h s e)

-- a slot that is put, and is that slot changed
pub put_is : (m n : ServerM) (p i : ℕ) (y : SlotM) (f : SlotM → SlotM) → ((s : SessionM) → get_or m.sessions p None ≡ Some s → y ≡ f (slot_at s i)) → n ≡ change_at m p (at_slot (λ _. y) i) → n ≡ change_at m p (at_slot f i)
put_is m n p i y f h e = e ∙ ap (with_places m) (change_same m.sessions p (at_slot (λ _. y) i) (at_slot f i) (λ s k. ap (with_slot s i) (h s k)))

-- a change that leaves it as it is
pub change_none : (places : List (Option SessionM)) (p : ℕ) (f : SessionM → SessionM) → ((s : SessionM) → get_or places p None ≡ Some s → s ≡ f s) → places ≡ change_in places p f
change_none places p f h = sym (set-get_or places p None) ∙ ap (set places p) (go (get_or places p None) refl)
  where
    go : (o : Option SessionM) → get_or places p None ≡ o → o ≡ option_map f o
    go None e = refl
    go (Some s) e = ap Some (h s e)

-- each session has sixteen slots
pub sixteen : (ts : List Tray) (ss : List (Option Session)) (p : ℕ) (m : SessionM) → get_or (map (session_model ts) ss) p None ≡ Some m → length m.slots ≡ 16
sixteen ts ss p m e =
    let t = stood ts ss p m e in
    ap (λ (n : SessionM). length n.slots) t.2 ∙ length-map t.0.slots (slot_in ts) ∙ t.0.whole

-- the first slots, one more
pub front_here : {X : Type 0} (f : X → X) (i : ℕ) (xs : List X) (d : X) → get_or (front_changed f i xs) i d ≡ get_or xs i d
front_here f zero xs d = refl
front_here f (suc i) [] d = refl
front_here f (suc i) (x ∷ xs) d = front_here f i xs d

pub front_more : (f : SlotM → SlotM) (i : ℕ) (s : SessionM) → i < length s.slots → at_slot f i (at_front f i s) ≡ at_front f (i + 1) s
front_more f i s h =
    let ys = front_changed f i s.slots in
    let x = get_or ys i new_slot in
    let l : i < length ys = omega (arith, front_length f i s.slots) in
    ap (λ xs. record { id = s.id; target = s.target; slots = xs }) (map_over_more f s.slots ys i x h refl (get_or_default ys i new_slot x l))

-- how many of the slots from i to n are shut
abbrev pub shut_left : ServerM → ℕ → ℕ → ℕ → ℕ
shut_left m p i n = when_found 0 (λ (s : SessionM). count_by (λ (x : SlotM). not x.is_open) (drop i (take n s.slots))) (session_at m p)

abbrev lack : Bool → ℕ
lack b = cond b 0 1

pub shut_more : (s : SessionM) (i n : ℕ) → i < n → n ≤ length s.slots → count_by (λ (x : SlotM). not x.is_open) (drop i (take n s.slots)) ≡ lack (slot_at s i).is_open + count_by (λ (x : SlotM). not x.is_open) (drop (i + 1) (take n s.slots))
shut_more s i n h k =
    let l : i < length (take n s.slots) = omega (arith, length-take-le n s.slots k) in
    let shut : SlotM → ℕ = λ x. cond (not x.is_open) 1 0 in
    sum_by-drop_more shut (take n s.slots) i new_slot l
    ∙ ap (λ m. m + count_by (λ (x : SlotM). not x.is_open) (drop (i + 1) (take n s.slots))) (ap shut (get_or-take n s.slots i new_slot h) ∙ flip (slot_at s i).is_open)
  where
    flip : (b : Bool) → ◌≡◌ {A = ℕ} (cond (not b) 1 0) (lack b)
    flip true = refl
    flip false = refl

-- a loop over the slots at a place: m before it, m' at slot i
module _ (m m' : ServerM) (p i : ℕ) (f : SlotM → SlotM) (e : m' ≡ change_at m p (at_front f i)) where
  pub loop_session : session_at m' p ≡ option_map (at_front f i) (session_at m p)
  loop_session = ap (λ n. session_at n p) e ∙ at_change m.sessions p (at_front f i)

  pub loop_more : (n : ServerM) → ((s : SessionM) → session_at m p ≡ Some s → i < length s.slots) → n ≡ change_at m' p (at_slot f i) → n ≡ change_at m p (at_front f (i + 1))
  loop_more n k g =
      g
      ∙ ap (λ q. change_at q p (at_slot f i)) e
      ∙ ap (with_places m) (change_twice m.sessions p (at_front f i) (at_slot f i) ∙ change_same m.sessions p (λ s. at_slot f i (at_front f i s)) (at_front f (i + 1)) (λ s r. front_more f i s (k s r)))

  pub loop_shut : shut_at m' p i ≡ shut_at m p i
  loop_shut = ap (when_found 0 (λ s. lack (slot_at s i).is_open)) loop_session ∙ go (session_at m p)
    where
      go : (o : Option SessionM) → when_found 0 (λ s. lack (slot_at s i).is_open) (option_map (at_front f i) o) ≡ when_found 0 (λ s. lack (slot_at s i).is_open) o
      go None = refl
      go (Some s) = ap (λ (x : SlotM). lack x.is_open) (front_here f i s.slots new_slot)

pub shut_left_more : (m : ServerM) (p i n : ℕ) → i < n → ((s : SessionM) → session_at m p ≡ Some s → n ≤ length s.slots) → shut_left m p i n ≡ shut_at m p i + shut_left m p (i + 1) n
shut_left_more m p i n h k = go (session_at m p) k
  where
    go : (o : Option SessionM) → ((s : SessionM) → o ≡ Some s → n ≤ length s.slots) → when_found 0 (λ (s : SessionM). count_by (λ (x : SlotM). not x.is_open) (drop i (take n s.slots))) o ≡ when_found 0 (λ s. lack (slot_at s i).is_open) o + when_found 0 (λ (s : SessionM). count_by (λ (x : SlotM). not x.is_open) (drop (i + 1) (take n s.slots))) o
    go None j = refl
    go (Some s) j = shut_more s i n h (j s refl)

-- a bare call in progress that shuts its open slot, and one that does not
pub settled_shut : (s : SessionM) (i : ℕ) → is_working (slot_at s i).last ≡ true → ((slot_at s i).is_open && shuts s i (slot_at s i)) ≡ true → at_slot emptied i s ≡ settled i s
settled_shut s i w e =
    let y = slot_at s i in
    let b = shuts s i y in
    let two = and_parts y.is_open b e in
    let bare : is_bare y ≡ true = (and_parts (is_bare y) (ltb y.highest i && ltb s.target i) two.1).0 in
    let none : y.body ≡ [] = nil_from_length y.body (eqb-true (length y.body) 0 bare) in
    let shut : run_open s i ≡ false = and_right y.is_open (not b) (not_from_true b two.1) in
    ap (with_slot s i) (λ u. record { is_open = sym shut u; number = y.number; highest = y.highest; keep = y.keep; body = sym none u; last = still y.last w u })
  where
    still : (l : Last) → is_working l ≡ true → emptied_last l ≡ l
    still never w = absurd (clash w)
    still in_progress w = refl
    still (kept h t b) w = absurd (clash w)
    still not_kept w = absurd (clash w)

pub settled_same : (s : SessionM) (i : ℕ) → ((slot_at s i).is_open && shuts s i (slot_at s i)) ≡ false → s ≡ settled i s
settled_same s i e =
    let y = slot_at s i in
    let stays : run_open s i ≡ y.is_open = go y.is_open (shuts s i y) e in
    ap (λ xs. record { id = s.id; target = s.target; slots = xs }) (sym (set-get_or s.slots i new_slot) ∙ ap (λ x. set s.slots i x) (λ u. with_open (sym stays u) y))
  where
    go : (a b : Bool) → (a && b) ≡ false → (a && not b) ≡ a
    go true true e = sym e
    go true false e = refl
    go false b e = refl

-- a call is in progress there
pub works_here : (m : ServerM) (p i : ℕ) → works_in m p i ≡ true → (is_some (session_at m p) ≡ true) × (i ≤ 15) × ((s : SessionM) → session_at m p ≡ Some s → is_working (slot_at s i).last ≡ true)
works_here m p i e = go (session_at m p) e
  where
    go : (o : Option SessionM) → when_found false (λ s. works_at s i) o ≡ true → (is_some o ≡ true) × (i ≤ 15) × ((s : SessionM) → o ≡ Some s → is_working (slot_at s i).last ≡ true)
    go None e = absurd (clash e)
    go (Some r) e =
        let b = leb i 15 in
        let w = is_working (slot_at r i).last in
        let h = and_parts b w e in
        (refl, leb-true i 15 h.0, λ s k. (let f : s ≡ r = cc in ap (λ (t : SessionM). is_working (slot_at t i).last) f ∙ h.1))

-- what holds of the session that is there
pub holds_here : (test : SessionM → Bool) (o : Option SessionM) → when_found false test o ≡ true → (is_some o ≡ true) × ((s : SessionM) → o ≡ Some s → test s ≡ true)
holds_here test None e = absurd (clash e)
holds_here test (Some r) e = (refl, λ s k. (let f : s ≡ r = cc in ap test f ∙ e))

pub holds_from : (test : SessionM → Bool) (o : Option SessionM) → is_some o ≡ true → ((s : SessionM) → o ≡ Some s → test s ≡ true) → when_found false test o ≡ true
holds_from test None e h = e
holds_from test (Some r) e h = h r refl
