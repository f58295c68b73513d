-- One slot at one place: what its change does to the marks of the trays, to their count, and to the model.
use Rattle.std.proofs.Common.{◌≡◌, ℕ, zero, suc, ◌+◌, ◌-◌, ◌<◌, Bool, true, false, cond, not, List, [], ◌∷◌, map, length, get_or, set, is_some, Some, None, sum_by, count_by, Option, sym, refl, ap, ◌∙◌, ⊎_elim, arith}
use borrow.Author.Tests.{clash}
use Rattle.std.specs.Option.{option_map}
use Rattle.common.specs.Search.{when_found, lowest_at}
use Rattle.std.specs.List.{position, position_from}
use Rattle.std.proofs.lemmas.Iterator.Adapters.{position_from-zero}
use Rattle.std.proofs.Math.ListN.{get_or-map, get_or-eq_default}
use Rattle.std.proofs.lemmas.List.{get_or-set_same, get_or-set_other, get_or_default}
use Rattle.std.proofs.lemmas.List.Sums.{sum_by-set, sum_by-cons}
use Rattle.std.proofs.lemmas.Bool.{cases_eq}
use Rattle.wire.specs.Models.{id_model}
use Rattle.server.specs.declared.records.Spot.{Spot}
use Rattle.server.specs.declared.records.Tray.{Tray}
use Rattle.server.specs.declared.records.Slot.{Slot}
use Rattle.server.specs.declared.records.Session.{Session}
use Rattle.server.specs.declared.state.Server.{Server}
use Rattle.server.specs.Server.{SlotM, SessionM, slot_at, open_slots, free_trays}
use Rattle.server.specs.Trays.{no_tray, tray_at, no_slot, tray_in, tray_of, spot, Marked, is_free, slots_open, Owned, shut_in}
use Rattle.server.specs.Models.{slot_model, slot_in, standing_model, session_model, model}
use Rattle.server.specs.Places.{change_in, at_slot}

-- one, if a test holds
abbrev pub one : Bool → ℕ
one b = cond b 1 0

-- a session that is there is within
pub within : {X : Type 0} (xs : List (Option X)) (i : ℕ) (x : X) → get_or xs i None ≡ Some x → i < length xs
within [] i x e = absurd (let z : ◌≡◌ {A = ℕ} 0 1 = cc in omega arith)
within (y ∷ ys) zero x e = omega arith
within (y ∷ ys) (suc i) x e = let h = within ys i x e in omega arith

-- two functions that agree on a list, or on all of it but one element
pub map_same : {X Y : Type 0} (f g : X → Y) (xs : List X) (d : X) → ((j : ℕ) → f (get_or xs j d) ≡ g (get_or xs j d)) → map f xs ≡ map g xs
map_same f g [] d h = refl
map_same f g (x ∷ xs) d h = (λ i. h 0 i ∷ map_same f g xs d (λ j. h (suc j)) i)

pub map_apart : {X Y : Type 0} (f g : X → Y) (xs : List X) (p : ℕ) (y d : X) (z : Y) → f y ≡ z → ((j : ℕ) → (j ≡ p → ⊥) → f (get_or xs j d) ≡ g (get_or xs j d)) → map f (set xs p y) ≡ set (map g xs) p z
map_apart f g [] p y d z e h = refl
map_apart f g (x ∷ xs) zero y d z e h = (λ i. e i ∷ map_same f g xs d (λ j. h (suc j) (λ n. absurd (omega arith))) i)
map_apart f g (x ∷ xs) (suc p) y d z e h = (λ i. h 0 (λ n. absurd (omega arith)) i ∷ map_apart f g xs p y d z e (λ j n. h (suc j) (λ m. n (omega arith))) i)

pub sum_map_is : {X Y : Type 0} (f : Y → ℕ) (g : X → Y) (xs : List X) → sum_by f (map g xs) ≡ sum_by (λ x. f (g x)) xs
sum_map_is f g [] = refl
sum_map_is f g (x ∷ xs) = sum_by-cons f (g x) (map g xs) ∙ ap (λ n. f (g x) + n) (sum_map_is f g xs) ∙ sym (sum_by-cons (λ y. f (g y)) x xs)

-- a search for the first that passes
pub lowest_position : {X : Type 0} (test : X → Bool) (xs : List X) → position test xs ≡ lowest_at test xs 0
lowest_position test xs = position_from-zero test xs

-- a test that holds nowhere counts nothing
none_first : {X : Type 0} (test : X → Bool) (y : X) (ys : List X) (i : ℕ) (b : Bool) → test y ≡ b → (position_from test (i + 1) ys ≡ None → count_by test ys ≡ 0) → cond b (Some i) (position_from test (i + 1) ys) ≡ None → count_by test (y ∷ ys) ≡ 0
none_first test y ys i true q rest r = absurd (let z : ◌≡◌ {A = ℕ} 0 1 = cc in omega arith)
none_first test y ys i false q rest r =
    let a : one (test y) ≡ 0 = ap one q in
    let b : count_by test ys ≡ 0 = rest r in
    sum_by-cons (λ z. one (test z)) y ys ∙ omega (arith, a, b)

pub none_pass : {X : Type 0} (test : X → Bool) (xs : List X) → position test xs ≡ None → count_by test xs ≡ 0
none_pass {X = X} test xs e = none xs 0 (sym (position_from-zero test xs) ∙ e)
  where
    none : (ys : List X) (i : ℕ) → position_from test i ys ≡ None → count_by test ys ≡ 0
    none [] i h = refl
    none (y ∷ ys) i h = none_first test y ys i (test y) refl (none ys (i + 1)) h

-- the model has what the records have
pub slot_here : (ts : List Tray) (s : Session) (i : ℕ) → slot_at (standing_model ts s) i ≡ slot_in ts (get_or s.slots i no_slot)
slot_here ts s i = get_or-map (slot_in ts) s.slots i no_slot

pub session_here : (ts : List Tray) (ss : List (Option Session)) (p : ℕ) → get_or (map (session_model ts) ss) p None ≡ session_model ts (get_or ss p None)
session_here ts ss p = get_or-map (session_model ts) ss p None

-- the session of the model at a place, from the one that stands there
pub stood : (ts : List Tray) (ss : List (Option Session)) (p : ℕ) (m : SessionM) → get_or (map (session_model ts) ss) p None ≡ Some m → (s : Session) × (get_or ss p None ≡ Some s) × (m ≡ standing_model ts s)
stood ts ss p m e = go (get_or ss p None) (sym (session_here ts ss p) ∙ e)
  where
    go : (o : Option Session) → session_model ts o ≡ Some m → (s : Session) × (o ≡ Some s) × (m ≡ standing_model ts s)
    go None h = absurd (let z : ◌≡◌ {A = ℕ} 0 1 = cc in omega arith)
    go (Some s) h = (s, refl, cc)

-- what the code reads at a place, or at a slot, is there
pub stands_at : (v : Server) (p : ℕ) (d : Option Session) (s : Session) → p < 8 → get_or v.sessions p d ≡ Some s → get_or v.sessions p None ≡ Some s
stands_at v p d s low e = get_or_default v.sessions p None d (omega (arith, v.whole)) ∙ e

-- trays of which only one differs, and slots that do not own that one
module _ (ts us : List Tray) (k : ℕ) (others : (j : ℕ) → (j ≡ k → ⊥) → get_or us j no_tray ≡ get_or ts j no_tray) where
  slot_same : (y : Slot) → (y.tray ≡ Some k → ⊥) → slot_in us y ≡ slot_in ts y
  slot_same y ne = ap (λ t. slot_model t y) (go y.tray refl)
    where
      go : (o : Option ℕ) → y.tray ≡ o → tray_at us o ≡ tray_at ts o
      go None e = refl
      go (Some j) e = others j (λ q. ne (e ∙ ap Some q))

  session_same : (o : Option Session) → ((n : ℕ) → tray_in o n ≡ Some k → ⊥) → session_model us o ≡ session_model ts o
  session_same None ne = refl
  session_same (Some r) ne = ap (λ xs. Some (record { id = id_model r.id; target = r.target; slots = xs })) (map_same (slot_in us) (slot_in ts) r.slots no_slot (λ n. slot_same (get_or r.slots n no_slot) (ne n)))

  -- slot i of the session at place p changes, and owns that tray before or after
  module _ (ss : List (Option Session)) (p i : ℕ) (s s' : Session) (x' : Slot) (hs : get_or ss p None ≡ Some s) (hi : i < length s.slots) (slots : s'.slots ≡ set s.slots i x') (m : Marked ss ts) (mine : (j n : ℕ) → (get_or ts k no_tray).owner ≡ Some (spot j n) → (j ≡ p) × (n ≡ i)) where
    abbrev x : Slot
    x = get_or s.slots i no_slot

    away : (j n : ℕ) → (j ≡ p → n ≡ i → ⊥) → tray_of ss j n ≡ Some k → ⊥
    away j n ne e = let o = mine j n (m j n k e) in ne o.0 o.1

    there : tray_of ss p i ≡ x.tray
    there = ap (λ o. tray_in o i) hs

    placed_session : get_or (set ss p (Some s')) p None ≡ Some s'
    placed_session = get_or-set_same ss p (Some s') None (within ss p s hs)

    slot_same_there : (n : ℕ) → (n ≡ i → ⊥) → tray_in (Some s') n ≡ tray_of ss p n
    slot_same_there n ne =
        ap (λ xs. (get_or xs n no_slot).tray) slots
        ∙ ap (λ (y : Slot). y.tray) (get_or-set_other s.slots i n x' no_slot ne)
        ∙ sym (ap (λ o. tray_in o n) hs)

    pub marked : ((j : ℕ) → x'.tray ≡ Some j → (get_or us j no_tray).owner ≡ Some (spot p i)) → Marked (set ss p (Some s')) us
    marked own j n l e = ⊎_elim here elsewhere (cases_eq j p)
      where
        kept : (j ≡ p → n ≡ i → ⊥) → tray_of ss j n ≡ Some l → (get_or us l no_tray).owner ≡ Some (spot j n)
        kept ne h = ap (λ (t : Tray). t.owner) (others l (λ q. away j n ne (h ∙ ap Some q))) ∙ m j n l h

        elsewhere : (j ≡ p → ⊥) → (get_or us l no_tray).owner ≡ Some (spot j n)
        elsewhere ne = kept (λ q _. ne q) (sym (ap (λ o. tray_in o n) (get_or-set_other ss p j (Some s') None ne)) ∙ e)

        here : j ≡ p → (get_or us l no_tray).owner ≡ Some (spot j n)
        here q =
            let h : tray_in (Some s') n ≡ Some l = sym (ap (λ o. tray_in o n) (ap (λ u. get_or (set ss p (Some s')) u None) q ∙ placed_session)) ∙ e in
            ⊎_elim
            (λ r. (let g : x'.tray ≡ Some l = sym (ap (λ u. (get_or s'.slots u no_slot).tray) r ∙ ap (λ xs. (get_or xs i no_slot).tray) slots ∙ ap (λ (y : Slot). y.tray) (get_or-set_same s.slots i x' no_slot hi)) ∙ h in own l g ∙ (λ u. Some (spot (sym q u) (sym r u)))))
            (λ r. kept (λ _ w. r w) (ap (λ u. tray_of ss u n) q ∙ sym (slot_same_there n r) ∙ h))
            (cases_eq n i)

    open_sum : sum_by slots_open (set ss p (Some s')) + one (is_some x.tray) ≡ sum_by slots_open ss + one (is_some x'.tray)
    open_sum =
        let live : Slot → Bool = λ y. is_some y.tray in
        let a = sum_by-set slots_open ss p (Some s') None (within ss p s hs) in
        let a' : slots_open (get_or ss p None) ≡ count_by live s.slots = ap slots_open hs in
        let b : count_by live (set s.slots i x') + one (live x) ≡ count_by live s.slots + one (live x') = sum_by-set (λ y. one (live y)) s.slots i x' no_slot hi in
        let b' : slots_open (Some s') ≡ count_by live (set s.slots i x') = ap (count_by live) slots in
        omega arith

    pub counted : count_by is_free ts + sum_by slots_open ss ≡ 64 → count_by is_free us + one (is_some x'.tray) ≡ count_by is_free ts + one (is_some x.tray) → count_by is_free us + sum_by slots_open (set ss p (Some s')) ≡ 64
    counted h f = let a = open_sum in omega arith

    pub placed : s'.id ≡ s.id → s'.target ≡ s.target → (f : SlotM → SlotM) → slot_in us x' ≡ f (slot_in ts x) → map (session_model us) (set ss p (Some s')) ≡ change_in (map (session_model ts) ss) p (at_slot f i)
    placed id target f e =
        map_apart (session_model us) (session_model ts) ss p (Some s') None _ session_then (λ j ne. session_same (get_or ss j None) (λ n q. away j n (λ r _. ne r) q))
      where
        slots_then : map (slot_in us) s'.slots ≡ set (map (slot_in ts) s.slots) i (f (slot_at (standing_model ts s) i))
        slots_then =
            ap (map (slot_in us)) slots
            ∙ map_apart (slot_in us) (slot_in ts) s.slots i x' no_slot _ (e ∙ sym (ap f (slot_here ts s i)))
            (λ n ne. slot_same (get_or s.slots n no_slot) (λ q. away p n (λ _ r. ne r) (ap (λ o. tray_in o n) hs ∙ q)))

        session_then : session_model us (Some s') ≡ option_map (at_slot f i) (get_or (map (session_model ts) ss) p None)
        session_then =
            (λ u. Some (record { id = id_model (id u); target = target u; slots = slots_then u }))
            ∙ sym (ap (option_map (at_slot f i)) (session_here ts ss p ∙ ap (session_model ts) hs))

-- slot i of the session at place p changes with a tray, which it owns before or after
module _ (ss : List (Option Session)) (ts : List Tray) (p i k : ℕ) (s s' : Session) (x' : Slot) (t : Tray) (hs : get_or ss p None ≡ Some s) (hi : i < length s.slots) (slots : s'.slots ≡ set s.slots i x') (o : Owned ss ts) (hk : k < length ts) where
  abbrev old : Slot
  old = get_or s.slots i no_slot

  others : (j : ℕ) → (j ≡ k → ⊥) → get_or (set ts k t) j no_tray ≡ get_or ts j no_tray
  others j ne = get_or-set_other ts k j t no_tray ne

  own : x'.tray ≡ Some k → t.owner ≡ Some (spot p i) → (j : ℕ) → x'.tray ≡ Some j → (get_or (set ts k t) j no_tray).owner ≡ Some (spot p i)
  own e w j h = let q : k ≡ j = cc in ap (λ n. (get_or (set ts k t) n no_tray).owner) (sym q) ∙ ap (λ (u : Tray). u.owner) (get_or-set_same ts k t no_tray hk) ∙ w

  put : ((j n : ℕ) → (get_or ts k no_tray).owner ≡ Some (spot j n) → (j ≡ p) × (n ≡ i)) → ((j : ℕ) → x'.tray ≡ Some j → (get_or (set ts k t) j no_tray).owner ≡ Some (spot p i)) → one (is_free t) + one (is_some x'.tray) ≡ one (is_free (get_or ts k no_tray)) + one (is_some old.tray) → Owned (set ss p (Some s')) (set ts k t)
  put mine w e =
      let c : count_by is_free (set ts k t) + one (is_free (get_or ts k no_tray)) ≡ count_by is_free ts + one (is_free t) = sum_by-set (λ u. one (is_free u)) ts k t no_tray hk in
      (marked ts (set ts k t) k others ss p i s s' x' hs hi slots o.0 mine w, counted ts (set ts k t) k others ss p i s s' x' hs hi slots o.0 mine o.1 (omega arith))

  -- it owns the tray before
  module _ (h : old.tray ≡ Some k) where
    owner_is : (get_or ts k no_tray).owner ≡ Some (spot p i)
    owner_is = o.0 p i k (ap (λ r. tray_in r i) hs ∙ h)

    mine : (j n : ℕ) → (get_or ts k no_tray).owner ≡ Some (spot j n) → (j ≡ p) × (n ≡ i)
    mine j n e =
        let w : Some (spot j n) ≡ Some (spot p i) = sym e ∙ owner_is in
        let q : spot j n ≡ spot p i = cc in
        (ap (λ (u : Spot). u.place) q, ap (λ (u : Spot). u.slot) q)

    was_taken : one (is_free (get_or ts k no_tray)) ≡ 0
    was_taken = ap (λ r. one (not (is_some r))) owner_is

    was_open : one (is_some old.tray) ≡ 1
    was_open = ap (λ r. one (is_some r)) h

    pub freed : x'.tray ≡ None → t.owner ≡ None → Owned (set ss p (Some s')) (set ts k t)
    freed e w =
        let a : one (is_free t) ≡ 1 = ap (λ r. one (not (is_some r))) w in
        let b : one (is_some x'.tray) ≡ 0 = ap (λ r. one (is_some r)) e in
        put mine (λ j q. absurd (let z : ◌≡◌ {A = ℕ} 0 1 = cc in omega arith)) (omega (arith, a, b, was_taken, was_open))

    pub kept : x'.tray ≡ Some k → t.owner ≡ Some (spot p i) → Owned (set ss p (Some s')) (set ts k t)
    kept e w =
        let a : one (is_free t) ≡ 0 = ap (λ r. one (not (is_some r))) w in
        let b : one (is_some x'.tray) ≡ 1 = ap (λ r. one (is_some r)) e in
        put mine (own e w) (omega (arith, a, b, was_taken, was_open))

    pub held_state : s'.id ≡ s.id → s'.target ≡ s.target → (f : SlotM → SlotM) → slot_in (set ts k t) x' ≡ f (slot_in ts old) → map (session_model (set ts k t)) (set ss p (Some s')) ≡ change_in (map (session_model ts) ss) p (at_slot f i)
    held_state id target f e = placed ts (set ts k t) k others ss p i s s' x' hs hi slots o.0 mine id target f e

  -- no slot owns it before
  module _ (h : (get_or ts k no_tray).owner ≡ None) where
    nobody : (j n : ℕ) → (get_or ts k no_tray).owner ≡ Some (spot j n) → (j ≡ p) × (n ≡ i)
    nobody j n e = absurd (let z : ◌≡◌ {A = ℕ} 0 1 = cc in omega arith)

    pub taken : old.tray ≡ None → x'.tray ≡ Some k → t.owner ≡ Some (spot p i) → Owned (set ss p (Some s')) (set ts k t)
    taken l e w =
        let a : one (is_free (get_or ts k no_tray)) ≡ 1 = ap (λ r. one (not (is_some r))) h in
        let b : one (is_some old.tray) ≡ 0 = ap (λ r. one (is_some r)) l in
        let c : one (is_free t) ≡ 0 = ap (λ r. one (not (is_some r))) w in
        let d : one (is_some x'.tray) ≡ 1 = ap (λ r. one (is_some r)) e in
        put nobody (own e w) (omega arith)

    pub taken_state : s'.id ≡ s.id → s'.target ≡ s.target → (f : SlotM → SlotM) → slot_in (set ts k t) x' ≡ f (slot_in ts old) → map (session_model (set ts k t)) (set ss p (Some s')) ≡ change_in (map (session_model ts) ss) p (at_slot f i)
    taken_state id target f e = placed ts (set ts k t) k others ss p i s s' x' hs hi slots o.0 nobody id target f e

pub shut_is : (ts : List Tray) (ss : List (Option Session)) (p i : ℕ) → when_found {X = ℕ} 0 (λ s. cond (slot_at s i).is_open 0 1) (get_or (map (session_model ts) ss) p None) ≡ shut_in ss p i
shut_is ts ss p i = ap (when_found 0 (λ s. cond (slot_at s i).is_open 0 1)) (session_here ts ss p) ∙ go (get_or ss p None)
  where
    go : (o : Option Session) → when_found {X = ℕ} 0 (λ s. cond (slot_at s i).is_open 0 1) (session_model ts o) ≡ when_found 0 (λ (s : Session). cond (is_some (tray_in (Some s) i)) 0 1) o
    go None = refl
    go (Some s) = ap (λ (y : SlotM). cond y.is_open 0 1) (slot_here ts s i)

pub taken_count : (ts : List Tray) (k : ℕ) (t : Tray) (q : Spot) → k < length ts → (get_or ts k no_tray).owner ≡ None → t.owner ≡ Some q → count_by is_free (set ts k t) + 1 ≡ count_by is_free ts
taken_count ts k t q hk h w =
    let a : one (is_free (get_or ts k no_tray)) ≡ 1 = ap (λ r. one (not (is_some r))) h in
    let b : one (is_free t) ≡ 0 = ap (λ r. one (not (is_some r))) w in
    let c : count_by is_free (set ts k t) + one (is_free (get_or ts k no_tray)) ≡ count_by is_free ts + one (is_free t) = sum_by-set (λ u. one (is_free u)) ts k t no_tray hk in
    omega arith

-- slot i of the session at place p changes, and all trays stay as they are
module _ (ss : List (Option Session)) (ts : List Tray) (p i : ℕ) (s s' : Session) (x' : Slot) (hs : get_or ss p None ≡ Some s) (hi : i < length s.slots) (slots : s'.slots ≡ set s.slots i x') (o : Owned ss ts) where
  past : (j n : ℕ) → (get_or ts (length ts) no_tray).owner ≡ Some (spot j n) → (j ≡ p) × (n ≡ i)
  past j n e =
      let q = sym (ap (λ (t : Tray). t.owner) (get_or-eq_default ts no_tray {n = length ts} (omega arith))) ∙ e in
      absurd (let z : ◌≡◌ {A = ℕ} 0 1 = cc in omega arith)

  pub still_owned : x'.tray ≡ (get_or s.slots i no_slot).tray → Owned (set ss p (Some s')) ts
  still_owned e =
      (marked ts ts (length ts) (λ j _. refl) ss p i s s' x' hs hi slots o.0 past (λ j q. o.0 p i j (ap (λ r. tray_in r i) hs ∙ sym e ∙ q)), counted ts ts (length ts) (λ j _. refl) ss p i s s' x' hs hi slots o.0 past o.1 (ap (λ r. count_by is_free ts + one (is_some r)) e))

  pub still_state : s'.id ≡ s.id → s'.target ≡ s.target → (f : SlotM → SlotM) → slot_in ts x' ≡ f (slot_in ts (get_or s.slots i no_slot)) → map (session_model ts) (set ss p (Some s')) ≡ change_in (map (session_model ts) ss) p (at_slot f i)
  still_state id target f e = placed ts ts (length ts) (λ j _. refl) ss p i s s' x' hs hi slots o.0 past id target f e

-- a slot that is shut wants one tray
pub shut_one : (ss : List (Option Session)) (p i : ℕ) (s : Session) → get_or ss p None ≡ Some s → (get_or s.slots i no_slot).tray ≡ None → shut_in ss p i ≡ 1
shut_one ss p i s hs h = ap (λ o. when_found 0 (λ (r : Session). cond (is_some (tray_in (Some r) i)) 0 1) o) hs ∙ ap (λ o. cond (is_some o) 0 1) h

pub none_if : {X : Type 0} (o : Option X) → is_some o ≡ false → o ≡ None
none_if None h = refl
none_if (Some x) h = absurd (clash (sym h))

pub free_none : (t : Tray) → is_free t ≡ true → t.owner ≡ None
free_none t e = go t.owner e
  where
    go : (o : Option Spot) → not (is_some o) ≡ true → o ≡ None
    go None h = refl
    go (Some q) h = absurd (clash h)

-- the trays, as the model counts them
pub open_slots_is : (ts : List Tray) (o : Option Session) → open_slots (session_model ts o) ≡ slots_open o
open_slots_is ts None = refl
open_slots_is ts (Some s) = sum_map_is (λ (x : SlotM). one x.is_open) (slot_in ts) s.slots

pub open_sum_is : (ts : List Tray) (ss : List (Option Session)) → sum_by open_slots (map (session_model ts) ss) ≡ sum_by slots_open ss
open_sum_is ts ss = sum_map_is open_slots (session_model ts) ss ∙ ap (λ f. sum_by f ss) (λ i o. open_slots_is ts o i)

pub free_of : (boot count : ℕ) (ts us : List Tray) (ss : List (Option Session)) → count_by is_free ts + sum_by slots_open ss ≡ 64 → free_trays (record { boot = boot; count = count; sessions = map (session_model us) ss }) ≡ count_by is_free ts
unfolding free_trays
free_of boot count ts us ss b = let a = open_sum_is us ss in ap (λ n. 64 - n) a ∙ omega arith

pub free_is : (v : Server) → free_trays (model v) ≡ count_by is_free v.trays
free_is v = free_of v.boot v.count v.trays v.trays v.sessions v.counted
