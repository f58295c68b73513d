-- Tables: the lowest index that passes a test, a write to one place, and the session of an id.
use Rattle.std.proofs.Common.{◌≡◌, ℕ, zero, suc, ◌+◌, ◌<◌, ◌≤◌, Bool, true, false, eqb, ◌≢◌, List, [], ◌∷◌, length, get_or, set, replicate, Some, None, Option, sym, refl, ap, ◌∙◌, ⊎_elim, arith}
use borrow.Author.Tests.{clash}
use Rattle.std.proofs.lemmas.List.{get_or-set_same, get_or-set_other, get_or_past}
use Rattle.std.proofs.lemmas.Bool.{eq-eqb, eqb-true, cases_eq, cases_lt, cases_Bool, and_parts, and_from, cond-true, cond-false}
use Rattle.wire.specs.Wire.{SessionId, same_id}
use Rattle.common.specs.Search.{when_found, lowest_at}
use Rattle.slots.specs.Slots.{front_changed}
use Rattle.server.specs.Server.{ServerM, SessionM, has_id, place_of, session_of, with_session}

pub some_same : {A : Type 0} (x y : A) → ◌≡◌ {A = Option A} (Some x) (Some y) → x ≡ y
some_same x y e = cc

pub some_none : {A : Type 0} (x : A) → ◌≡◌ {A = Option A} (Some x) None → ⊥
some_none x e = let z : ◌≡◌ {A = ℕ} 0 1 = cc in omega arith

-- what holds of each place of a table, after a write to one
pub at_each : {X : Type 0} (Q : ℕ → X → Type 0) (xs : List X) (i : ℕ) (v d : X) → i < length xs → Q i v → ((j : ℕ) → j ≢ i → Q j (get_or xs j d)) → (j : ℕ) → Q j (get_or (set xs i v) j d)
at_each Q xs i v d within new old j = ⊎_elim same_place other (cases_eq j i)
  where
    same_place : j ≡ i → Q j (get_or (set xs i v) j d)
    same_place e =
        let at : get_or (set xs i v) i d ≡ v = get_or-set_same xs i v d within in
        rw e (rw at new)

    other : (j ≡ i → ⊥) → Q j (get_or (set xs i v) j d)
    other ne = rw (get_or-set_other xs i j v d ne) (old j ne)

-- a place with something in it is within the table
pub within : {X : Type 0} (xs : List (Option X)) (p : ℕ) (x : X) → get_or xs p None ≡ Some x → p < length xs
within xs p x e = ⊎_elim (λ lt. lt) (λ le. absurd (some_none x (sym e ∙ get_or_past xs p None le))) (cases_lt p (length xs))

pub rest_of : {X : Type 0} (n i : ℕ) (d : X) → get_or (replicate n d) i d ≡ d
rest_of zero i d = refl
rest_of (suc n) zero d = refl
rest_of (suc n) (suc i) d = rest_of n i d

-- the first n changed
pub front_inside : {X : Type 0} (f : X → X) (n : ℕ) (xs : List X) (i : ℕ) (d : X) → i < n → i < length xs → get_or (front_changed f n xs) i d ≡ f (get_or xs i d)
front_inside f zero xs i d lt within = absurd (omega arith)
front_inside f (suc n) [] i d lt within = absurd (omega arith)
front_inside f (suc n) (x ∷ xs) zero d lt within = refl
front_inside f (suc n) (x ∷ xs) (suc i) d lt within = front_inside f n xs i d (omega arith) (omega arith)

pub front_outside : {X : Type 0} (f : X → X) (n : ℕ) (xs : List X) (i : ℕ) (d : X) → n ≤ i → get_or (front_changed f n xs) i d ≡ get_or xs i d
front_outside f zero xs i d le = refl
front_outside f (suc n) [] i d le = refl
front_outside f (suc n) (x ∷ xs) zero d le = absurd (omega arith)
front_outside f (suc n) (x ∷ xs) (suc i) d le = front_outside f n xs i d (omega arith)

pub front_length : {X : Type 0} (f : X → X) (n : ℕ) (xs : List X) → length (front_changed f n xs) ≡ length xs
front_length f zero xs = refl
front_length f (suc n) [] = refl
front_length f (suc n) (x ∷ xs) = ap suc (front_length f n xs)

-- the lowest index that passes a test, counted from i
module _ {X : Type 0} (test : X → Bool) where
  pub lowest_is : (xs : List X) (i k : ℕ) (d : X) → k < length xs → test (get_or xs k d) ≡ true → ((j : ℕ) → j < k → test (get_or xs j d) ≡ false) → lowest_at test xs i ≡ Some (i + k)
  lowest_is [] i k d lt t f = absurd (omega arith)
  lowest_is (x ∷ xs) i zero d lt t f = cond-true (test x) (Some i) (lowest_at test xs (i + 1)) t ∙ (let e : i ≡ i + 0 = omega arith in ap Some e)
  lowest_is (x ∷ xs) i (suc k) d lt t f =
      let e : i + 1 + k ≡ i + suc k = omega arith in
      cond-false (test x) (Some i) (lowest_at test xs (i + 1)) (f 0 (omega arith)) ∙ lowest_is xs (i + 1) k d (omega arith) t (λ j l. f (suc j) (omega arith)) ∙ ap Some e

  pub lowest_none : (xs : List X) (i : ℕ) (d : X) → ((j : ℕ) → j < length xs → test (get_or xs j d) ≡ false) → lowest_at test xs i ≡ None
  lowest_none [] i d f = refl
  lowest_none (x ∷ xs) i d f = cond-false (test x) (Some i) (lowest_at test xs (i + 1)) (f 0 (omega arith)) ∙ lowest_none xs (i + 1) d (λ j l. f (suc j) (omega arith))

  -- what a lowest index tells
  pub record Lowest (xs : List X) (d : X) (k : ℕ) : Type 0 where
    pub inside : k < length xs
    pub passes : test (get_or xs k d) ≡ true
    pub first : (j : ℕ) → j < k → test (get_or xs j d) ≡ false

  pub lowest_tells : (xs : List X) (i : ℕ) (d : X) (r : ℕ) → lowest_at test xs i ≡ Some r → (k : ℕ) × (r ≡ i + k) × Lowest xs d k
  lowest_tells [] i d r e = absurd (some_none r (sym e))
  lowest_tells (x ∷ xs) i d r e = ⊎_elim here (λ t. there t (lowest_tells xs (i + 1) d r (sym (cond-false (test x) (Some i) (lowest_at test xs (i + 1)) t) ∙ e))) (cases_Bool (test x))
    where
      here : test x ≡ true → (k : ℕ) × (r ≡ i + k) × Lowest (x ∷ xs) d k
      here t =
          let same : i ≡ r = some_same i r (sym (cond-true (test x) (Some i) (lowest_at test xs (i + 1)) t) ∙ e) in
          (0, omega (arith, same), record { inside = omega arith; passes = t; first = λ j l. absurd (omega (arith, l)) })

      there : test x ≡ false → ((k : ℕ) × (r ≡ i + 1 + k) × Lowest xs d k) → (k : ℕ) × (r ≡ i + k) × Lowest (x ∷ xs) d k
      there t p =
          (suc p.0, omega (arith, p.1), record { inside = omega (arith, p.2.inside); passes = p.2.passes; first = below p.0 p.2.first })
        where
          below : (k : ℕ) → ((j : ℕ) → j < k → test (get_or xs j d) ≡ false) → (j : ℕ) → j < suc k → test (get_or (x ∷ xs) j d) ≡ false
          below k f zero l = t
          below k f (suc j) l = f j (omega arith)

  pub lowest_fails : (xs : List X) (i : ℕ) (d : X) → lowest_at test xs i ≡ None → (j : ℕ) → j < length xs → test (get_or xs j d) ≡ false
  lowest_fails [] i d e j lt = absurd (omega arith)
  lowest_fails (x ∷ xs) i d e j lt = ⊎_elim here (λ t. there t (lowest_fails xs (i + 1) d (sym (cond-false (test x) (Some i) (lowest_at test xs (i + 1)) t) ∙ e))) (cases_Bool (test x))
    where
      here : test x ≡ true → test (get_or (x ∷ xs) j d) ≡ false
      here t = absurd (some_none i (sym (cond-true (test x) (Some i) (lowest_at test xs (i + 1)) t) ∙ e))

      at : test x ≡ false → ((k : ℕ) → k < length xs → test (get_or xs k d) ≡ false) → (k : ℕ) → k < length (x ∷ xs) → test (get_or (x ∷ xs) k d) ≡ false
      at t f zero l = t
      at t f (suc k) l = f k (omega arith)

      there : test x ≡ false → ((k : ℕ) → k < length xs → test (get_or xs k d) ≡ false) → test (get_or (x ∷ xs) j d) ≡ false
      there t f = at t f j lt

-- equal ids
same_parts : (a b : SessionId) → a.boot ≡ b.boot → a.count ≡ b.count → a ≡ b
same_parts a b e f = λ i. record { boot = e i; count = f i }

pub same_id_true : (a b : SessionId) → same_id a b ≡ true → a ≡ b
same_id_true a b e =
    let p = and_parts (eqb a.boot b.boot) (eqb a.count b.count) e in
    same_parts a b (eqb-true _ _ p.0) (eqb-true _ _ p.1)

pub same_id_refl : (a b : SessionId) → a ≡ b → same_id a b ≡ true
same_id_refl a b e = and_from (eqb a.boot b.boot) (eqb a.count b.count) (eq-eqb _ _ (ap (λ x. x.boot) e)) (eq-eqb _ _ (ap (λ x. x.count) e))

pub has_id_true : (id : SessionId) (o : Option SessionM) → has_id id o ≡ true → (s : SessionM) × (o ≡ Some s) × (s.id ≡ id)
has_id_true id None e = absurd (clash e)
has_id_true id (Some s) e = (s, refl, same_id_true s.id id e)

pub has_id_false : (id : SessionId) (o : Option SessionM) → ((s : SessionM) → o ≡ Some s → s.id ≡ id → ⊥) → has_id id o ≡ false
has_id_false id o f = ⊎_elim (λ t. absurd (let p = has_id_true id o t in f p.0 p.1 p.2)) (λ e. e) (cases_Bool (has_id id o))

-- the session of an id that stands at place p alone
module _ (m : ServerM) (p : ℕ) (s : SessionM) (at : get_or m.sessions p None ≡ Some s) (alone : (q : ℕ) (r : SessionM) → get_or m.sessions q None ≡ Some r → r.id ≡ s.id → q ≡ p) where
  pub place_found : (id : SessionId) → s.id ≡ id → place_of m id ≡ Some p
  place_found id e = lowest_is (has_id id) m.sessions 0 p None (within m.sessions p s at) here below ∙ (let z : 0 + p ≡ p = omega arith in ap Some z)
    where
      here : has_id id (get_or m.sessions p None) ≡ true
      here = ap (has_id id) at ∙ same_id_refl s.id id e

      below : (j : ℕ) → j < p → has_id id (get_or m.sessions j None) ≡ false
      below j l = has_id_false id (get_or m.sessions j None) (λ r f g. omega (arith, l, alone j r f (g ∙ sym e)))

  pub session_found : (id : SessionId) → s.id ≡ id → session_of m id ≡ Some s
  unfolding session_of
  session_found id e = ap (when_found None (λ i. get_or m.sessions i None)) (place_found id e) ∙ at

  pub session_set : (id : SessionId) (x : Option SessionM) → s.id ≡ id → with_session m id x ≡ record { boot = m.boot; count = m.count; sessions = set m.sessions p x }
  unfolding with_session
  session_set id x e = ap (λ (y : List (Option SessionM)). record { boot = m.boot; count = m.count; sessions = y }) (ap (when_found m.sessions (λ i. set m.sessions i x)) (place_found id e))

-- no session has that id
pub session_none : (m : ServerM) (id : SessionId) → ((q : ℕ) (r : SessionM) → get_or m.sessions q None ≡ Some r → r.id ≡ id → ⊥) → session_of m id ≡ None
unfolding session_of
session_none m id f = ap (when_found None (λ i. get_or m.sessions i None)) (lowest_none (has_id id) m.sessions 0 None (λ j l. has_id_false id (get_or m.sessions j None) (f j)))

-- what is found by an id
pub session_tells : (m : ServerM) (id : SessionId) (s : SessionM) → session_of m id ≡ Some s → (q : ℕ) × (get_or m.sessions q None ≡ Some s) × (s.id ≡ id)
unfolding session_of
session_tells m id s e = go (place_of m id) refl e
  where
    go : (o : Option ℕ) → place_of m id ≡ o → when_found None (λ i. get_or m.sessions i None) o ≡ Some s → (q : ℕ) × (get_or m.sessions q None ≡ Some s) × (s.id ≡ id)
    go None f g = absurd (some_none s (sym g))
    go (Some q) f g =
        let l = lowest_tells (has_id id) m.sessions 0 None q f in
        let is : q ≡ l.0 = omega (arith, l.1) in
        let t = has_id_true id (get_or m.sessions l.0 None) l.2.passes in
        let same : s ≡ t.0 = some_same s t.0 (sym g ∙ ap (λ i. get_or m.sessions i None) is ∙ t.1) in
        (q, g, ap (λ x. x.id) same ∙ t.2)

-- a place written with what stands there
pub set_same : {X : Type 0} (xs : List (Option X)) (p : ℕ) (x : X) → get_or xs p None ≡ Some x → set xs p (Some x) ≡ xs
set_same [] p x e = refl
set_same (y ∷ ys) zero x e = ap (λ z. z ∷ ys) (sym e)
set_same (y ∷ ys) (suc p) x e = ap (λ z. y ∷ z) (set_same ys p x e)

-- a second write to a place
pub set_twice : {X : Type 0} (xs : List X) (i : ℕ) (a b : X) → set (set xs i a) i b ≡ set xs i b
set_twice [] i a b = refl
set_twice (x ∷ xs) zero a b = refl
set_twice (x ∷ xs) (suc i) a b = ap (λ ys. x ∷ ys) (set_twice xs i a b)

-- a fact of what was found, or of what stands where nothing was
pub found_both : {A X : Type 0} (Q : X → Type 0) (x : X) (go : A → X) (o : Option A) → Q x → ((y : A) → o ≡ Some y → Q (go y)) → Q (when_found x go o)
found_both Q x go None g f = g
found_both Q x go (Some y) g f = f y refl
