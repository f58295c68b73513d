-- What holds of the answers to the questions that a table is asked.
use Rattle.std.proofs.Common.{◌≡◌, ℕ, zero, suc, ◌+◌, ◌<◌, ◌≤◌, Bool, true, false, cond, List, [], ◌∷◌, ◌++◌, map, min, length, get_or, take, drop, Some, refl, ap, ◌∙◌, arith}
use Rattle.std.proofs.lemmas.Bool.{cond_both}
use Rattle.common.specs.Search.{lowest_at}
use Rattle.slots.specs.Slots.{highest_at, front_changed}

-- i = k + at is the lowest index, counted from k, at which the test holds
pub record Lowest {X : Type 0} (test : X → Bool) (xs : List X) (k i : ℕ) (d : X) : Type 0 where
  pub at : ℕ
  pub is : i ≡ k + at
  pub within : at < length xs
  pub holds : test (get_or xs at d) ≡ true

pub lowest_some : {X : Type 0} (test : X → Bool) (xs : List X) (k i : ℕ) (d : X) → lowest_at test xs k ≡ Some i → Lowest test xs k i d
lowest_some test [] k i d e = absurd (let z : ◌≡◌ {A = ℕ} 0 1 = cc in omega arith)
lowest_some test (x ∷ xs) k i d e = go (test x) refl (lowest_some test xs (k + 1) i d) e
  where
    more : Lowest test xs (k + 1) i d → Lowest test (x ∷ xs) k i d
    more r = record { at = suc r.at; is = omega arith; within = omega arith; holds = r.holds }

    go : (b : Bool) → test x ≡ b → (lowest_at test xs (k + 1) ≡ Some i → Lowest test xs (k + 1) i d) → cond b (Some k) (lowest_at test xs (k + 1)) ≡ Some i → Lowest test (x ∷ xs) k i d
    go true h rest e = let n : k ≡ i = cc in record { at = 0; is = omega arith; within = omega arith; holds = h }
    go false h rest e = more (rest e)

pub lowest_map : {X Y : Type 0} (test : Y → Bool) (f : X → Y) (xs : List X) (i : ℕ) → lowest_at test (map f xs) i ≡ lowest_at (λ x. test (f x)) xs i
lowest_map test f [] i = refl
lowest_map test f (x ∷ xs) i = ap (cond (test (f x)) (Some i)) (lowest_map test f xs (i + 1))

pub highest_map : {X Y : Type 0} (test : Y → Bool) (f : X → Y) (xs : List X) (i best : ℕ) → highest_at test (map f xs) i best ≡ highest_at (λ x. test (f x)) xs i best
highest_map test f [] i best = refl
highest_map test f (x ∷ xs) i best = highest_map test f xs (i + 1) (cond (test (f x)) i best)

pub highest_low : {X : Type 0} (test : X → Bool) (n : ℕ) (xs : List X) (i best : ℕ) → best ≤ n → i + length xs ≤ n + 1 → highest_at test xs i best ≤ n
highest_low test n [] i best h l = h
highest_low test n (x ∷ xs) i best h l =
    highest_low test n xs (i + 1) (cond (test x) i best) (cond_both (test x) i best (λ y. y ≤ n) (λ _. omega arith) (λ _. h)) (omega arith)

-- past the end nothing more is changed
pub front_end : {X : Type 0} (change : X → X) (i n : ℕ) (xs : List X) → i ≤ n → (i < n → length xs ≤ i) → front_changed change i xs ≡ front_changed change n xs
front_end change zero zero xs h l = refl
front_end change zero (suc n) [] h l = refl
front_end change zero (suc n) (x ∷ xs) h l = absurd (let z : suc (length xs) ≤ 0 = l (omega arith) in omega arith)
front_end change (suc i) zero xs h l = absurd (omega arith)
front_end change (suc i) (suc n) [] h l = refl
front_end change (suc i) (suc n) (x ∷ xs) h l =
    ap (λ ys. change x ∷ ys) (front_end change i n xs (omega arith) (λ less. let z : suc (length xs) ≤ suc i = l (omega arith) in omega arith))

-- all changed
pub front_map : {X : Type 0} (change : X → X) (n : ℕ) (xs : List X) → length xs ≤ n → front_changed change n xs ≡ map change xs
front_map change zero [] h = refl
front_map change (suc n) [] h = refl
front_map change zero (x ∷ xs) h = absurd (omega arith)
front_map change (suc n) (x ∷ xs) h = ap (λ ys. change x ∷ ys) (front_map change n xs (omega arith))

-- the first n changed, once those before `end` are and all others stand behind them
pub front_all : {X : Type 0} (change : X → X) (i end n : ℕ) (xs ys : List X) → ys ≡ front_changed change i (take end xs) → end ≡ min n (length xs) → length (take end xs) ≤ i → ys ++ drop end xs ≡ front_changed change n xs
front_all change i end n xs ys e m l =
    ap (λ rs. rs ++ drop end xs) (e ∙ front_map change i (take end xs) l) ∙ front_end change end n xs (omega arith) (λ less. omega arith)

pub front_length : {X : Type 0} (change : X → X) (n : ℕ) (xs : List X) → length (front_changed change n xs) ≡ length xs
front_length change zero xs = refl
front_length change (suc n) [] = refl
front_length change (suc n) (x ∷ xs) = ap suc (front_length change n xs)

-- a change that another form of the records shows as its own
pub front_shown : {X Y : Type 0} (show : X → Y) (change : X → X) (changed : Y → Y) → ((x : X) → show (change x) ≡ changed (show x)) → (n : ℕ) (xs : List X) → map show (front_changed change n xs) ≡ front_changed changed n (map show xs)
front_shown show change changed e zero xs = refl
front_shown show change changed e (suc n) [] = refl
front_shown show change changed e (suc n) (x ∷ xs) = (λ i. e x i ∷ front_shown show change changed e n xs i)
