-- What a search for a name finds.
use Rattle.std.proofs.Common.{◌≡◌, ℕ, zero, suc, ◌+◌, ◌-◌, ◌≤◌, Bool, true, false, cond, ◌&&◌, eqb, List, [], ◌∷◌, ◌++◌, length, replicate, get_or, is_some, IfSome, Some, None, Option, sym, refl, ap, ◌∙◌, arith}
use borrow.Author.Tests.{clash}
use lib.Pointwise.{pointwise}
use Rattle.std.proofs.Math.Dec.{eqb-suc-suc}
use Rattle.std.proofs.lemmas.Bool.{eq-eqb}
use Rattle.std.specs.Str.{bytes_eq}
use Rattle.common.specs.Bytes.{Bytes}
use Rattle.common.specs.Search.{lowest_at}
use Rattle.tree.specs.Tree.{Nodes, Node, node_at, is_there, is_named, named}

-- what is found passes the test
pub lowest_found : {X : Type 0} (test : X → Bool) (xs : List X) (k i : ℕ) (d : X) → lowest_at test xs k ≡ Some i → (k ≤ i) × (test (get_or xs (i - k) d) ≡ true)
lowest_found test [] k i d e = absurd (let z : ◌≡◌ {A = ℕ} 0 1 = cc in omega arith)
lowest_found test (x ∷ xs) k i d e = go (lowest_found test xs (k + 1) i d) (test x) refl e
  where
    go : (lowest_at test xs (k + 1) ≡ Some i → (k + 1 ≤ i) × (test (get_or xs (i - (k + 1)) d) ≡ true)) → (t : Bool) → test x ≡ t → cond t (Some k) (lowest_at test xs (k + 1)) ≡ Some i → (k ≤ i) × (test (get_or (x ∷ xs) (i - k) d) ≡ true)
    go rest true passes found =
        let same : k ≡ i = cc in
        let first : i - k ≡ 0 = omega arith in
        (omega arith, rw first passes)
    go rest false passes found =
        let later = rest found in
        let next : i - k ≡ suc (i - (k + 1)) = omega (arith, later.0) in
        (omega (arith, later.0), rw next later.1)

-- a node that has a name is there
named_is_there : (o : Option Node) (parent : ℕ) (name : Bytes) → is_named parent name o ≡ true → is_some o ≡ true
named_is_there None parent name e = absurd (clash e)
named_is_there (Some n) parent name e = refl

pub found_named : (ns : Nodes) (parent : ℕ) (name : Bytes) (i : ℕ) → named ns parent name ≡ Some i → is_named parent name (node_at ns i) ≡ true
found_named ns parent name i e =
    let all : i - 0 ≡ i = omega arith in
    rw all at (lowest_found (is_named parent name) ns 0 i None e).1

pub found_there : (ns : Nodes) (parent : ℕ) (name : Bytes) (r : Option ℕ) → r ≡ named ns parent name → IfSome r (λ i. is_there ns i ≡ true)
found_there ns parent name None e = tt
found_there ns parent name (Some i) e = named_is_there (node_at ns i) parent name (found_named ns parent name i (sym e))

-- where nothing is found, nothing passes the test
pub lowest_none : {X : Type 0} (test : X → Bool) (xs : List X) (k j : ℕ) (d : X) → test d ≡ false → is_some (lowest_at test xs k) ≡ false → test (get_or xs j d) ≡ false
lowest_none test [] k j d fails none = fails
lowest_none test (x ∷ xs) k j d fails none = go (test x) j refl (λ i e. lowest_none test xs (k + 1) i d fails e) none
  where
    go : (t : Bool) (j : ℕ) → test x ≡ t → ((i : ℕ) → is_some (lowest_at test xs (k + 1)) ≡ false → test (get_or xs i d) ≡ false) → is_some (cond t (Some k) (lowest_at test xs (k + 1))) ≡ false → test (get_or (x ∷ xs) j d) ≡ false
    go true j e rest none = absurd (clash (sym none))
    go false zero e rest none = e
    go false (suc j) e rest none = rest j none

-- what passes is found
pub lowest_some : {X : Type 0} (test : X → Bool) (xs : List X) (j : ℕ) (d : X) → test d ≡ false → test (get_or xs j d) ≡ true → (i : ℕ) × (lowest_at test xs 0 ≡ Some i)
lowest_some test xs j d fails passes = go (lowest_at test xs 0) refl
  where
    go : (o : Option ℕ) → lowest_at test xs 0 ≡ o → (i : ℕ) × (lowest_at test xs 0 ≡ Some i)
    go None e = absurd (clash (sym (lowest_none test xs 0 j d fails (ap is_some e)) ∙ passes))
    go (Some i) e = (i, e)

-- two byte strings of a fixed length are the same with what fills them up exactly when they are without it
pointwise_self : (xs : List ℕ) → pointwise eqb xs xs ≡ true
pointwise_self [] = refl
pointwise_self (x ∷ xs) = rw (eq-eqb x x refl) (pointwise_self xs)

padded_eq : (zeros : ℕ → List ℕ) (xs ys : List ℕ) → (pointwise eqb (xs ++ zeros (length xs)) (ys ++ zeros (length ys)) && eqb (length xs) (length ys)) ≡ pointwise eqb xs ys
padded_eq zeros [] [] = rw (pointwise_self (zeros 0)) refl
padded_eq zeros [] (y ∷ ys) = grind arith
padded_eq zeros (x ∷ xs) [] = grind arith
padded_eq zeros (x ∷ xs) (y ∷ ys) = rw (eqb-suc-suc (length xs) (length ys)) (go (eqb x y) (padded_eq (λ n. zeros (suc n)) xs ys))
  where
    go : (t : Bool) → (pointwise eqb (xs ++ zeros (suc (length xs))) (ys ++ zeros (suc (length ys))) && eqb (length xs) (length ys)) ≡ pointwise eqb xs ys → ((t && pointwise eqb (xs ++ zeros (suc (length xs))) (ys ++ zeros (suc (length ys)))) && eqb (length xs) (length ys)) ≡ (t && pointwise eqb xs ys)
    go true e = e
    go false e = refl

pub same_name : (xs ys : List ℕ) → (pointwise eqb (xs ++ replicate (16 - length xs) 0) (ys ++ replicate (16 - length ys) 0) && eqb (length xs) (length ys)) ≡ bytes_eq xs ys
same_name xs ys = padded_eq (λ n. replicate (16 - n) 0) xs ys
