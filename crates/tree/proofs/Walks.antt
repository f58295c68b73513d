-- The walk from a node up to the root.
use Rattle.std.proofs.Common.{◌≡◌, ℕ, zero, suc, ◌+◌, ◌-◌, ◌<◌, ◌≤◌, Bool, true, false, ◌&&◌, ◌||◌, eqb, ◌⊎◌, length, is_some, Some, None, sym, refl, ap, ◌∙◌, subst, inl, inr, arith}
use borrow.Author.Tests.{clash}
use Rattle.std.proofs.lemmas.List.{get_or_past}
use Rattle.std.proofs.lemmas.Bool.{cases_lt, eqb-true, eq-eqb}
use Rattle.tree.specs.Tree.{Nodes, Node, node_at, is_there, parent_of, is_within}
use Rattle.tree.specs.Shape.{Beneath, itself, deeper, WalkDecides}
use Rattle.tree.proofs.Counts.{count, count_le, count_more}

module _ (ns : Nodes) (top i : ℕ) where
  pub walk_none : is_within zero ns top i ≡ false
  unfolding is_within
  walk_none = refl

  pub walk_absent : (n : ℕ) → is_there ns i ≡ false → is_within n ns top i ≡ false
  unfolding is_within
  walk_absent zero out = refl
  walk_absent (suc n) out = rw out

  pub walk_met : (n : ℕ) → is_there ns i ≡ true → eqb i top ≡ true → is_within (suc n) ns top i ≡ true
  unfolding is_within
  walk_met n there met = rw (there, met)

  pub walk_up : (n : ℕ) → is_there ns i ≡ true → eqb i top ≡ false → is_within (suc n) ns top i ≡ is_within n ns top (parent_of (node_at ns i))
  unfolding is_within
  walk_up n there past = rw (there, past)

-- one of 64 steps up
pub walk_on : (ns : Nodes) (top i done : ℕ) (n : Node) → Some n ≡ node_at ns i → eqb i top ≡ false → done < 64 → is_within (64 - (done + 1)) ns top n.parent ≡ is_within (64 - done) ns top i
walk_on ns top i done n at past lt =
    ap (λ o. is_within (64 - (done + 1)) ns top (parent_of o)) at ∙ sym (walk_up ns top i (64 - (done + 1)) (ap is_some (sym at)) past)
    ∙ ap (λ k. is_within k ns top i) (omega arith)

-- or the last one, which meets `top`
pub walk_ends : (ns : Nodes) (top i done : ℕ) (n : Node) → Some n ≡ node_at ns i → eqb i top ≡ true → done < 64 → true ≡ is_within (64 - done) ns top i
walk_ends ns top i done n at met lt =
    sym (walk_met ns top i (64 - (done + 1)) (ap is_some (sym at)) met) ∙ ap (λ k. is_within k ns top i) (omega arith)

-- or no step is left
pub walk_over : (ns : Nodes) (top i n : ℕ) → n ≡ 0 → is_within n ns top i ≡ false
walk_over ns top i n e = rw e (walk_none ns top i)

-- past the nodes there is none
pub none_past : (ns : Nodes) (i : ℕ) → length ns ≤ i → is_there ns i ≡ false
none_past ns i past = rw (get_or_past ns i None past)

-- what is there lies among the nodes
pub there_below : (ns : Nodes) (i : ℕ) → is_there ns i ≡ true → i < length ns
there_below ns i there = go (cases_lt i (length ns))
  where
    go : (i < length ns) ⊎ (length ns ≤ i) → i < length ns
    go (inl l) = l
    go (inr past) = absurd (clash (sym (none_past ns i past) ∙ there))

module _ (ns : Nodes) (top : ℕ) where
  -- a walk of one step or more that meets `top`
  walked : (n i : ℕ) → is_within (suc n) ns top i ≡ true → (is_there ns i ≡ true) × ((eqb i top ≡ true) ⊎ ((eqb i top ≡ false) × (is_within n ns top (parent_of (node_at ns i)) ≡ true)))
  unfolding is_within
  walked n i met = go (is_there ns i) (eqb i top) refl refl met
    where
      go : (a b : Bool) → is_there ns i ≡ a → eqb i top ≡ b → (a && (b || is_within n ns top (parent_of (node_at ns i)))) ≡ true → (is_there ns i ≡ true) × ((eqb i top ≡ true) ⊎ ((eqb i top ≡ false) × (is_within n ns top (parent_of (node_at ns i)) ≡ true)))
      go true true there e met = (there, inl e)
      go true false there e met = (there, inr (e, met))
      go false b there e met = absurd (clash met)

  pub within_more : (n i : ℕ) → is_within n ns top i ≡ true → is_within (suc n) ns top i ≡ true
  within_more zero i met = absurd (clash (sym (walk_none ns top i) ∙ met))
  within_more (suc n) i met = go (within_more n (parent_of (node_at ns i))) (walked n i met)
    where
      go : (is_within n ns top (parent_of (node_at ns i)) ≡ true → is_within (suc n) ns top (parent_of (node_at ns i)) ≡ true) → (is_there ns i ≡ true) × ((eqb i top ≡ true) ⊎ ((eqb i top ≡ false) × (is_within n ns top (parent_of (node_at ns i)) ≡ true))) → is_within (suc (suc n)) ns top i ≡ true
      go rest (there, inl e) = walk_met ns top i (suc n) there e
      go rest (there, inr (e, up)) = walk_up ns top i (suc n) there e ∙ rest up

  pub within_upto : (n m i : ℕ) → n ≤ m → is_within n ns top i ≡ true → is_within m ns top i ≡ true
  within_upto n zero i le met = let none : n ≡ 0 = omega arith in subst (λ k. is_within k ns top i ≡ true) none met
  within_upto n (suc m) i le met = go (within_upto n m i) (cases_lt m n)
    where
      go : (n ≤ m → is_within n ns top i ≡ true → is_within m ns top i ≡ true) → (m < n) ⊎ (n ≤ m) → is_within (suc m) ns top i ≡ true
      go rest (inl more) = let same : n ≡ suc m = omega arith in subst (λ k. is_within k ns top i ≡ true) same met
      go rest (inr less) = within_more m i (rest less met)

  -- a node that takes k steps and no fewer has a node above it for each number of steps below
  deep : (k i : ℕ) → is_within (suc k) ns top i ≡ true → is_within k ns top i ≡ false → k < count (is_within (suc k) ns top) (length ns)
  deep zero i met less =
      omega (arith, count_more (is_within zero ns top) (is_within (suc zero) ns top) (length ns) (within_more zero) i (there_below ns i (walked zero i met).0) less met)
  deep (suc k) i met less = go (deep k (parent_of (node_at ns i))) (walked (suc k) i met)
    where
      go :
          (is_within (suc k) ns top (parent_of (node_at ns i)) ≡ true → is_within k ns top (parent_of (node_at ns i)) ≡ false → k < count (is_within (suc k) ns top) (length ns))
          → (is_there ns i ≡ true) × ((eqb i top ≡ true) ⊎ ((eqb i top ≡ false) × (is_within (suc k) ns top (parent_of (node_at ns i)) ≡ true)))
          → suc k < count (is_within (suc (suc k)) ns top) (length ns)
      go rest (there, inl e) = absurd (clash (sym less ∙ walk_met ns top i k there e))
      go rest (there, inr (e, up)) =
          omega (arith, rest up (sym (walk_up ns top i k there e) ∙ less), count_more (is_within (suc k) ns top) (is_within (suc (suc k)) ns top) (length ns) (within_more (suc k)) i (there_below ns i there) less met)

  -- as many steps as there are nodes suffice
  pub shallow : (n i : ℕ) → is_within n ns top i ≡ true → is_within (length ns) ns top i ≡ true
  shallow zero i met = absurd (clash (sym (walk_none ns top i) ∙ met))
  shallow (suc n) i met = go (shallow n i) (is_within n ns top i) refl
    where
      go : (is_within n ns top i ≡ true → is_within (length ns) ns top i ≡ true) → (t : Bool) → is_within n ns top i ≡ t → is_within (length ns) ns top i ≡ true
      go rest true e = rest e
      go rest false e = within_upto (suc n) (length ns) i (omega (arith, deep n i met e, count_le (is_within (suc n) ns top) (length ns))) met

  pub beneath_within : (n i : ℕ) → is_within n ns top i ≡ true → Beneath ns top i
  beneath_within zero i met = absurd (clash (sym (walk_none ns top i) ∙ met))
  beneath_within (suc n) i met = go (beneath_within n (parent_of (node_at ns i))) (walked n i met)
    where
      go : (is_within n ns top (parent_of (node_at ns i)) ≡ true → Beneath ns top (parent_of (node_at ns i))) → (is_there ns i ≡ true) × ((eqb i top ≡ true) ⊎ ((eqb i top ≡ false) × (is_within n ns top (parent_of (node_at ns i)) ≡ true))) → Beneath ns top i
      go rest (there, inl e) = itself there (eqb-true i top e)
      go rest (there, inr (e, up)) = deeper there (rest up)

  within_beneath : (i : ℕ) → Beneath ns top i → (n : ℕ) × (is_within n ns top i ≡ true)
  within_beneath i (itself there e) = (1, walk_met ns top i 0 there (eq-eqb i top e))
  within_beneath i (deeper there b) = go (within_beneath (parent_of (node_at ns i)) b) (eqb i top) refl
    where
      go : (n : ℕ) × (is_within n ns top (parent_of (node_at ns i)) ≡ true) → (t : Bool) → eqb i top ≡ t → (n : ℕ) × (is_within n ns top i ≡ true)
      go (n, up) true e = (suc n, walk_met ns top i n there e)
      go (n, up) false e = (suc n, walk_up ns top i n there e ∙ up)

-- 64 steps decide
pub walk_decides : (ns : Nodes) → length ns ≤ 64 → WalkDecides ns
walk_decides ns short top i = (beneath_within ns top 64 i, λ b. let w = within_beneath ns top i b in within_upto ns top (length ns) 64 i short (shallow ns top w.0 i w.1))
