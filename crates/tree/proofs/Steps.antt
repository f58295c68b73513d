-- Every content reached is a tree.
use Rattle.std.proofs.Common.{◌≡◌, ℕ, zero, suc, ◌<◌, ◌≤◌, Bool, true, false, cond, ◌&&◌, eqb, ◌⊎◌, List, [], ◌∷◌, length, get_or, set, replicate, is_some, Some, None, Option, sym, refl, ap, ◌∙◌, subst, inl, inr, arith, length-set}
use borrow.Author.Tests.{clash}
use Rattle.std.proofs.lemmas.List.{set_past}
use Rattle.std.proofs.lemmas.Bool.{cases_lt, eqb-true, eqb-false, ne_eqb}
use Rattle.common.specs.Bytes.{Bytes}
use Rattle.common.specs.Search.{lowest_at}
use Rattle.tree.specs.Tree as tree
use Rattle.tree.specs.Tree.{Node, Nodes, TreeAsk, first_nodes, node_at, is_there, is_folder, kind_of, lies_in, is_named, other_named, is_empty, is_within, tree_ask, tree_status, tree_done, tree_after}
use Rattle.tree.specs.Shape.{itself, IsTree, reached, StaysATree, FindsOne, RefusesIntoItself, WalkDecides}
use Rattle.tree.proofs.Walks.{there_below, walk_decides}
use Rattle.tree.proofs.Shape.{folder_there, beneath_there, put_tree, rest_tree, finds_one}

-- what a status of 0 says
make_done : (a b c d : Bool) → ◌≡◌ {A = ℕ} (cond a (cond b (cond c 4 (cond d 5 0)) 3) 2) 0 → (b ≡ true) × (c ≡ false) × (d ≡ false)
make_done true true false false e = (refl, refl, refl)
make_done true true false true e = absurd (omega arith)
make_done true true true d e = absurd (omega arith)
make_done true false c d e = absurd (omega arith)
make_done false b c d e = absurd (omega arith)

remove_done : (a b c : Bool) → ◌≡◌ {A = ℕ} (cond a (cond b 6 (cond c 0 7)) 2) 0 → (a ≡ true) × (b ≡ false) × (c ≡ true)
remove_done true false true e = (refl, refl, refl)
remove_done true false false e = absurd (omega arith)
remove_done true true c e = absurd (omega arith)
remove_done false b c e = absurd (omega arith)

move_done : (a a' b c d w : Bool) → ◌≡◌ {A = ℕ} (cond (a && a') (cond b (cond c 4 (cond d 6 (cond w 8 0))) 3) 2) 0 → (a ≡ true) × (b ≡ true) × (c ≡ false) × (d ≡ false) × (w ≡ false)
move_done true true true false false false e = (refl, refl, refl, refl, refl)
move_done true true true false false true e = absurd (omega arith)
move_done true true true false true w e = absurd (omega arith)
move_done true true true true d w e = absurd (omega arith)
move_done true true false c d w e = absurd (omega arith)
move_done true false b c d w e = absurd (omega arith)
move_done false a' b c d w e = absurd (omega arith)

none_there : (t : Bool) → cond t false true ≡ true → t ≡ false
none_there true e = sym e
none_there false e = refl

module _ (ns : Nodes) (size : length ns ≡ 64) (t : IsTree ns) where
  root_there : is_there ns 0 ≡ true
  root_there = ap is_some t.root

  make_tree : (p n k : ℕ) (name : Bytes) → tree_status ns (tree.make p n k name) ≡ 0 → IsTree (tree_done ns (tree.make p n k name))
  make_tree p n k name e = go (make_done (is_there ns p) (is_folder ns p) (other_named ns p name n) (is_there ns n) e) (cases_lt n (length ns))
    where
      go : (is_folder ns p ≡ true) × (other_named ns p name n ≡ false) × (is_there ns n ≡ false) → (n < length ns) ⊎ (length ns ≤ n) → IsTree (set ns n (Some (record { parent = p; kind = k; name = name })))
      go (folder, free, new) (inl lt) =
          put_tree ns n p k name t lt (λ z. clash (sym (subst (λ i. is_there ns i ≡ false) z new) ∙ root_there)) folder free (λ f. absurd (clash (sym new ∙ folder_there ns n f))) (λ b. clash (sym new ∙ beneath_there ns n p b))
      go (folder, free, new) (inr past) = subst IsTree (sym (set_past ns n (Some (record { parent = p; kind = k; name = name })) past)) t

  remove_tree : (n : ℕ) → tree_status ns (tree.remove n) ≡ 0 → IsTree (tree_done ns (tree.remove n))
  remove_tree n e = go (remove_done (is_there ns n) (eqb n 0) (is_empty ns n) e)
    where
      go : (is_there ns n ≡ true) × (eqb n 0 ≡ false) × (is_empty ns n ≡ true) → IsTree (set ns n None)
      go (there, ne, empty) = rest_tree ns n t (there_below ns n there) (eqb-false n 0 ne) (none_there (is_some (lowest_at (lies_in n) ns 0)) empty)

  move_tree : (n p : ℕ) (name : Bytes) → tree_status ns (tree.move n p name) ≡ 0 → IsTree (tree_done ns (tree.move n p name))
  move_tree n p name e = go (move_done (is_there ns n) (is_there ns p) (is_folder ns p) (other_named ns p name n) (eqb n 0) (is_within 64 ns n p) e)
    where
      go : (is_there ns n ≡ true) × (is_folder ns p ≡ true) × (other_named ns p name n ≡ false) × (eqb n 0 ≡ false) × (is_within 64 ns n p ≡ false) → IsTree (tree_done ns (tree.move n p name))
      go (there, folder, free, ne, out) =
          put_tree ns n p (kind_of (node_at ns n)) name t (there_below ns n there) (eqb-false n 0 ne) folder free (λ f. eqb-true (kind_of (node_at ns n)) 100 f) (λ b. clash (sym out ∙ (walk_decides ns (omega arith) n p).1 b))

  after_tree : (a : TreeAsk) → (tree_status ns a ≡ 0 → IsTree (tree_done ns a)) → IsTree (tree_after ns a)
  after_tree a done = go (eqb (tree_status ns a) 0) refl
    where
      go : (b : Bool) → eqb (tree_status ns a) 0 ≡ b → IsTree (cond b (tree_done ns a) ns)
      go true e = done (eqb-true (tree_status ns a) 0 e)
      go false e = t

  step_tree : (a : TreeAsk) → IsTree (tree_after ns a)
  step_tree (tree.make p n k name) = after_tree (tree.make p n k name) (make_tree p n k name)
  step_tree (tree.remove n) = after_tree (tree.remove n) (remove_tree n)
  step_tree (tree.move n p name) = after_tree (tree.move n p name) (move_tree n p name)
  step_tree (tree.look p name) = after_tree (tree.look p name) (λ _. t)
  step_tree tree.unfit = after_tree tree.unfit (λ _. t)

-- the number of nodes stays
done_size : (ns : Nodes) (a : TreeAsk) → length (tree_done ns a) ≡ length ns
done_size ns (tree.make p n k name) = length-set ns n _
done_size ns (tree.remove n) = length-set ns n _
done_size ns (tree.move n p name) = length-set ns n _
done_size ns (tree.look p name) = refl
done_size ns tree.unfit = refl

after_size : (ns : Nodes) (a : TreeAsk) → length (tree_after ns a) ≡ length ns
after_size ns a = go (eqb (tree_status ns a) 0)
  where
    go : (b : Bool) → length (cond b (tree_done ns a) ns) ≡ length ns
    go true = done_size ns a
    go false = refl

pub reached_size : (bodies : List Bytes) → length (reached bodies) ≡ 64
reached_size [] = refl
reached_size (b ∷ bs) = after_size (reached bs) (tree_ask b) ∙ reached_size bs

-- at first only the root is there
none_at : (n i : ℕ) → ◌≡◌ {A = Option Node} (get_or (replicate n None) i None) None
none_at zero i = refl
none_at (suc n) zero = refl
none_at (suc n) (suc i) = none_at n i

first_alone : (i : ℕ) → is_there first_nodes i ≡ true → i ≡ 0
first_alone zero there = refl
first_alone (suc i) there = absurd (clash (sym (ap is_some (none_at 63 i)) ∙ there))

first_named : (p : ℕ) (name : Bytes) (i : ℕ) → is_named p name (node_at first_nodes i) ≡ true → i ≡ 0
first_named p name zero e = refl
first_named p name (suc i) e = absurd (clash (sym (ap (is_named p name) (none_at 63 i)) ∙ e))

first_tree : IsTree first_nodes
first_tree = record {
  root = refl;
  rooted = λ i there. itself there (first_alone i there);
  in_folder = λ i there ne. absurd (ne (first_alone i there));
  one_name = λ p name i j hi hj. first_named p name i hi ∙ sym (first_named p name j hj);
}

pub stays_a_tree : StaysATree
stays_a_tree [] = first_tree
stays_a_tree (b ∷ bs) = step_tree (reached bs) (reached_size bs) (stays_a_tree bs) (tree_ask b)

-- into itself
pub into_itself : (ns : Nodes) → WalkDecides ns → RefusesIntoItself ns
into_itself ns decides node parent name f ne g b free =
    let there = folder_there ns node f in
    let there' = folder_there ns parent g in
    let met = (decides node parent).1 b in
    rw (there, there', g, free, ne_eqb node 0 ne, met)

-- in a content reached only one node has the name
pub found_only : (ns : Nodes) (bodies : List Bytes) → ns ≡ reached bodies → FindsOne ns
found_only ns bodies e = subst FindsOne (sym e) (finds_one (reached bodies) (stays_a_tree bodies))
