-- The tree's array of nodes, and the nodes that it stands for.
use Rattle.std.proofs.Common.{◌≡◌, ℕ, ◌<◌, false, List, length, get_or, is_some, Some, None, Option, sym, refl, ap, ◌∙◌, subst, arith}
use Rattle.std.proofs.lemmas.List.{get_or-map, length-map}
use Rattle.tree.specs.Tree.{Nodes, node_at, is_there}
use Rattle.tree.specs.Contents.{place_model, places_model, node_model}
use Rattle.tree.specs.declared.nodes.places.Node.{Node}
use Rattle.tree.proofs.Walks.{none_past}

pub whole : (ps : List (Option Node)) (ns : Nodes) → places_model ps ≡ ns → length ps ≡ 64 → length ns ≡ 64
whole ps ns view size = subst (λ xs. length xs ≡ 64) view (omega (arith, length-map ps place_model))

module _ (ps : List (Option Node)) (ns : Nodes) (view : places_model ps ≡ ns) (size : length ps ≡ 64) where
  pub none_at_64 : is_there ns 64 ≡ false
  none_at_64 = none_past ns 64 (omega (arith, whole ps ns view size))

  module _ (d : Option Node) (i j : ℕ) (same : j ≡ i) (lt : j < 64) where
    at : place_model (get_or ps j d) ≡ node_at ns i
    at = sym (get_or-map place_model ps j d None (omega arith)) ∙ ap (λ xs. get_or xs j None) view ∙ ap (node_at ns) same

    pub seen : (n : Node) → get_or ps j d ≡ Some n → Some (node_model n) ≡ node_at ns i
    seen n e = ap place_model (sym e) ∙ at

    pub unseen : ((n : Node) → get_or ps j d ≡ Some n → ⊥) → is_there ns i ≡ false
    unseen none = ap is_some (sym at) ∙ go (get_or ps j d) none
      where
        go : (o : Option Node) → ((n : Node) → o ≡ Some n → ⊥) → is_some (place_model o) ≡ false
        go None h = refl
        go (Some n) h = absurd (h n refl)
