-- Each step leaves a tree.
use Rattle.std.proofs.Common.{◌≡◌, ℕ, ◌<◌, true, false, eqb, ◌⊎◌, length, set, is_some, Some, None, Option, sym, refl, ap, ◌∙◌, subst, inl, inr}
use borrow.Author.Tests.{clash}
use Rattle.std.specs.Str.{bytes_eq}
use Rattle.std.proofs.lemmas.Slice.Eq.{bytes_eq-Decides}
use Rattle.std.proofs.lemmas.List.{get_or-set_same, get_or-set_other}
use Rattle.std.proofs.lemmas.Bool.{cases_eq, eqb-true, eqb-false, and_parts}
use Rattle.common.specs.Bytes.{Bytes}
use Rattle.common.specs.Search.{lowest_at}
use Rattle.tree.specs.Tree.{Node, Nodes, node_at, is_there, is_folder, kind_of, parent_of, lies_in, is_named, named, other_named}
use Rattle.tree.specs.Shape.{Beneath, itself, deeper, IsTree, FindsOne}
use Rattle.tree.proofs.Names.{lowest_none, lowest_some, found_named}

-- a folder is there
kind_there : (o : Option Node) → eqb (kind_of o) 100 ≡ true → is_some o ≡ true
kind_there None e = absurd (clash e)
kind_there (Some n) e = refl

pub folder_there : (ns : Nodes) (i : ℕ) → is_folder ns i ≡ true → is_there ns i ≡ true
folder_there ns i e = kind_there (node_at ns i) e

-- what something lies beneath is there
pub beneath_there : (ns : Nodes) (top i : ℕ) → Beneath ns top i → is_there ns top ≡ true
beneath_there ns top i (itself there e) = subst (λ k. is_there ns k ≡ true) e there
beneath_there ns top i (deeper there b) = beneath_there ns top (parent_of (node_at ns i)) b

-- no other node has the name
pub unnamed : (ns : Nodes) (parent : ℕ) (name : Bytes) (n j : ℕ) → other_named ns parent name n ≡ false → (j ≡ n → ⊥) → is_named parent name (node_at ns j) ≡ false
unnamed ns parent name n j free ne =
    ap (is_named parent name) (sym (get_or-set_other ns n j None None ne))
    ∙ lowest_none (is_named parent name) (set ns n None) 0 j None refl free

-- what a name in a folder says of a node
said : (parent p k : ℕ) (name m : Bytes) → is_named parent name (Some (record { parent = p; kind = k; name = m })) ≡ true → (p ≡ parent) × (m ≡ name)
said parent p k name m e =
    let x = eqb p parent in
    let y = bytes_eq m name in
    let both = and_parts x y e in
    (eqb-true p parent both.0, (bytes_eq-Decides m name).0 both.1)

-- a node put into a folder that does not lie beneath it, by a name free there
module _ (ns : Nodes) (n p k : ℕ) (name : Bytes) (t : IsTree ns) (lt : n < length ns) (ne0 : n ≡ 0 → ⊥) (folder : is_folder ns p ≡ true) (free : other_named ns p name n ≡ false) (kept : is_folder ns n ≡ true → k ≡ 100) (apart : Beneath ns n p → ⊥) where
  abbrev put : Nodes
  put = set ns n (Some (record { parent = p; kind = k; name = name }))

  put_here : node_at put n ≡ Some (record { parent = p; kind = k; name = name })
  put_here = get_or-set_same ns n (Some (record { parent = p; kind = k; name = name })) None lt

  put_other : (i : ℕ) → (i ≡ n → ⊥) → node_at put i ≡ node_at ns i
  put_other i ne = get_or-set_other ns n i (Some (record { parent = p; kind = k; name = name })) None ne

  not_root : (i : ℕ) → i ≡ 0 → i ≡ n → ⊥
  not_root i e f = ne0 (sym f ∙ e)

  -- a node that does not lie beneath n keeps its way up
  stays : (i : ℕ) → Beneath ns 0 i → (Beneath ns n i → ⊥) → Beneath put 0 i
  stays i (itself there e) out = itself (ap is_some (put_other i (not_root i e)) ∙ there) e
  stays i (deeper there b) out =
      let same = put_other i (λ e. out (itself there e)) in
      deeper (ap is_some same ∙ there) (subst (λ o. Beneath put 0 (parent_of o)) (sym same) (stays (parent_of (node_at ns i)) b (λ d. out (deeper there d))))

  put_rooted : Beneath put 0 n
  put_rooted =
      deeper (ap is_some put_here) (subst (λ o. Beneath put 0 (parent_of o)) (sym put_here) (stays p (t.rooted p (folder_there ns p folder)) apart))

  up_again : (i : ℕ) → Beneath ns 0 i → Beneath put 0 i
  up_again i (itself there e) = itself (ap is_some (put_other i (not_root i e)) ∙ there) e
  up_again i (deeper there b) = go (up_again (parent_of (node_at ns i)) b) (cases_eq i n)
    where
      go : Beneath put 0 (parent_of (node_at ns i)) → (i ≡ n) ⊎ (i ≡ n → ⊥) → Beneath put 0 i
      go rest (inl e) = subst (Beneath put 0) (sym e) put_rooted
      go rest (inr ne) = deeper (ap is_some (put_other i ne) ∙ there) (subst (λ o. Beneath put 0 (parent_of o)) (sym (put_other i ne)) rest)

  -- a folder stays one
  folder_again : (i : ℕ) → is_folder ns i ≡ true → is_folder put i ≡ true
  folder_again i e = go (cases_eq i n)
    where
      go : (i ≡ n) ⊎ (i ≡ n → ⊥) → is_folder put i ≡ true
      go (inl same) =
          subst (λ j. is_folder put j ≡ true) (sym same) (ap (λ o. eqb (kind_of o) 100) put_here ∙ ap (λ x. eqb x 100) (kept (subst (λ j. is_folder ns j ≡ true) same e)))
      go (inr ne) = ap (λ o. eqb (kind_of o) 100) (put_other i ne) ∙ e

  put_in_folder : (i : ℕ) → is_there put i ≡ true → (i ≡ 0 → ⊥) → is_folder put (parent_of (node_at put i)) ≡ true
  put_in_folder i there ne = go (cases_eq i n)
    where
      go : (i ≡ n) ⊎ (i ≡ n → ⊥) → is_folder put (parent_of (node_at put i)) ≡ true
      go (inl e) = subst (λ o. is_folder put (parent_of o) ≡ true) (sym (ap (node_at put) e ∙ put_here)) (folder_again p folder)
      go (inr other) =
          subst (λ o. is_folder put (parent_of o) ≡ true) (sym (put_other i other)) (folder_again (parent_of (node_at ns i)) (t.in_folder i (sym (ap is_some (put_other i other)) ∙ there) ne).1)

  -- a node of that name and folder that is not n
  no_other : (q : ℕ) (m : Bytes) (i j : ℕ) → i ≡ n → (j ≡ n → ⊥) → is_named q m (node_at put i) ≡ true → is_named q m (node_at put j) ≡ true → ⊥
  no_other q m i j e ne hi hj =
      let who = said q p k m name (ap (is_named q m) (sym (ap (node_at put) e ∙ put_here)) ∙ hi) in
      let at : is_named q m (node_at ns j) ≡ true = ap (is_named q m) (sym (put_other j ne)) ∙ hj in
      clash (sym (unnamed ns p name n j free ne) ∙ ap (λ x. is_named x name (node_at ns j)) who.0 ∙ ap (λ x. is_named q x (node_at ns j)) who.1 ∙ at)

  put_one_name : (q : ℕ) (m : Bytes) (i j : ℕ) → is_named q m (node_at put i) ≡ true → is_named q m (node_at put j) ≡ true → i ≡ j
  put_one_name q m i j hi hj = go (cases_eq i n) (cases_eq j n)
    where
      go : (i ≡ n) ⊎ (i ≡ n → ⊥) → (j ≡ n) ⊎ (j ≡ n → ⊥) → i ≡ j
      go (inl e) (inl f) = e ∙ sym f
      go (inl e) (inr f) = absurd (no_other q m i j e f hi hj)
      go (inr e) (inl f) = absurd (no_other q m j i f e hj hi)
      go (inr e) (inr f) = t.one_name q m i j (ap (is_named q m) (sym (put_other i e)) ∙ hi) (ap (is_named q m) (sym (put_other j f)) ∙ hj)

  put_reaches : (i : ℕ) → is_there put i ≡ true → Beneath put 0 i
  put_reaches i there = go (cases_eq i n)
    where
      go : (i ≡ n) ⊎ (i ≡ n → ⊥) → Beneath put 0 i
      go (inl e) = subst (Beneath put 0) (sym e) put_rooted
      go (inr ne) = up_again i (t.rooted i (sym (ap is_some (put_other i ne)) ∙ there))

  pub put_tree : IsTree put
  put_tree = record {
    root = put_other 0 (λ e. ne0 (sym e)) ∙ t.root;
    rooted = put_reaches;
    in_folder = λ i there ne. (folder_there put (parent_of (node_at put i)) (put_in_folder i there ne), put_in_folder i there ne);
    one_name = put_one_name;
  }

-- where a node that is there does not lie
lies_apart : (o : Option Node) (n : ℕ) → is_some o ≡ true → lies_in n o ≡ false → parent_of o ≡ n → ⊥
lies_apart None n there out e = clash there
lies_apart (Some x) n there out e = eqb-false x.parent n out e

-- a node taken out, not the root, in which nothing lies
module _ (ns : Nodes) (n : ℕ) (t : IsTree ns) (lt : n < length ns) (ne0 : n ≡ 0 → ⊥) (empty : is_some (lowest_at (lies_in n) ns 0) ≡ false) where
  abbrev rest : Nodes
  rest = set ns n None

  rest_here : node_at rest n ≡ None
  rest_here = get_or-set_same ns n None None lt

  rest_other : (i : ℕ) → (i ≡ n → ⊥) → node_at rest i ≡ node_at ns i
  rest_other i ne = get_or-set_other ns n i None None ne

  not_out : (i : ℕ) → is_there rest i ≡ true → i ≡ n → ⊥
  not_out i there e = clash (sym (ap is_some (ap (node_at rest) e ∙ rest_here)) ∙ there)

  was_there : (i : ℕ) → is_there rest i ≡ true → is_there ns i ≡ true
  was_there i there = sym (ap is_some (rest_other i (not_out i there))) ∙ there

  parent_stays : (i : ℕ) → is_there ns i ≡ true → parent_of (node_at ns i) ≡ n → ⊥
  parent_stays i there = lies_apart (node_at ns i) n there (lowest_none (lies_in n) ns 0 i None refl empty)

  rest_up : (i : ℕ) → Beneath ns 0 i → (i ≡ n → ⊥) → Beneath rest 0 i
  rest_up i (itself there e) ne = itself (ap is_some (rest_other i ne) ∙ there) e
  rest_up i (deeper there b) ne =
      deeper (ap is_some (rest_other i ne) ∙ there) (subst (λ o. Beneath rest 0 (parent_of o)) (sym (rest_other i ne)) (rest_up (parent_of (node_at ns i)) b (parent_stays i there)))

  rest_in_folder : (i : ℕ) → is_there rest i ≡ true → (i ≡ 0 → ⊥) → is_folder rest (parent_of (node_at rest i)) ≡ true
  rest_in_folder i there ne =
      let was = was_there i there in
      subst (λ o. is_folder rest (parent_of o) ≡ true) (sym (rest_other i (not_out i there))) (ap (λ o. eqb (kind_of o) 100) (rest_other (parent_of (node_at ns i)) (parent_stays i was)) ∙ (t.in_folder i was ne).1)

  named_out : (q : ℕ) (m : Bytes) (i : ℕ) → is_named q m (node_at rest i) ≡ true → is_named q m (node_at ns i) ≡ true
  named_out q m i h = go (cases_eq i n)
    where
      go : (i ≡ n) ⊎ (i ≡ n → ⊥) → is_named q m (node_at ns i) ≡ true
      go (inl e) = absurd (clash (sym (ap (is_named q m) (ap (node_at rest) e ∙ rest_here)) ∙ h))
      go (inr ne) = ap (is_named q m) (sym (rest_other i ne)) ∙ h

  pub rest_tree : IsTree rest
  rest_tree = record {
    root = rest_other 0 (λ e. ne0 (sym e)) ∙ t.root;
    rooted = λ i there. rest_up i (t.rooted i (was_there i there)) (not_out i there);
    in_folder = λ i there ne. (folder_there rest (parent_of (node_at rest i)) (rest_in_folder i there ne), rest_in_folder i there ne);
    one_name = λ q m i j hi hj. t.one_name q m i j (named_out q m i hi) (named_out q m j hj);
  }

-- a look-up finds the only node of that name
pub finds_one : (ns : Nodes) → IsTree ns → FindsOne ns
finds_one ns t parent name i = (found_named ns parent name i, λ h. go h (lowest_some (is_named parent name) ns i None refl h))
  where
    go : is_named parent name (node_at ns i) ≡ true → (j : ℕ) × (named ns parent name ≡ Some j) → named ns parent name ≡ Some i
    go h (j, e) = e ∙ ap Some (t.one_name parent name j i (found_named ns parent name j e) h)
