-- A body that begins with no letter of an ask.
use Rattle.std.proofs.Common.{◌≡◌, Bool, true, false, cond, ◌&&◌, eqb, length, get_or, sym, refl}
use Rattle.std.proofs.lemmas.Bool.{ne_eqb}
use Rattle.common.specs.Bytes.{Bytes}
use Rattle.tree.specs.Tree.{remove, unfit, is_node, tree_ask}

pub asks_none : (b : Bytes) → (get_or b 0 0 ≡ 109 → ⊥) → (get_or b 0 0 ≡ 118 → ⊥) → (get_or b 0 0 ≡ 108 → ⊥) → (length b ≡ 2 → ⊥) → unfit ≡ tree_ask b
asks_none b m v l short =
    rw (ne_eqb (get_or b 0 0) 109 m, ne_eqb (get_or b 0 0) 118 v, ne_eqb (get_or b 0 0) 108 l, ne_eqb (length b) 2 short) (sym (removes (eqb (get_or b 0 0) 114 && (is_node (get_or b 1 0) && false)) (never (eqb (get_or b 0 0) 114) (is_node (get_or b 1 0)))))
  where
    never : (x y : Bool) → (x && (y && false)) ≡ false
    never true true = refl
    never true false = refl
    never false y = refl

    removes : (t : Bool) → t ≡ false → cond t (remove (get_or b 1 0)) unfit ≡ unfit
    removes t e = rw e
