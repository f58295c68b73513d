-- One part written behind another.
use Rattle.std.proofs.Common.{◌≡◌, Bool, true, false, cond, ◌++◌, refl, ap, ◌∙◌, append_assoc}
use mir.Val.{bool_byte}
use Rattle.common.specs.Bytes.{Bytes}

-- behind what is known to stand there
pub behind : {t u p : Bytes} (x : Bytes) → t ≡ p → u ≡ t ++ x → u ≡ p ++ x
behind x e f = f ∙ ap (λ s. s ++ x) e

-- two parts are one
pub two : {u v : Bytes} (t x y : Bytes) → u ≡ t ++ x → v ≡ u ++ y → v ≡ t ++ (x ++ y)
two t x y e f = behind y e f ∙ append_assoc t x y

-- the keep flag as a number
pub flag_is : (b : Bool) → bool_byte b ≡ cond b 1 0
flag_is true = refl
flag_is false = refl
