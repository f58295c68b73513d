use Rattle.std.proofs.Common.{arith, length-append, length-drop}
use Rattle.std.proofs.lemmas.List.{length-replicate}
use Rattle.common.specs.Padding.{zeros_behind}
use Rattle.common.proofs.byte_string.ByteString.copied.Goals as goal

pub invariant_of-result : goal.invariant_of-result
invariant_of-result g c = (simp (length-append, length-drop, length-replicate, c.copy_from_slice.ensures.after) (omega arith), simp (length-append, length-drop, length-replicate, c.copy_from_slice.ensures.after) (omega arith), rw c.copy_from_slice.ensures.after (zeros_behind g.row.N c.args.from.now))
