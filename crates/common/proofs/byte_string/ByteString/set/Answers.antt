use Rattle.std.proofs.Common.{◌≡◌, ℕ, ◌-◌, [], length, take, drop, replicate, sym, ap, ◌∙◌, arith, length-append, length-drop}
use Rattle.std.proofs.lemmas.List.{length-replicate}
use Rattle.common.specs.Padding.{length_taken, zeros_behind}
use Rattle.common.proofs.byte_string.ByteString.set.Goals as goal

pub invariant_of-self : goal.invariant_of-self
invariant_of-self g c =
    let s = c.self.inside in
    let inv = c.self.invariant in
    let empty : take s.len s.bytes ≡ [] = c.self.view_is ∙ c.clear.ensures in
    let none : s.len ≡ 0 = sym (length_taken s.len s.bytes inv.1) ∙ ap length empty in
    let all : g.row.N - s.len ≡ g.row.N = omega (arith, none) in
    let zeros : s.bytes ≡ replicate {A = ℕ} g.row.N 0 = ap (λ n. drop n s.bytes) (sym none) ∙ inv.2 ∙ ap (λ n. replicate {A = ℕ} n 0) all in
    rw (c.copy_from_slice.ensures.after, zeros) (simp (length-append, length-drop, length-replicate) (omega (arith, c.if-len.false)), simp (length-append, length-drop, length-replicate) (omega (arith, c.if-len.false)), zeros_behind g.row.N c.args.from.now)
