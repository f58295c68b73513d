use Rattle.std.proofs.Common.{ℕ, ◌≡◌, ap, ◌∙◌, arith}
use Rattle.std.proofs.lemmas.Bool.{cond-true, lt-ltb}
use Rattle.server.specs.Models.{model}
use Rattle.server.specs.Places.{emptied, at_slot, change_at}
use Rattle.server.proofs.Changes.{sixteen, loop_more}
use Rattle.server.proofs.state.Server.free_slots.Goals as goal
use Rattle.server.proofs.state.Server.free_slots.Goals.{in-Some, in_default}

pub loop-i-preserved : goal.loop-i-preserved
loop-i-preserved c =
    let v = c.args.self.now in
    let i = c.loop-i.i in
    let p = c.args.place in
    let there = c.new.ensures ∙ cond-true _ _ _ (lt-ltb i 16 c.loop-i-test.true) in
    elim c.match-new.branch [
      | in-Some w ↦
          let e = w.in-Some.is in
          let q : w.in-Some.slot ≡ i = cc in
          loop_more (model v) (model c.loop-i.self) p i emptied c.loop-i.invariant _ (λ s e. omega (arith, sixteen v.trays v.sessions p s e, c.loop-i-test.true))
          (ap model w.self-is ∙ w.free_slot.ensures ∙ ap (λ n. change_at (model c.loop-i.self) p (at_slot emptied n)) q)
      | in_default w ↦ absurd (let e = w.in_default.is in let z : ◌≡◌ {A = ℕ} 0 1 = cc in omega arith)
    ]
