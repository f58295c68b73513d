use Rattle.std.proofs.Common.{ℕ, ◌≡◌, true, ap, ◌∙◌, arith}
use Rattle.std.proofs.lemmas.Bool.{cond-true, lt-ltb}
use Rattle.server.specs.Server.{free_trays, with_open}
use Rattle.server.specs.Models.{model}
use Rattle.server.specs.Places.{at_slot, change_at, shut_at}
use Rattle.server.proofs.Changes.{sixteen, loop_more, loop_shut, shut_left_more}
use Rattle.server.proofs.state.Server.open_slots.Goals as goal
use Rattle.server.proofs.state.Server.open_slots.Goals.{in-Some, in_default}

pub open_slot-requires : goal.open_slot-requires
open_slot-requires c =
    let v = c.args.self.now in
    let p = c.args.place in
    let i = c.loop-i.i in
    let there = c.new.ensures ∙ cond-true _ _ _ (lt-ltb i 16 (omega (arith, c.loop-i-test.true, c.requires.few))) in
    let e = c.in-Some.is in
    let q : c.in-Some.slot ≡ i = cc in
    let l = shut_left_more (model v) p i c.args.count c.loop-i-test.true (λ s e. omega (arith, sixteen v.trays v.sessions p s e, c.requires.few)) in
    let k = loop_shut (model v) (model c.loop-i.self) p i (with_open true) c.loop-i.invariant.0 in
    let at : shut_at (model c.loop-i.self) p c.in-Some.slot ≡ shut_at (model c.loop-i.self) p i = ap (shut_at (model c.loop-i.self) p) q in
    record { room = omega (arith, l, k, at, c.loop-i.invariant.1) }

pub loop-i-preserved : goal.loop-i-preserved
loop-i-preserved c =
    let v = c.args.self.now in
    let p = c.args.place in
    let i = c.loop-i.i in
    let there = c.new.ensures ∙ cond-true _ _ _ (lt-ltb i 16 (omega (arith, c.loop-i-test.true, c.requires.few))) in
    let l = shut_left_more (model v) p i c.args.count c.loop-i-test.true (λ s e. omega (arith, sixteen v.trays v.sessions p s e, c.requires.few)) in
    let k = loop_shut (model v) (model c.loop-i.self) p i (with_open true) c.loop-i.invariant.0 in
    elim c.match-new.branch [
      | in-Some w ↦
          let e = w.in-Some.is in
          let q : w.in-Some.slot ≡ i = cc in
          let at : shut_at (model c.loop-i.self) p w.in-Some.slot ≡ shut_at (model c.loop-i.self) p i = ap (shut_at (model c.loop-i.self) p) q in
          let left = ap (λ u. free_trays (model u)) w.self-is in (
            loop_more (model v) (model c.loop-i.self) p i (with_open true) c.loop-i.invariant.0 _ (λ s e. omega (arith, sixteen v.trays v.sessions p s e, c.loop-i-test.true, c.requires.few))
                (ap model w.self-is ∙ w.open_slot.ensures.state ∙ ap (λ n. change_at (model c.loop-i.self) p (at_slot (with_open true) n)) q),
            omega (arith, l, k, at, left, c.loop-i.invariant.1, w.open_slot.ensures.free),
          )
      | in_default w ↦ absurd (let e = w.in_default.is in let z : ◌≡◌ {A = ℕ} 0 1 = cc in omega arith)
    ]
