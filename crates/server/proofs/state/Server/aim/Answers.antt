use Rattle.std.proofs.Common.{◌<◌, length, refl, sym, ap, ◌∙◌, arith, length-set}
use Rattle.server.specs.Trays.{tray_in, slots_open}
use Rattle.server.specs.Models.{model}
use Rattle.server.specs.Places.{change_at, with_target}
use Rattle.server.proofs.Trays.{stands_at}
use Rattle.server.proofs.Changes.{with_places}
use Rattle.server.proofs.Opened.{marked_at, counted_at, place_set}
use Rattle.server.proofs.state.Server.aim.Goals as goal

pub invariant_of-self : goal.invariant_of-self
invariant_of-self c =
    let v = c.args.self.now in
    let p = c.get.result in
    let h : p < length v.sessions = omega (arith, v.whole, c.get.ensures.below) in
    let hs = stands_at v p c.index-self-get.result c.in-Some.session c.get.ensures.below c.in-Some.is in
    record {
      whole = (length-set _ _ _ ∙ v.whole.0, v.whole.1);
      marked = marked_at v.sessions v.trays p _ h v.marked (λ i k e. ap (λ o. tray_in o i) hs ∙ e);
      counted = counted_at v.sessions _ p _ h v.counted (sym (ap slots_open hs));
    }

pub returns-in-Some : goal.returns-in-Some
returns-in-Some c =
    let v = c.args.self.now in
    let p = c.get.result in
    let hs = stands_at v p c.index-self-get.result c.in-Some.session c.get.ensures.below c.in-Some.is in
    ap (with_places (model v)) (place_set v.trays v.sessions p c.in-Some.session _ (with_target c.args.target) hs refl)
    ∙ ap (λ q. change_at (model v) q (with_target c.args.target)) c.get.ensures.value
