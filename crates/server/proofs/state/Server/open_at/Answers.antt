use Rattle.std.proofs.Common.{◌≡◌, ◌+◌, ◌≤◌, true, Ok, sym, ap, ◌∙◌, arith}
use Rattle.server.specs.Server.{new_id, with_open}
use Rattle.server.specs.Models.{model}
use Rattle.server.specs.Places.{change_at, at_front, shut_below}
use Rattle.server.specs.Server.{free_trays}
use Rattle.server.specs.Calls.{after_opening}
use Rattle.server.proofs.Opened.{begun_free, begun_shut, begun_opened, open_accepted}
use Rattle.server.proofs.state.Server.open_at.Goals as goal

pub open_slots-requires : goal.open_slots-requires
open_slots-requires c =
    let m = model c.args.self.now in
    let p = c.args.place in
    let n = c.args.target + 1 in
    let few : n ≤ 16 = omega (arith, c.requires.low) in
    let e = c.begin.ensures in
    let free : free_trays (model c.begin.new.self) ≡ free_trays m = ap free_trays e ∙ begun_free m p (new_id m) c.args.target c.requires.vacant in
    let shut : shut_below (model c.begin.new.self) p n ≡ _ = ap (λ q. shut_below q p n) e in
    let some = begun_shut m p (new_id m) c.args.target n c.requires.vacant few in
    record {
      few = few;
      room = omega (arith, free, shut, some, c.free_trays.ensures.value, c.if-free_trays-slots.false);
    }

pub returns : goal.returns
returns c =
    let m = model c.args.self.now in
    let p = c.args.place in
    let n = c.args.target + 1 in
    let e = c.open_slots.ensures ∙ ap (λ q. change_at q p (at_front (with_open true) n)) c.begin.ensures ∙ begun_opened m p c.args.target in
    let a = ap Ok (λ u. record { id = new_id m; after = e u }) ∙ sym (open_accepted m c.args.target p c.if-self.false (omega (arith, c.free_trays.ensures.value, c.if-free_trays-slots.false))) in
    record { answer = a; state = ap (after_opening m) a }
