use Rattle.std.proofs.Common.{ap, arith}
use Rattle.server.specs.Models.{model}
use Rattle.server.proofs.Changes.{with_places}
use Rattle.server.proofs.Trays.{shut_is, free_of, free_is}
use Rattle.server.proofs.state.Server.open_slot.Goals as goal

pub claim-requires : goal.claim-requires
claim-requires c =
    let v = c.args.self.now in
    let shut = shut_is v.trays v.sessions c.args.spot.now.place c.args.spot.now.slot in
    record { whole = v.whole; owned = (v.marked, v.counted); room = omega (arith, shut, free_is v, c.requires) }

pub returns : goal.returns
returns c =
    let v = c.args.self.now in
    let shut = shut_is v.trays v.sessions c.args.spot.now.place c.args.spot.now.slot in
    let free = free_of v.boot v.count c.claim.new.trays c.claim.new.trays c.claim.new.sessions c.claim.ensures.owned.1 in
    record {
      state = ap (with_places (model v)) c.claim.ensures.state;
      free = omega (arith, shut, free, free_is v, c.claim.ensures.free);
    }
