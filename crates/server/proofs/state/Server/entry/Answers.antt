use Rattle.std.proofs.Common.{◌<◌, length, get_or, sym, ap, ◌∙◌, arith}
use Rattle.std.proofs.lemmas.List.{get_or_default}
use Rattle.server.specs.Server.{slot_at}
use Rattle.server.specs.Trays.{no_slot}
use Rattle.server.specs.Models.{slot_in}
use Rattle.server.proofs.Trays.{slot_here}
use Rattle.server.proofs.Runs.{session_is}
use Rattle.server.proofs.state.Server.entry.Goals as goal

pub returns : goal.returns
returns c = λ m e.
    let v = c.args.self.now in
    let s = c.session.result.now in
    let i = c.args.spot.now.slot in
    let ts = v.trays in
    let h : c.get.result < length s.slots = omega (arith, s.whole, c.get.ensures.below) in
    ap (λ n. slot_at n i) (session_is v c.args.spot.now.place s c.session.ensures m e)
    ∙ slot_here ts s i
    ∙ ap (λ n. slot_in ts (get_or s.slots n no_slot)) (sym c.get.ensures.value)
    ∙ ap (slot_in ts) (get_or_default s.slots c.get.result no_slot _ h)
    ∙ sym c.entry.ensures
