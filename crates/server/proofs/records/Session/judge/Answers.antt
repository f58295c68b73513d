use Rattle.std.proofs.Common.{◌<◌, ◌≤◌, length, get_or, sym, ap, ◌∙◌, arith}
use Rattle.std.proofs.lemmas.List.{get_or_default}
use Rattle.std.proofs.lemmas.Bool.{cond-false, le-ltb}
use Rattle.wire.specs.Models.{request_model}
use Rattle.server.specs.Server.{judge}
use Rattle.server.specs.Trays.{no_slot}
use Rattle.server.specs.Models.{slot_in}
use Rattle.server.proofs.Trays.{slot_here}
use Rattle.server.proofs.Found.{passed}
use Rattle.server.proofs.records.Session.judge.Goals as goal

pub returns : goal.returns
returns c =
    let ts = c.args.trays.now in
    let s = c.args.self.now in
    let q = request_model c.args.request in
    let n = passed _ q.slot c.in-Some.slot (sym c.new.ensures ∙ c.in-Some.is) in
    let low : q.slot ≤ 15 = omega (arith, c.get.ensures.below, c.get.ensures.value, n.1) in
    let h : c.get.result < length s.slots = omega (arith, s.whole, c.get.ensures.below) in
    c.judge.ensures
    ∙ ap (λ y. judge y q)
    (c.entry-entry.ensures
    ∙ ap (slot_in ts) (get_or_default s.slots c.get.result _ no_slot h)
    ∙ ap (λ n. slot_in ts (get_or s.slots n no_slot)) (c.get.ensures.value ∙ n.1)
    ∙ sym (slot_here ts s q.slot))
    ∙ sym (cond-false _ _ _ (le-ltb 15 q.slot low))
