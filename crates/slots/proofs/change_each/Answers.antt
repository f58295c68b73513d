use Rattle.std.proofs.Common.{set, sym, ap, ◌∙◌, arith}
use Rattle.std.proofs.lemmas.List.Edits.{map_over_more}
use Rattle.slots.proofs.change_each.Goals as goal

pub loop-record-preserved : goal.loop-record-preserved
loop-record-preserved g c =
    let loop = c.loop-record in
    let f = g.C.Change.changed c.args.change.now in
    ap (set loop.record-items loop.record-index) (c.apply.ensures ∙ ap f (sym c.record-item.is))
    ∙ map_over_more f _ loop.record-items loop.record-index c.record-item.result (omega arith) loop.invariant c.record-item.is
