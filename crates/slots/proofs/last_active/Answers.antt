use Rattle.std.proofs.Common.{rules}
use Rattle.slots.proofs.Searching.{highest_is}
use Rattle.slots.proofs.last_active.Goals as goal

pub returns : goal.returns
returns g c =
    highest_is g.R.Record.active c.args.records.now c.rposition.result (λ e. search rules) (λ i e. record { within = search rules; holds = search rules; above = search rules })
