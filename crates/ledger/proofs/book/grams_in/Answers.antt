use Rattle.std.proofs.Common.{◌≤◌, ◌*◌, length, arith, rules}
use Rattle.std.proofs.lemmas.List.Elements.{All-from_get_or}
use Rattle.std.proofs.lemmas.List.Sums.{sum_by-le}
use Rattle.ledger.specs.Runs.{grams}
use Rattle.ledger.proofs.book.grams_in.Goals as goal

pub sum-requires-clause-fits : goal.sum-requires-clause-fits
sum-requires-clause-fits c =
    let bins = c.args.bins.now in
    let small : grams bins ≤ length bins * 4294967295 =
    sum_by-le _ 4294967295 bins (All-from_get_or (λ n. n ≤ 4294967295) bins 0 (λ i _. omega (arith, c.type_inv.bins i))) in
    search rules
