use Rattle.std.proofs.Common.{arith}
use Rattle.std.proofs.lemmas.Bool.Decides.{nat_tests}
use Rattle.ledger.proofs.laws.smallest.Goals as goal

pub returns : goal.returns
returns c = record {
  done = λ bins ask status. grind (arith, nat_tests);
  applies = λ bins ask. grind (arith, nat_tests);
  least = λ bins ask status. grind (arith, nat_tests);
}
