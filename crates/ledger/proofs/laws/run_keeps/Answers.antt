use Rattle.ledger.proofs.Runs.{run_keeps}
use Rattle.ledger.proofs.laws.run_keeps.Goals as goal

pub returns : goal.returns
returns c =
    record {
      total = λ bins bodies w. (run_keeps bins bodies w).total;
      sound = λ bins bodies s. record { whole = (run_keeps bins bodies s.whole).whole; small = (run_keeps bins bodies s.whole).small s.small };
    }
