use Rattle.channel.proofs.Runs.{keeps_order, gives_while_waiting}
use Rattle.channel.proofs.laws.pipe_keeps_order.Goals as goal

pub returns : goal.returns
returns c = record { order = keeps_order; gives = gives_while_waiting }
