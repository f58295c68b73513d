use Rattle.terminal.proofs.Runs.{one_call_a_slot}
use Rattle.terminal.proofs.laws.one_call_a_slot.Goals as goal

pub returns : goal.returns
returns c = one_call_a_slot
