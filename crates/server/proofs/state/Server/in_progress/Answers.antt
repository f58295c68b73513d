use Rattle.std.proofs.Common.{sym, ◌∙◌, arith}
use Rattle.server.proofs.Counted.{working_sum_is, working_sum_low}
use Rattle.server.proofs.state.Server.in_progress.Goals as goal

pub working_calls-requires : goal.working_calls-requires
working_calls-requires c = omega (arith, working_sum_low c.args.self.now.sessions, c.args.self.now.whole)

pub returns : goal.returns
returns c = c.working_calls.ensures ∙ sym (working_sum_is c.args.self.now.trays c.args.self.now.sessions)
