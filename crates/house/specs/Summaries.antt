-- What a house holds, counted.
use Rattle.std.specs.Prelude.{ℕ, sum_by, count_by, Option}
use Rattle.common.specs.Search.{when_found}
use Rattle.server.specs.Counts.{working_calls}
use Rattle.terminal.specs.Terminal.{TerminalM, is_busy}
use Rattle.exactly_once.specs.Steps.{Parts, Model, stands}

-- terminals whose session stands
abbrev pub standing : {P : Parts} → Model P → ℕ
standing m = count_by (stands m.server) m.terminals

-- calls open at the record of a place
abbrev pub open_at : Option TerminalM → ℕ
open_at = when_found 0 (λ (t : TerminalM). count_by is_busy t.slots)

-- calls open at all terminals
abbrev pub open_calls : {P : Parts} → Model P → ℕ
open_calls m = sum_by open_at m.terminals

-- calls in progress at the server: those that were set aside and not resumed
abbrev pub set_aside : {P : Parts} → Model P → ℕ
set_aside m = working_calls m.server
