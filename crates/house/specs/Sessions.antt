-- The session of the terminal at a place.
use Rattle.std.specs.Prelude.{Ok, Err, Option, Result}
use Rattle.common.specs.Search.{when_found}
use Rattle.wire.specs.Wire.{SessionId, Refusal, no_terminal}
use Rattle.terminal.specs.Terminal.{TerminalM}

-- its id, if a terminal was opened there
abbrev pub id_in : Option TerminalM → Result SessionId Refusal
id_in o = when_found (Err no_terminal) (λ (t : TerminalM). Ok t.id) o
