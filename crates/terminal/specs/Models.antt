-- What the values of the code stand for in the written rules.
use Rattle.std.specs.Prelude.{true, false, map, Some, None, Option}
use Rattle.std.specs.Borrow.{Bor}
use Rattle.std.specs.Option.{option_map}
use Rattle.wire.specs.Models.{id_model}
use Rattle.terminal.specs.declared.state.OpenCall.{OpenCall as CodeCall}
use Rattle.terminal.specs.declared.state.End.{End}
use Rattle.terminal.specs.declared.state.Terminal.{Terminal}
use Rattle.terminal.specs.Terminal.{OpenCall, EndM, TerminalM, stale, new_end}

-- an open call, its body as bytes
abbrev pub call_model : CodeCall → OpenCall
call_model c = record { highest = c.highest; keep = c.keep; body = c.body; part = c.part; fresh = c.fresh }

-- a slot
abbrev pub end_model : End → EndM
end_model e = record { number = e.number; usable = e.usable; call = option_map call_model e.call }

-- a slot that is lent; beyond the table one never used
abbrev pub end_lent : Option (Bor End) → EndM
end_lent None = new_end
end_lent (Some e) = end_model e.now

-- a terminal
abbrev pub terminal_model : Terminal → TerminalM
terminal_model t = record { id = id_model t.id; heard = t.heard; slots = map end_model t.ends }

-- a slot that becomes usable, as the code keeps it
abbrev pub opened : End → End
opened e = record { number = e.number; usable = true; call = e.call }

-- an open call that ceases to be fresh
abbrev pub staled_call : CodeCall → CodeCall
staled_call c = record { highest = c.highest; keep = c.keep; body = c.body; part = c.part; fresh = false }

-- a slot whose open call does
abbrev pub staled : End → End
staled e = record { number = e.number; usable = e.usable; call = option_map staled_call e.call }

-- the terminal all of whose open calls cease to be fresh
abbrev pub all_stale : TerminalM → TerminalM
all_stale t = record { id = t.id; heard = t.heard; slots = map stale t.slots }
