use Rattle.std.proofs.Common.{◌≡◌, ◌-◌, true, false, length, sym, ap, ◌∙◌, rules}
use Rattle.std.proofs.lemmas.List.{length-map}
use Rattle.terminal.specs.Terminal.{TerminalM, after_sending, begin, end_at}
use Rattle.terminal.specs.Models.{terminal_model, end_model}
use Rattle.terminal.specs.Sends.{slot_of}
use Rattle.terminal.proofs.Steps.{part_refused, part_some, part_parts, part_begins, ready_parts, begun_resends}
use Rattle.terminal.proofs.state.Terminal.begin_part.Goals as goal

pub returns-then-not-can_part : goal.returns-then-not-can_part
returns-then-not-can_part c =
    let t : TerminalM = terminal_model c.args.self.now in
    let e = part_refused t c.args.slot (sym c.if-not-can_part.ensures) in
    record { answer = ap slot_of (sym e); terminal = ap (after_sending t) (sym e); resends = tt }

pub begin-requires : goal.begin-requires
begin-requires c =
    let t : TerminalM = terminal_model c.args.self.now in
    (ready_parts (end_at t c.args.slot) (part_parts t c.args.slot (sym c.if-not-can_part.ensures)).ready).room

pub returns : goal.returns
returns c =
    let t : TerminalM = terminal_model c.args.self.now in
    let ends : length c.args.self.now.ends ≡ 16 = search rules in
    let sixteen = length-map c.args.self.now.ends end_model ∙ ends in
    let e = part_some t c.args.slot (sym c.if-not-can_part.ensures) in
    let empty = c.empty.ensures in
    let answer = ap slot_of (sym e) in
    let terminal = c.begin.ensures ∙ ((λ j. (begin t c.args.slot (record { highest = c.args.slot - 1; keep = false; body = empty j; part = true; fresh = true })).after) ∙ ap (after_sending t) (sym e)) in
    record {
      answer = answer;
      terminal = terminal;
      resends = begun_resends t _ _ _ _ sixteen (part_begins t _ _ sixteen e) e terminal answer;
    }
