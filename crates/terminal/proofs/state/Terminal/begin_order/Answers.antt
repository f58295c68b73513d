use Rattle.std.proofs.Common.{◌≡◌, Some, length, sym, ap, ◌∙◌, rules}
use Rattle.std.proofs.lemmas.List.{length-map}
use Rattle.common.specs.Search.{lowest_at}
use Rattle.terminal.specs.Terminal.{TerminalM, after_sending, is_ready}
use Rattle.terminal.specs.Models.{terminal_model, end_model}
use Rattle.terminal.specs.Sends.{slot_of}
use Rattle.terminal.proofs.Steps.{order_long, order_none, order_some, order_begins, begun_resends, lowest_free, free_room, highest_fits}
use Rattle.terminal.proofs.state.Terminal.begin_order.Goals as goal

pub returns-in_err-body-clause-answer : goal.returns-in_err-body-clause-answer
returns-in_err-body-clause-answer c =
    let e = order_long (terminal_model c.args.self.now) c.args.keep c.args.body.now (search rules) in rw e (search rules)

pub returns-in_err-body-clause-terminal : goal.returns-in_err-body-clause-terminal
returns-in_err-body-clause-terminal c =
    let e = order_long (terminal_model c.args.self.now) c.args.keep c.args.body.now (search rules) in rw e

pub returns-in_err-slot-clause-answer : goal.returns-in_err-slot-clause-answer
returns-in_err-slot-clause-answer c =
    let e = order_none (terminal_model c.args.self.now) c.args.keep c.args.body.now c.in_ok-body.body (search rules) (search rules) in
    rw e (search rules)

pub returns-in_err-slot-clause-terminal : goal.returns-in_err-slot-clause-terminal
returns-in_err-slot-clause-terminal c =
    let e = order_none (terminal_model c.args.self.now) c.args.keep c.args.body.now c.in_ok-body.body (search rules) (search rules) in
    rw e

pub overflow_cast-call : goal.overflow_cast-call
overflow_cast-call c =
    let t : TerminalM = terminal_model c.args.self.now in
    let ends : length c.args.self.now.ends ≡ 16 = search rules in
    let found : Some c.in_ok-slot.slot ≡ lowest_at is_ready t.slots 0 = search rules in
    let small = highest_fits t c.in_ok-slot.slot c.highest_with.result (length-map c.args.self.now.ends end_model ∙ ends) (lowest_free t c.in_ok-slot.slot found) c.highest_with.ensures in
    search rules

pub begin-requires : goal.begin-requires
begin-requires c =
    let t : TerminalM = terminal_model c.args.self.now in
    let found : Some c.in_ok-slot.slot ≡ lowest_at is_ready t.slots 0 = search rules in
    free_room t c.in_ok-slot.slot (lowest_free t c.in_ok-slot.slot found)

pub returns : goal.returns
returns c =
    let t : TerminalM = terminal_model c.args.self.now in
    let ends : length c.args.self.now.ends ≡ 16 = search rules in
    let sixteen = length-map c.args.self.now.ends end_model ∙ ends in
    let e = order_some t c.args.keep c.args.body.now c.in_ok-body.body c.in_ok-slot.slot c.highest_with.result (search rules) (search rules) c.highest_with.ensures in
    let answer = ap slot_of (sym e) in
    let terminal = c.begin.ensures ∙ ap (after_sending t) (sym e) in
    record {
      answer = answer;
      terminal = terminal;
      resends = begun_resends t _ _ _ _ sixteen (order_begins t _ _ _ e) e terminal answer;
    }
