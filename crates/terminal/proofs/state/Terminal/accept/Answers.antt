use Rattle.std.proofs.Common.{◌≡◌, None, Some, sym, ap, ◌∙◌, rules}
use Rattle.wire.specs.Models.{reply_model}
use Rattle.wire.specs.Wire.{Reply}
use Rattle.terminal.specs.Terminal.{TerminalM, OpenCall, after_effect}
use Rattle.terminal.specs.Models.{terminal_model, call_model}
use Rattle.terminal.specs.Replies.{call_of}
use Rattle.terminal.proofs.Accepts.{call_none, call_some, refused_stays, accept_settles}
use Rattle.terminal.proofs.state.Terminal.accept.Goals as goal

pub returns-in_err-call-clause-terminal : goal.returns-in_err-call-clause-terminal
returns-in_err-call-clause-terminal c =
    let t : TerminalM = terminal_model c.args.self.now in
    let r : Reply = reply_model c.args.reply in
    let none : None ≡ call_of t r = search rules in
    refused_stays t r (call_none t r none)

pub returns-clause-terminal : goal.returns-clause-terminal
returns-clause-terminal c =
    let t : TerminalM = terminal_model c.args.self.now in
    let r : Reply = reply_model c.args.reply in
    let call : OpenCall = call_model c.in_ok-call.call in
    let is : Some call ≡ call_of t r = search rules in
    let called = call_some t r call is in
    c.settle.ensures ∙ ap (after_effect t call r) c.effect_of-effect.ensures ∙ sym (accept_settles t r call called.0 called.1)
