use Rattle.std.proofs.Common.{List, length, Option, refl, rules, ap, ◌∙◌}
use Rattle.wire.specs.Models.{refusal_model}
use Rattle.terminal.specs.declared.sends.Sent.{Sent}
use Rattle.terminal.specs.Terminal.{TerminalM}
use Rattle.terminal.specs.Sends.{scratch_after}
use Rattle.exactly_once.specs.Houses.{parts}
use Rattle.exactly_once.specs.Steps.{terminal_at}
use Rattle.house.specs.Houses.{house_state}
use Rattle.house.specs.Sends.{sends_in, placed}
use Rattle.house.proofs.Sending.{send_short, send_refused, send_sent, goes, told_ok, told_err, message_is, sent_by}
use Rattle.house.proofs.state.House.send.Goals as goal

pub returns-in_err-has_room : goal.returns-in_err-has_room
returns-in_err-has_room g c =
    let P = parts g.S.Service g.Q.Channel g.R.Channel in
    let h = c.args.self.now in
    let m = house_state g.S.Service g.Q.Channel g.R.Channel h in
    λ sends say w.
    sent_by (send_short P m c.args.terminal (length c.args.scratch.now) say sends (search rules)) (search rules) refl refl

pub returns-in_err-sent : goal.returns-in_err-sent
returns-in_err-sent g c =
    let P = parts g.S.Service g.Q.Channel g.R.Channel in
    let h = c.args.self.now in
    let m = house_state g.S.Service g.Q.Channel g.R.Channel h in
    let room = length c.args.scratch.now in
    let why = refusal_model c.in_err-sent.field-0.0 in
    λ sends say w.
    let wrote = c.in_err-sent.ensures.wrote sends w in
    let is = told_err (sends_in room sends (terminal_at P m c.args.terminal)) why wrote.answer in
    sent_by
    (send_refused P m c.args.terminal room say sends why (search rules) is)
    (search rules)
    (ap (λ (ts : List (Option TerminalM)). record { server = m.server; terminals = ts; content = m.content; requests = m.requests; replies = m.replies }) (c.in_err-sent.ensures.after sends w ∙ ap (placed m.terminals c.args.terminal) is))
    (wrote.scratch ∙ ap (scratch_after c.args.scratch.now) is)

pub returns : goal.returns
returns g c =
    let P = parts g.S.Service g.Q.Channel g.R.Channel in
    let h = c.args.self.now in
    let m = house_state g.S.Service g.Q.Channel g.R.Channel h in
    let room = length c.args.scratch.now in
    λ sends say w.
    let wrote = c.in_ok-sent.ensures.wrote sends w in
    let x = sends_in room sends (terminal_at P m c.args.terminal) in
    let t = told_ok x c.in_ok-sent.sent wrote.answer in
    sent_by
    (send_sent P m c.args.terminal room say sends t.0 (search rules) t.1)
    (ap (λ (r : Sent). say r.slot) t.2)
    (goes P m c.args.terminal t.0 _ _ _ (c.in_ok-sent.ensures.after sends w ∙ ap (placed m.terminals c.args.terminal) t.1) c.put.ensures.after (message_is x _ t.0 wrote.message t.1))
    (wrote.scratch ∙ ap (scratch_after c.args.scratch.now) t.1)
