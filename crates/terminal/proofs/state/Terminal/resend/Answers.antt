use Rattle.std.proofs.Common.{◌≡◌, ◌≤◌, length, None, Some, Ok, sym, ap, ◌∙◌, rules}
use Rattle.std.specs.Option.{option_map}
use Rattle.wire.specs.Wire.{Request}
use Rattle.wire.specs.Models.{request_model}
use Rattle.terminal.specs.Terminal.{TerminalM, EndM, OpenCall}
use Rattle.terminal.specs.Models.{terminal_model, call_model, end_model, end_lent}
use Rattle.terminal.specs.Sends.{message_of}
use Rattle.terminal.proofs.Steps.{resend_none, in_room, resend_asks, resend_answer, resend_scratch}
use Rattle.terminal.proofs.state.Terminal.resend.Goals as goal

pub returns-in_err-end : goal.returns-in_err-end
returns-in_err-end c =
    let t : TerminalM = terminal_model c.args.self.now in
    let none : c.seen.result ≡ None = search rules in
    let idle = ap (λ (x : EndM). x.call) (sym c.seen.ensures.value ∙ ap end_lent none) in
    let room : 304 ≤ length c.args.scratch.now = search rules in
    let e = in_room c.args.scratch.now _ _ room (resend_none t c.args.slot idle) in
    record { answer = rw e (search rules); scratch = rw e (search rules); message = rw e (search rules); fits = search rules }

pub returns-in_err-call : goal.returns-in_err-call
returns-in_err-call c =
    let t : TerminalM = terminal_model c.args.self.now in
    let there : c.seen.result ≡ Some c.in_ok-end.end = search rules in
    let none : c.in_ok-end.end.now.call ≡ None = search rules in
    let idle = ap (λ (x : EndM). x.call) (sym c.seen.ensures.value ∙ ap end_lent there) ∙ ap (option_map call_model) none in
    let room : 304 ≤ length c.args.scratch.now = search rules in
    let e = in_room c.args.scratch.now _ _ room (resend_none t c.args.slot idle) in
    record { answer = rw e (search rules); scratch = rw e (search rules); message = rw e (search rules); fits = search rules }

pub returns : goal.returns
returns c =
    let t : TerminalM = terminal_model c.args.self.now in
    let x : EndM = end_model c.in_ok-end.end.now in
    let there : c.seen.result ≡ Some c.in_ok-end.end = search rules in
    let at = sym (ap end_lent there) ∙ c.seen.ensures.value in
    let call : OpenCall = call_model c.in_ok-call.call.now in
    let q : Request = request_model c.request.result in
    let found : c.in_ok-end.end.now.call ≡ Some c.in_ok-call.call.now = search rules in
    let is : x.call ≡ Some call = ap (option_map call_model) found in
    let low : c.args.slot ≤ 15 = search rules in
    let wrote = c.in_ok-len.ensures in
    let room : 304 ≤ length c.args.scratch.now = search rules in
    let e = resend_asks t c.args.slot x call q c.args.scratch.now low at is c.request.ensures.value room in
    record {
      answer = resend_answer t c.args.slot x call q c.args.scratch.now low at is c.request.ensures.value room c.in_ok-len.len c.write.new.out wrote.answer wrote.out;
      scratch = resend_scratch t c.args.slot x call q c.args.scratch.now low at is c.request.ensures.value room c.in_ok-len.len c.write.new.out wrote.answer wrote.out;
      message = ap Ok wrote.message ∙ ap message_of (sym e);
      fits = wrote.fits;
    }
