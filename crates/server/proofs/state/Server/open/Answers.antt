use Rattle.std.proofs.Common.{Err, sym, ap, ◌∙◌}
use Rattle.std.proofs.lemmas.Result.{err_from_is_err_and}
use Rattle.wire.specs.Models.{refusal_model}
use Rattle.server.specs.Models.{model}
use Rattle.server.specs.Calls.{after_opening}
use Rattle.server.proofs.Opened.{vacant_found, open_high, open_full, open_there}
use Rattle.server.proofs.Found.{ok_from, err_from}
use Rattle.server.proofs.state.Server.open.Goals as goal

pub returns-then-target-gt15 : goal.returns-then-target-gt15
returns-then-target-gt15 c =
    let m = model c.args.self.now in
    let e = sym (open_high m c.args.target c.if-target-gt15.true) in
    record { answer = e; state = ap (after_opening m) e }

pub returns-in_err-place : goal.returns-in_err-place
returns-in_err-place c =
    let m = model c.args.self.now in
    let p = err_from_is_err_and c.from_residual.result c.from_residual.ensures.1 in
    let n = err_from c.vacant.result _ c.in_err-place.field-0.0 c.in_err-place.ensures.value in
    let e = open_full m c.args.target c.if-target-gt15.false (sym c.vacant.ensures ∙ n.0) in
    record { answer = rw (p.1, p.2) (ap (λ d. Err (refusal_model d)) n.1 ∙ sym e); state = ap (after_opening m) (sym e) }

pub open_at-requires : goal.open_at-requires
open_at-requires c =
    let m = model c.args.self.now in
    let at = sym c.vacant.ensures ∙ ok_from c.vacant.result _ c.in_ok-place.place c.in_ok-place.ensures.value in
    record { vacant = vacant_found m c.in_ok-place.place at; low = c.if-target-gt15.false }

pub returns : goal.returns
returns c =
    let m = model c.args.self.now in
    let at = sym c.vacant.ensures ∙ ok_from c.vacant.result _ c.in_ok-place.place c.in_ok-place.ensures.value in
    let e = open_there m c.args.target c.in_ok-place.place c.if-target-gt15.false at in
    record { answer = c.open_at.ensures.answer ∙ sym e; state = c.open_at.ensures.state ∙ ap (after_opening m) (sym e) }
