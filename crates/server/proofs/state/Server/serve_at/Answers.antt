use Rattle.std.proofs.Common.{sym, ap, ◌∙◌}
use Rattle.wire.specs.Models.{request_model}
use Rattle.server.specs.Server.{ServerM, Serving, Work, work, serve_by, accepted, verdict}
use Rattle.server.specs.Models.{model}
use Rattle.server.specs.Places.{at_slot}
use Rattle.server.proofs.Found.{changed_found}
use Rattle.server.proofs.Runs.{session_is}
use Rattle.server.proofs.state.Server.serve_at.Goals as goal

pub returns-in-New : goal.returns-in-New
returns-in-New c = λ s e f.
    let m = model c.args.self.now in
    let q = request_model c.args.request in
    let w : Work = record { id = q.id; slot = q.slot; number = q.number } in
    let told : ServerM → Serving = λ n. record { answer = work w; after = n } in
    let by = c.in-New.ensures ∙ ap (λ r. verdict r q) (sym (session_is c.args.self.now c.args.place c.session.result.now c.session.ensures s e)) in
    ap told (c.accept_at.ensures ∙ changed_found m q.id c.args.place s (at_slot (λ x. accepted x q) q.slot) f e)
    ∙ ap (λ v. serve_by v m s q) by
