use Rattle.std.proofs.Common.{ap, ◌∙◌}
use Rattle.std.proofs.lemmas.Result.{err_from_is_err_and}
use Rattle.server.specs.Server.{serve, serve_read}
use Rattle.server.specs.Models.{model}
use Rattle.server.proofs.state.Server.serve.Goals as goal

pub returns-in_err-request : goal.returns-in_err-request
unfolding serve
returns-in_err-request c =
    let p = err_from_is_err_and c.from_residual.result c.from_residual.ensures.1 in
    rw (p.1, p.2) (ap (serve_read (model c.args.self.now)) c.in_err-request.ensures.value)

pub returns : goal.returns
unfolding serve
returns c = c.handle.ensures ∙ ap (serve_read (model c.args.self.now)) c.in_ok-request.ensures.value
