use Rattle.std.proofs.Common.{sym, ap, ◌∙◌}
use Rattle.wire.specs.Models.{request_model}
use Rattle.common.specs.Search.{when_found}
use Rattle.wire.specs.Wire.{refusing}
use Rattle.server.specs.Server.{Serving, says, serve_by, verdict}
use Rattle.server.specs.Models.{model}
use Rattle.server.proofs.Found.{session_none, session_found, found_stands}
use Rattle.server.specs.Places.{session_at}
use Rattle.server.proofs.Runs.{some_of}
use Rattle.server.proofs.state.Server.handle.Goals as goal

pub serve_at-requires : goal.serve_at-requires
serve_at-requires c = record { stands = found_stands (model c.args.self.now) (request_model c.args.request).id c.in-Some.place (sym c.in-Some.ensures); short = c.requires }

pub returns-in-None : goal.returns-in-None
returns-in-None c =
    let m = model c.args.self.now in
    let q = request_model c.args.request in
    let none : Serving = record { answer = says (refusing q 10052); after = m } in
    ap (λ r. record { answer = says r; after = m }) c.refusing.ensures
    ∙ ap (when_found none (λ s. serve_by (verdict s q) m s q)) (sym (session_none m q.id (sym c.in-None.ensures)))

pub returns-in-Some : goal.returns-in-Some
returns-in-Some c =
    let m = model c.args.self.now in
    let q = request_model c.args.request in
    let s = some_of (session_at m c.in-Some.place) (found_stands m q.id c.in-Some.place (sym c.in-Some.ensures)) in
    let none : Serving = record { answer = says (refusing q 10052); after = m } in
    c.serve_at.ensures s.0 s.1 (sym c.in-Some.ensures)
    ∙ ap (when_found none (λ r. serve_by (verdict r q) m r q)) (sym (session_found m q.id c.in-Some.place (sym c.in-Some.ensures) ∙ s.1))
