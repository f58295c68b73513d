use Rattle.std.proofs.Common.{None, ◌∙◌, arith}
use Rattle.std.proofs.lemmas.Bool.{cond-true, lt-ltb}
use Rattle.std.proofs.lemmas.List.Quantifiers.{position-Some}
use Rattle.std.proofs.Common.{sym}
use Rattle.server.specs.Models.{bears}
use Rattle.server.proofs.Found.{find_is}
use Rattle.server.proofs.state.Server.find.Goals as goal

pub returns-in_err-first_bearing : goal.returns-in_err-first_bearing
returns-in_err-first_bearing c = c.from_residual.ensures ∙ c.in_err-first_bearing.ensures ∙ find_is c.args.self.now.trays c.args.self.now.sessions c.args.id

pub returns : goal.returns
returns c =
    let v = c.args.self.now in
    let p = c.in_ok-first_bearing.field-0 in
    let first = position-Some (bears c.args.id) v.sessions p None (sym c.in_ok-first_bearing.ensures) in
    c.new.ensures ∙ cond-true _ _ _ (lt-ltb p 8 (omega (arith, first.0, v.whole))) ∙ c.in_ok-first_bearing.ensures ∙ find_is v.trays v.sessions c.args.id
