use Rattle.std.proofs.Common.{is_none, None, ◌∙◌, sym, arith}
use Rattle.std.proofs.lemmas.Bool.{cond-true, lt-ltb}
use Rattle.std.proofs.lemmas.List.Quantifiers.{position-Some}
use Rattle.server.proofs.Opened.{vacant_lowest}
use Rattle.server.proofs.state.Server.vacant.Goals as goal

pub returns-in_err-first_vacant : goal.returns-in_err-first_vacant
returns-in_err-first_vacant c = c.from_residual.ensures ∙ c.in_err-first_vacant.ensures ∙ vacant_lowest c.args.self.now.trays c.args.self.now.sessions

pub returns : goal.returns
returns c =
    let v = c.args.self.now in
    let p = c.in_ok-first_vacant.field-0 in
    let first = position-Some is_none v.sessions p None (sym c.in_ok-first_vacant.ensures) in
    c.new.ensures ∙ cond-true _ _ _ (lt-ltb p 8 (omega (arith, first.0, v.whole))) ∙ c.in_ok-first_vacant.ensures ∙ vacant_lowest v.trays v.sessions
