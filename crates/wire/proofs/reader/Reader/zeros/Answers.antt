use Rattle.std.proofs.Common.{sym, ap, ◌∙◌}
use Rattle.wire.proofs.Zeros.{stops, zeros_are}
use Rattle.wire.proofs.reader.Reader.zeros.Goals as goal

pub returns-in-Some : goal.returns-in-Some
returns-in-Some c = sym (zeros_are c.args.self.now.bytes.now c.args.at c.args.n c.requires ∙ ap (stops c.args.at) (sym c.first_other.ensures ∙ c.in-Some.is))

pub returns-in-None : goal.returns-in-None
returns-in-None c = sym (zeros_are c.args.self.now.bytes.now c.args.at c.args.n c.requires ∙ ap (stops c.args.at) (sym c.first_other.ensures ∙ c.in-None.is))
