use Rattle.std.proofs.Common.{◌+◌, map, ap, ◌∙◌}
use Rattle.wire.specs.Models.{id_model}
use Rattle.terminal.specs.Models.{end_model}
use Rattle.terminal.proofs.Shown.{terminal_of, opened_shown}
use Rattle.terminal.proofs.state.Terminal.hear.Goals as goal

pub returns : goal.returns
returns c =
    let ends = c.args.self.now.ends in
    ap (terminal_of (id_model c.args.self.now.id) c.args.target) (ap (map end_model) c.change_front.ensures ∙ opened_shown ends (c.args.target + 1))
