use Rattle.std.proofs.Common.{◌∙◌}
use Rattle.wire.specs.Models.{id_model}
use Rattle.server.specs.Models.{model}
use Rattle.server.proofs.Opened.{stands_of}
use Rattle.server.proofs.state.Server.stands.Goals as goal

pub returns : goal.returns
returns c = c.is_some.ensures ∙ stands_of (model c.args.self.now) (id_model c.args.id) _ c.find.ensures
