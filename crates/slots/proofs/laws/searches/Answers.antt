use Rattle.slots.proofs.Searching.{searches}
use Rattle.slots.proofs.laws.searches.Goals as goal

pub returns : goal.returns
returns g c = searches
