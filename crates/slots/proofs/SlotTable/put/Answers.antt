use Rattle.std.proofs.Common.{sym, refl}
use Rattle.std.proofs.lemmas.List.{set_past}
use Rattle.slots.proofs.SlotTable.put.Goals as goal

pub returns-else-slot-self : goal.returns-else-slot-self
returns-else-slot-self g c = record { after = sym (set_past _ _ _ c.if-slot-self.false); name = refl }
