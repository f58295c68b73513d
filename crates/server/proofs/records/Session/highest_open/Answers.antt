use Rattle.std.proofs.Common.{is_some, arith}
use Rattle.slots.proofs.Slots.{highest_low}
use Rattle.server.specs.declared.records.Slot.{Slot}
use Rattle.server.proofs.records.Session.highest_open.Goals as goal

pub overflow_cast-result : goal.overflow_cast-result
overflow_cast-result c =
    let low = highest_low (λ (x : Slot). is_some x.tray) 15 c.args.self.now.slots 0 0 (omega arith) (omega arith) in
    omega (arith, c.highest_active.ensures, low)

pub returns : goal.returns
returns c =
    let low = highest_low (λ (x : Slot). is_some x.tray) 15 c.args.self.now.slots 0 0 (omega arith) (omega arith) in
    record { low = omega (arith, c.highest_active.ensures, low); value = c.highest_active.ensures }
