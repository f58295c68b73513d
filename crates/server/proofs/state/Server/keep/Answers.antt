use Rattle.std.proofs.Common.{◌≡◌, true, false, eqb, length, sym, ap, ◌∙◌}
use Rattle.common.specs.Bytes.{Bytes}
use Rattle.common.specs.Search.{when_found}
use Rattle.server.specs.Server.{SlotM, slot_at, is_bare}
use Rattle.server.specs.Trays.{tray_at, tray_in}
use Rattle.server.specs.Models.{model}
use Rattle.server.specs.Places.{session_at}
use Rattle.server.proofs.Trays.{slot_here, stood}
use Rattle.server.proofs.Runs.{some_of}
use Rattle.server.proofs.state.Server.keep.Goals as goal

-- a slot without a tray is bare
pub conclude-requires-clause-bare : goal.conclude-requires-clause-bare
conclude-requires-clause-bare c = λ h.
    let v = c.args.self.now in
    let p = c.args.spot.now.place in
    let i = c.args.spot.now.slot in
    let m = some_of (session_at (model v) p) c.requires.stands in
    let s = stood v.trays v.sessions p m.0 m.1 in
    let none = sym (ap (λ o. tray_in o i) s.1) ∙ h in
    let body = ap (λ (y : SlotM). y.body) (ap (λ r. slot_at r i) s.2 ∙ slot_here v.trays s.0 i) ∙ ap (λ o. (tray_at v.trays o).request) none in
    let bare : is_bare (slot_at m.0 i) ≡ true = ap (λ (b : Bytes). eqb (length b) 0) body in
    c.requires.bare (ap (when_found false (λ r. is_bare (slot_at r i))) m.1 ∙ bare)
