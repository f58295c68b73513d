use Rattle.std.proofs.Common.{◌≡◌, ◌&&◌, ltb, Some, sym, ap, ◌∙◌}
use Rattle.server.specs.Server.{SessionM, slot_at, is_bare, shuts}
use Rattle.server.specs.Models.{model}
use Rattle.server.specs.Places.{session_at, at_slot, settled, emptied}
use Rattle.server.proofs.Changes.{with_places, change_same, change_none, settled_shut, settled_same, works_here}
use Rattle.server.proofs.Runs.{target_told}
use Rattle.server.proofs.state.Server.settle.Goals as goal
use Rattle.server.proofs.state.Server.settle.Goals.{After-shuts}

-- what the code tests before a bare call runs is what the rule says
tested : (c : After-shuts) (m : SessionM) → session_at (model c.args.self.now) c.args.spot.now.place ≡ Some m → c.shuts.result ≡ ((slot_at m c.args.spot.now.slot).is_open && shuts m c.args.spot.now.slot (slot_at m c.args.spot.now.slot))
tested c m e =
    let i = c.args.spot.now.slot in
    let y = c.entry.ensures m e in
    let t = target_told c.args.self.now c.args.spot.now.place c.session.result.now c.session.ensures m e in
    let n = c.get.ensures.value in
    c.shuts.ensures ∙ (λ u. (sym y u).is_open && (is_bare (sym y u) && (ltb (sym y u).highest (n u) && ltb (t u) (n u))))

pub session-requires : goal.session-requires
session-requires c = (works_here (model c.args.self.now) c.args.spot.now.place c.args.spot.now.slot c.requires).0

pub returns-then-shuts : goal.returns-then-shuts
returns-then-shuts c =
    let v = c.args.self.now in
    let p = c.args.spot.now.place in
    let i = c.args.spot.now.slot in
    let w = works_here (model v) p i c.requires in
    c.free_slot.ensures
    ∙ ap (with_places (model v)) (change_same (model v).sessions p (at_slot emptied i) (settled i) (λ m e. settled_shut m i (w.2 m e) (sym (tested (goal.at.returns-then-shuts c).After-shuts m e) ∙ c.if-shuts.true)))

pub returns-else-shuts : goal.returns-else-shuts
returns-else-shuts c =
    let v = c.args.self.now in
    let p = c.args.spot.now.place in
    let i = c.args.spot.now.slot in
    ap (with_places (model v)) (change_none (model v).sessions p (settled i) (λ m e. settled_same m i (sym (tested (goal.at.returns-else-shuts c).After-shuts m e) ∙ c.if-shuts.false)))
