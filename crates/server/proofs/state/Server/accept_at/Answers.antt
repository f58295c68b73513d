use Rattle.std.proofs.Common.{◌≡◌, ℕ, is_some, sym, ap, ◌∙◌, arith}
use Rattle.std.proofs.lemmas.Bool.{cond-true, lt-ltb}
use Rattle.wire.specs.Models.{request_model}
use Rattle.server.specs.Server.{SlotM, slot_at, accepted}
use Rattle.server.specs.Trays.{tray_in}
use Rattle.server.specs.Models.{model}
use Rattle.server.specs.Places.{session_at, change_at, at_slot}
use Rattle.server.proofs.Slots.{new_at}
use Rattle.server.proofs.Trays.{slot_here, stood}
use Rattle.server.proofs.Changes.{with_places}
use Rattle.server.proofs.Runs.{some_of}
use Rattle.server.proofs.state.Server.accept_at.Goals as goal
use Rattle.server.proofs.state.Server.accept_at.Goals.{In-Some}

named : (c : In-Some) → c.in-Some.slot ≡ c.args.request.slot
named c =
    let n = new_at (model c.args.self.now) c.args.place (request_model c.args.request) c.requires.fresh in
    let there = c.new.ensures ∙ cond-true _ _ _ (lt-ltb c.args.request.slot 16 (omega (arith, n.1))) in
    let e = c.in-Some.is in
    cc

pub accept-requires-clause-open : goal.accept-requires-clause-open
accept-requires-clause-open c =
    let v = c.args.self.now in
    let m = model v in
    let p = c.args.place in
    let i = c.in-Some.slot in
    let n = new_at m p (request_model c.args.request) c.requires.fresh in
    let r = some_of (session_at m p) n.0 in
    let s = stood v.trays v.sessions p r.0 r.1 in
    ap (λ o. is_some (tray_in o i)) s.1
    ∙ sym (ap (λ (y : SlotM). y.is_open) (ap (λ q. slot_at q i) s.2 ∙ slot_here v.trays s.0 i))
    ∙ ap (λ k. (slot_at r.0 k).is_open) (named (goal.at.accept-requires-clause-open c).In-Some)
    ∙ n.2 r.0 r.1

pub returns-in-Some : goal.returns-in-Some
returns-in-Some c =
    let m = model c.args.self.now in
    let q = request_model c.args.request in
    ap (with_places m) c.accept.ensures.state
    ∙ ap (λ n. change_at m c.args.place (at_slot (λ x. accepted x q) n)) (named (goal.at.returns-in-Some c).In-Some)

pub returns-in_default : goal.returns-in_default
returns-in_default c =
    let n = new_at (model c.args.self.now) c.args.place (request_model c.args.request) c.requires.fresh in
    let there = c.new.ensures ∙ cond-true _ _ _ (lt-ltb c.args.request.slot 16 (omega (arith, n.1))) in
    let e = c.in_default.is in
    absurd (let z : ◌≡◌ {A = ℕ} 0 1 = cc in omega arith)
