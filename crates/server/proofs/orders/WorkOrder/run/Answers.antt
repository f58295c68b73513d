use Rattle.std.proofs.Common.{true, false, eqb, Ok, sym, ap, ◌∙◌}
use Rattle.std.proofs.lemmas.Bool.{and_parts}
use Rattle.std.proofs.lemmas.Result.{err_from_is_err_and}
use Rattle.common.specs.Search.{when_found}
use Rattle.wire.specs.Models.{refusal_model}
use Rattle.server.specs.Server.{slot_at, works_at, is_in_hand, run_slot, server_after, content_after}
use Rattle.server.specs.Calls.{work_model}
use Rattle.server.specs.Models.{model}
use Rattle.server.specs.Places.{session_at}
use Rattle.server.proofs.Changes.{holds_here}
use Rattle.server.proofs.Found.{run_refused, run_by}
use Rattle.server.proofs.Runs.{some_of}
use Rattle.server.proofs.orders.WorkOrder.run.Goals as goal

pub returns-in_err-spot : goal.returns-in_err-spot
returns-in_err-spot g c =
    let S = g.S.Service.model in
    let m = model c.args.server.now in
    let k = g.S.Service.content c.args.service.now in
    let n = run_refused S k m (work_model c.args.self) (refusal_model c.in_err-spot.field-0.0) (sym c.in_err-spot.ensures.answer) in
    let p = err_from_is_err_and c.from_residual.result c.from_residual.ensures.1 in
    record { answer = rw (p.1, p.2) (sym n); state = ap (server_after S m) (sym n); content = ap (content_after S k) (sym n) }

pub answer_at-requires : goal.answer_at-requires
answer_at-requires g c =
    let m = model c.args.server.now in
    let w = work_model c.args.self in
    let h = c.in_ok-spot.ensures.there in
    let at = c.in_ok-spot.spot in
    let there = holds_here (λ s. is_in_hand s w) (session_at m at.place) h.2 in
    let s = some_of (session_at m at.place) there.0 in
    ap (when_found false (λ r. works_at r at.slot)) s.1 ∙ ap (works_at s.0) h.1 ∙ (and_parts (works_at s.0 w.slot) (eqb (slot_at s.0 w.slot).number w.number) (there.1 s.0 s.1)).0

pub returns : goal.returns
returns g c =
    let S = g.S.Service.model in
    let m = model c.args.server.now in
    let k = g.S.Service.content c.args.service.now in
    let w = work_model c.args.self in
    let h = c.in_ok-spot.ensures.there in
    let at = c.in_ok-spot.spot in
    let there = holds_here (λ s. is_in_hand s w) (session_at m at.place) h.2 in
    let s = some_of (session_at m at.place) there.0 in
    let n = run_by S k m at.place s.0 s.1 w true h.0 (there.1 s.0 s.1) in
    let r = c.answer_at.ensures s.0 s.1 h.0 ∙ ap (λ i. Ok (run_slot S k m w.id i s.0)) h.1 ∙ sym n in
    record { answer = r; state = ap (server_after S m) r; content = ap (content_after S k) r }
