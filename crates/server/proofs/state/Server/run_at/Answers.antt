use Rattle.std.proofs.Common.{◌≡◌, ◌<◌, length, is_some, Some, ap, ◌∙◌, arith}
use Rattle.std.specs.Option.{option_map}
use Rattle.server.specs.Server.{SessionM, run_bytes, run_content}
use Rattle.server.specs.Models.{model}
use Rattle.server.specs.Places.{session_at, settled}
use Rattle.server.proofs.Changes.{at_change, some_mapped, works_here, sixteen}
use Rattle.server.proofs.Runs.{settled_slot, run_state}
use Rattle.server.proofs.state.Server.run_at.Goals as goal

pub end-requires : goal.end-requires
end-requires g c =
    let m = model c.args.self.now in
    let p = c.args.spot.now.place in
    let i = c.args.spot.now.slot in
    ap (λ n. is_some (session_at n p)) c.settle.ensures ∙ ap is_some (at_change m.sessions p (settled i)) ∙ some_mapped (session_at m p) (settled i) ∙ (works_here m p i c.requires).0

pub returns : goal.returns
returns g c =
    let v = c.args.self.now in
    let m = model v in
    let p = c.args.spot.now.place in
    let i = c.args.spot.now.slot in
    let w = works_here m p i c.requires in
    let k = g.S.Service.content c.args.service.now in
    let low : (n : SessionM) → session_at m p ≡ Some n → i < length n.slots = λ n e. omega (arith, w.1, sixteen v.trays v.sessions p n e) in
    let then : (n : SessionM) → session_at m p ≡ Some n → session_at (model c.settle.new.self) p ≡ Some (settled i n) =
    λ n e. ap (λ q. session_at q p) c.settle.ensures ∙ at_change m.sessions p (settled i) ∙ ap (option_map (settled i)) e
    in
    let a = c.end.ensures in
    record {
      outcome = λ n e. ((a.outcome (settled i n) (then n e)).0, (a.outcome (settled i n) (then n e)).1, (a.outcome (settled i n) (then n e)).2 ∙ ap (run_bytes g.S.Service.model k) (settled_slot n i (low n e)));
      state = run_state m (model c.settle.new.self) _ p i _ low c.settle.ensures a.state;
      content = λ n e. a.content (settled i n) (then n e) ∙ ap (run_content g.S.Service.model k) (settled_slot n i (low n e));
    }
