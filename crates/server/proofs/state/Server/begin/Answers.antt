use Rattle.std.proofs.Common.{◌≡◌, ℕ, ◌+◌, ◌<◌, List, map, length, set, Some, Option, sym, ap, ◌∙◌, arith, length-set}
use Rattle.std.proofs.lemmas.List.{map-set}
use Rattle.wire.specs.Models.{id_model}
use Rattle.server.specs.Server.{SessionM, ServerM}
use Rattle.server.specs.Trays.{slots_open}
use Rattle.server.specs.Models.{model, session_model}
use Rattle.server.specs.Places.{session_at, begun}
use Rattle.server.proofs.Opened.{marked_at, counted_at, vacant_is}
use Rattle.server.proofs.state.Server.begin.Goals as goal

pub invariant_of-self-2 : goal.invariant_of-self-2
invariant_of-self-2 c =
    let v = c.args.self.now in
    let ss = v.sessions in
    let p = c.get.result in
    let h : p < length ss = omega (arith, v.whole, c.get.ensures.below) in
    let a = c.new.ensures in
    let gone = vacant_is v.trays ss p (ap (session_at (model v)) c.get.ensures.value ∙ c.requires.vacant) in
    record {
      whole = (length-set _ _ _ ∙ v.whole.0, v.whole.1);
      marked = marked_at ss v.trays p _ h v.marked (λ i k e. absurd (let q = sym (a.none.0 i) ∙ e in let z : ◌≡◌ {A = ℕ} 0 1 = cc in omega arith));
      counted = counted_at ss _ p _ h v.counted (a.none.1 ∙ sym (ap slots_open gone));
    }

pub returns : goal.returns
returns c =
    let v = c.args.self.now in
    let with : List (Option SessionM) → ServerM = λ places. record { boot = v.boot; count = v.count + 1; sessions = places } in
    ap with (map-set (session_model v.trays) v.sessions c.get.result (Some c.new.result) ∙ ap (λ s. set (map (session_model v.trays) v.sessions) c.get.result (Some s)) (c.new.ensures.value v.trays))
    ∙ ap (λ q. begun (model v) q (id_model c.args.id) c.args.target) c.get.ensures.value
