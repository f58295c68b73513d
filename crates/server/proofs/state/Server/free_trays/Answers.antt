use Rattle.std.proofs.Common.{◌≡◌, Some, sym, ap, ◌∙◌, arith}
use Rattle.server.specs.declared.records.Spot.{Spot}
use Rattle.server.specs.Trays.{spot}
use Rattle.server.proofs.Trays.{open_sum_is, free_is}
use Rattle.server.proofs.state.Server.free_trays.Goals as goal

pub returns : goal.returns
returns c =
    let v = c.args.self.now in
    record {
      value = c.free_in.ensures ∙ sym (free_is v);
      counted = omega (arith, c.free_in.ensures, open_sum_is v.trays v.sessions, v.counted);
      apart = λ p q i j k a b. (let w : Some (spot p i) ≡ Some (spot q j) = sym (v.marked p i k a) ∙ v.marked q j k b in let e : spot p i ≡ spot q j = cc in (ap (λ (o : Spot). o.place) e, ap (λ (o : Spot). o.slot) e));
    }
