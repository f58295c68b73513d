use Rattle.std.proofs.Common.{◌≡◌, cond, eqb, [], length, Some, sym, ap, ◌∙◌}
use Rattle.common.specs.Bytes.{Bytes}
use Rattle.slots.specs.Slots.{highest_at}
use Rattle.server.specs.Server.{SlotM, SessionM, slot_at}
use Rattle.server.specs.Models.{model}
use Rattle.server.specs.Places.{session_at}
use Rattle.server.proofs.Runs.{highest_told, target_told, end_state}
use Rattle.server.proofs.state.Server.end.Goals as goal

pub returns : goal.returns
returns g c =
    let S = g.S.Service.model in
    let v = c.args.self.now in
    let m = model v in
    let p = c.args.spot.now.place in
    let i = c.args.spot.now.slot in
    let k = g.S.Service.content c.args.service.now in
    let s = c.session-session.result.now in
    let hs = c.session-session.ensures in
    let a = c.reply_of-body.ensures in
    let asked : (n : SessionM) → session_at m p ≡ Some n → c.request.result.now ≡ (slot_at n i).body = λ n e. c.request.ensures ∙ ap (λ (y : SlotM). y.body) (sym (c.entry.ensures n e)) in
    let top : (n : SessionM) → session_at m p ≡ Some n → c.highest_open-highest.result ≡ highest_at (λ (x : SlotM). x.is_open) n.slots 0 0 = λ n e. c.highest_open-highest.ensures.value ∙ highest_told v p s hs n e in
    let aim : (n : SessionM) → session_at m p ≡ Some n → s.target ≡ n.target = target_told v p s hs in
    record {
      outcome = λ n e. (top n e, aim n e, a.reply ∙ ap (λ (b : Bytes). cond (eqb (length b) 0) [] (S.reply k b)) (asked n e));
      state = end_state m _ p i _ _ _ (λ n e. (top n e, aim n e)) c.keep.ensures;
      content = λ n e. a.content ∙ ap (λ (b : Bytes). cond (eqb (length b) 0) k (S.next k b)) (asked n e);
    }
