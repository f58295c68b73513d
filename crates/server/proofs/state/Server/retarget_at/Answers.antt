use Rattle.std.proofs.Common.{◌≡◌, ℕ, ◌+◌, ◌<◌, ◌≤◌, true, not, get_or, take, is_some, None, Some, Ok, count_by, sym, ap, ◌∙◌, arith}
use Rattle.server.specs.Server.{SlotM, SessionM, free_trays, place_of, shut_up_to, with_open, after_call, retargeted, retarget_in}
use Rattle.common.specs.Search.{when_found}
use Rattle.wire.specs.Wire.{SessionId}
use Rattle.server.specs.declared.records.Slot.{Slot}
use Rattle.server.specs.declared.records.Session.{Session}
use Rattle.server.specs.declared.state.Server.{Server}
use Rattle.server.specs.Models.{model}
use Rattle.server.specs.Places.{session_at, change_at, at_front, with_target, shut_below}
use Rattle.server.proofs.Changes.{with_places, change_twice}
use Rattle.server.proofs.Found.{changed_found}
use Rattle.server.proofs.Runs.{some_of, session_is}
use Rattle.server.proofs.Opened.{shut_told, retarget_few, retarget_done}
use Rattle.server.proofs.state.Server.retarget_at.Goals as goal

-- the shut slots that the code counts are those of the rule
told : (v : Server) (p n : ℕ) (s : Session) (m : SessionM) → get_or v.sessions p None ≡ Some s → session_at (model v) p ≡ Some m → count_by (λ (x : Slot). not (is_some x.tray)) (take n s.slots) ≡ count_by (λ (x : SlotM). not x.is_open) (take n m.slots)
told v p n s m hs e =
    shut_told v.trays s.slots n ∙ ap (λ (r : SessionM). count_by (λ (x : SlotM). not x.is_open) (take n r.slots)) (sym (session_is v p s hs m e))

pub returns-then-free_trays-shut_below : goal.returns-then-free_trays-shut_below
returns-then-free_trays-shut_below c =
    let v = c.args.self.now in
    let m = model v in
    let t = c.args.target in
    let few : (s : SessionM) → session_at m c.args.place ≡ Some s → free_trays m < shut_up_to s t =
    λ s e. omega (arith, c.shut_below.ensures, told v c.args.place (t + 1) c.session.result.now s c.session.ensures e, c.free_trays.ensures.value, c.if-free_trays-shut_below.true)
    in
    record {
      answer = λ s e id f. sym (retarget_few m id t s c.if-target-gt15.false (few s e));
      state = λ s e id f. ap (after_call m) (sym (retarget_few m id t s c.if-target-gt15.false (few s e)));
    }

pub open_slots-requires : goal.open_slots-requires
open_slots-requires c =
    let v = c.args.self.now in
    let m = model v in
    let p = c.args.place in
    let n = c.args.target + 1 in
    let s = some_of (session_at m p) c.requires in
    let shut : shut_below m p n ≡ count_by (λ (x : SlotM). not x.is_open) (take n s.0.slots) = ap (when_found 0 (λ (r : SessionM). count_by (λ (x : SlotM). not x.is_open) (take n r.slots))) s.1 in
    record {
      few = omega (arith, c.if-target-gt15.false);
      room = omega (arith, shut, c.shut_below.ensures, told v p n c.session.result.now s.0 c.session.ensures s.1, c.free_trays.ensures.value, c.if-free_trays-shut_below.false);
    }

pub returns : goal.returns
returns c =
    let v = c.args.self.now in
    let m = model v in
    let p = c.args.place in
    let t = c.args.target in
    let room : (s : SessionM) → session_at m p ≡ Some s → shut_up_to s t ≤ free_trays m =
    λ s e. omega (arith, c.shut_below.ensures, told v p (t + 1) c.session.result.now s c.session.ensures e, c.free_trays.ensures.value, c.if-free_trays-shut_below.false)
    in
    let n =
    c.aim.ensures
    ∙ ap (λ q. change_at q p (with_target t)) c.open_slots.ensures
    ∙ ap (with_places m) (change_twice m.sessions p (at_front (with_open true) (t + 1)) (with_target t))
    in
    let all : (s : SessionM) → session_at m p ≡ Some s → (id : SessionId) → place_of m id ≡ Some p → Ok (model c.aim.new.self) ≡ retarget_in m id t s =
    λ s e id f. ap Ok (n ∙ changed_found m id p s (λ r. retargeted r t) f e) ∙ sym (retarget_done m id t s c.if-target-gt15.false (room s e))
    in
    record { answer = all; state = λ s e id f. ap (after_call m) (all s e id f) }
