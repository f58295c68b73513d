-- The worked cases, proved.
use Rattle.std.proofs.Common.{◌≡◌, ℕ, zero, suc, ◌+◌, Bool, true, false, cond, ◌&&◌, ltb, List, [], ◌∷◌, get_or, refl}
use Rattle.std.proofs.lemmas.List.{get_or-set_other}
use Rattle.std.proofs.lemmas.Bool.{ne_eqb}
use Rattle.wire.specs.Wire.{Reply, request_message, reply_message, read_request, read_reply}
use Rattle.slots.specs.Slots.{front_changed}
use Rattle.server.specs.Server as server
use Rattle.server.specs.Server.{SlotM, new_slot, with_open, finished}
use Rattle.terminal.specs.Terminal as terminal
use Rattle.terminal.specs.Terminal.{TerminalM, OpenCall, learns}
use Rattle.exactly_once.specs.Steps as steps
use Rattle.examples.specs.Cases.{Cases}

-- a slot after the first n were changed
front_number : (n : ℕ) (xs : List SlotM) (i : ℕ) → (get_or (front_changed (with_open true) n xs) i new_slot).number ≡ (get_or xs i new_slot).number
front_number zero xs i = refl
front_number (suc n) [] i = refl
front_number (suc n) (x ∷ xs) zero = refl
front_number (suc n) (x ∷ xs) (suc i) = front_number n xs i

pub cases : Cases
unfolding read_request read_reply request_message reply_message server.serve server.session_of server.with_session server.free_trays server.open_session server.retarget_session server.close_session server.run_work server.resume_work terminal.order_sends terminal.part_sends terminal.resend_sends terminal.after_accept steps.open_step steps.send_step steps.hear_step steps.resume_step steps.take_step steps.retarget_step steps.close_step
cases = record {
  one_is_new = λ q e. rw e;
  zero_misordered = λ q e. rw e;
  two_misordered = λ q e. rw e;
  slot_15 = λ id q s n h. rw (s, n, h);
  slot_16 = λ s q e. rw e;
  body_256 = refl;
  body_257 = refl;
  move_48 = λ id number slot highest keep from to amount. refl;
  move_60 = λ id number slot high target bins from to amount e. rw e;
  worn_out = λ x q e f. rw (e, f);
  no_tray = refl;
  fifth = refl;
  was_open = refl;
  is_shut = refl;
  part_number = refl;
  part_taken = refl;
  next_slots = refl;
  next_number = refl;
  into_itself = λ ns node parent name a b c d e f. rw (a, b, c, d, ne_eqb node 0 e, f);
  other_slots = λ s i j bytes n. get_or-set_other s.slots i j (finished s i bytes) new_slot n;
  reopened_number = λ s target i. front_number (target + 1) s.slots i;
  stale_target = λ t c r e. stale t c r e;
}
  where
    stale : (t : TerminalM) (c : OpenCall) (r : Reply) → c.fresh ≡ false → (learns t c r).heard ≡ t.heard
    stale t c r e = go (c.part && ltb r.target r.slot) c.fresh e
      where
        go : (b f : Bool) → f ≡ false → (cond b (terminal.parted (cond f (terminal.heard_target t r.target) t) r.slot) (cond f (terminal.heard_target t r.target) t)).heard ≡ t.heard
        go true f e = rw e
        go false f e = rw e
