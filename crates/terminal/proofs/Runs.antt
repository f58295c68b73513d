-- The laws over a terminal's life.
use Rattle.std.proofs.Common.{◌≡◌, ℕ, ◌≤◌, Bool, true, false, List, [], ◌∷◌, length, Some, None, Ok, Err, Option, Result, sym, refl, ap, ◌∙◌, subst, arith}
use Rattle.std.proofs.lemmas.List.{get_or-set_same}
use Rattle.std.specs.Option.{option_map}
use Rattle.common.specs.Bytes.{Bytes}
use Rattle.common.specs.Search.{when_found}
use Rattle.wire.specs.Wire.{Refusal, SessionId, no_open_call, request_message}
use Rattle.terminal.specs.Terminal.{OpenCall, EndM, TerminalM, Sending, new_end, end_at, begun, is_busy, resend_sends, stale_call, call_request}
use Rattle.terminal.specs.Sends.{message_of}
use Rattle.terminal.specs.Laws.{Event, ordered, parted_with, heard, after_event, after_run, BeginsCall, StaysOpen, ResendsFirstBytes, NumbersNeverFall, OneCallASlot}
use Rattle.terminal.proofs.Steps.{Begins, order_begins, part_begins, ready_parts, begins_resends, resend_low}
use Rattle.terminal.proofs.Life.{Same, Moves, stays, begins, closes, moves, Kept, kept, begin_kept}

-- what a resend sends, from the slot's number and call; whether it is fresh does not matter
sent_again : SessionId → ℕ → ℕ → Option OpenCall → Result Bytes Refusal
sent_again id i number =
    when_found (Err no_open_call) (λ c. Ok (request_message (record { id = id; number = number; slot = i; highest = c.highest; keep = c.keep; body = c.body })))

sent_stale : (id : SessionId) (i number : ℕ) (o : Option OpenCall) → sent_again id i number o ≡ sent_again id i number (option_map stale_call o)
unfolding sent_again
sent_stale id i number None = refl
sent_stale id i number (Some c) = refl

resend_message : (t : TerminalM) (i : ℕ) → i ≤ 15 → message_of (resend_sends t i) ≡ sent_again t.id i (end_at t i).number (end_at t i).call
unfolding sent_again
resend_message t i low = ap message_of (resend_low t i low) ∙ go (end_at t i).call
  where
    go : (o : Option OpenCall) → message_of (when_found (Err no_open_call) (λ c. Ok (record { slot = i; message = request_message (call_request t i (end_at t i).number c); after = t })) o) ≡ sent_again t.id i (end_at t i).number o
    go None = refl
    go (Some c) = refl

same_message : (t u : TerminalM) (i : ℕ) → i ≤ 15 → u.id ≡ t.id → Same (end_at t i) (end_at u i) → message_of (resend_sends u i) ≡ message_of (resend_sends t i)
same_message t u i low id same =
    resend_message u i low ∙ sent_stale u.id i (end_at u i).number (end_at u i).call
    ∙ (λ j. sent_again (id j) i (same.number j) (same.call j))
    ∙ sym (resend_message t i low ∙ sent_stale t.id i (end_at t i).number (end_at t i).call)

not_both : (b : Bool) → b ≡ true → b ≡ false → ⊥
not_both b p q = let z : ◌≡◌ {A = ℕ} 0 1 = cc in omega arith

run_resends : (t : TerminalM) (i : ℕ) (run : List Event) → i ≤ 15 → length t.slots ≡ 16 → is_busy (end_at t i) ≡ true → StaysOpen i t run → message_of (resend_sends (after_run t run) i) ≡ message_of (resend_sends t i)
run_resends t i [] low sixteen busy shown = refl
run_resends t i (e ∷ es) low sixteen busy (now_open, later) =
    run_resends (after_event t e) i es low (k.count ∙ sixteen) now_open later ∙ same_message t (after_event t e) i low k.id (same (moves t e i sixteen))
  where
    k : Kept t (after_event t e)
    k = kept t e sixteen

    same : Moves (end_at t i) (end_at (after_event t e) i) → Same (end_at t i) (end_at (after_event t e) i)
    same (stays s) = s
    same (begins idle n) = absurd (not_both (is_busy (end_at t i)) busy idle)
    same (closes n idle) = absurd (not_both (is_busy (end_at (after_event t e) i)) now_open idle)

call_begins : (t : TerminalM) (e : Event) (s : Sending) → length t.slots ≡ 16 → BeginsCall t e s → Begins t s
call_begins t (ordered keep body) s sixteen h = order_begins t keep body s h
call_begins t (parted_with i) s sixteen h = part_begins t i s sixteen h
call_begins t (heard r) s sixteen h = absurd h

-- the slot as the call begins
begun_here : (t : TerminalM) (s : Sending) (b : Begins t s) → end_at s.after s.slot ≡ begun (end_at t s.slot) b.call
begun_here t s b =
    subst (λ (s : Sending). end_at s.after s.slot ≡ begun (end_at t s.slot) b.call) (sym b.is)
    (get_or-set_same t.slots b.slot (begun (end_at t b.slot) b.call) new_end b.free.within)

slot_low : (t : TerminalM) (s : Sending) → length t.slots ≡ 16 → Begins t s → s.slot ≤ 15
slot_low t s sixteen b =
    let at : s.slot ≡ b.slot = ap (λ (s : Sending). s.slot) b.is in let w = b.free.within in omega arith

pub resends_first_bytes : ResendsFirstBytes
resends_first_bytes t e s run sixteen h shown =
    let b : Begins t s = call_begins t e s sixteen h in
    run_resends s.after s.slot run (slot_low t s sixteen b) ((begin_kept t s b).count ∙ sixteen) (ap is_busy (begun_here t s b)) shown ∙ ap message_of (begins_resends t s sixteen b)

pub one_call_a_slot : OneCallASlot
one_call_a_slot t e s sixteen h =
    let b : Begins t s = call_begins t e s sixteen h in
    let at : s.slot ≡ b.slot = ap (λ (s : Sending). s.slot) b.is in
    let ready = ready_parts (end_at t b.slot) b.free.ready in
    record {
      usable = ap (λ k. (end_at t k).usable) at ∙ ready.usable;
      at_rest = ap (λ k. is_busy (end_at t k)) at ∙ ready.idle;
      opened = ap is_busy (begun_here t s b);
      numbered = ap (λ (x : EndM). x.number) (begun_here t s b);
    }

move_up : (x y : EndM) → Moves x y → x.number ≤ y.number
move_up x y (stays s) = let n = s.number in omega arith
move_up x y (begins idle n) = omega arith
move_up x y (closes n idle) = omega arith

pub numbers_never_fall : NumbersNeverFall
numbers_never_fall t [] i sixteen = omega arith
numbers_never_fall t (e ∷ es) i sixteen =
    let first = move_up (end_at t i) (end_at (after_event t e) i) (moves t e i sixteen) in
    let rest = numbers_never_fall (after_event t e) es i ((kept t e sixteen).count ∙ sixteen) in
    omega arith
