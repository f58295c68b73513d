-- Order, part and resend by their cases; and that a call begun is resent as it was sent.
use Rattle.std.proofs.Common.{◌≡◌, ℕ, ◌<◌, ◌≤◌, Bool, true, false, cond, not, ◌&&◌, ltb, leb, ◌++◌, length, get_or, drop, Some, None, Ok, Err, Option, Result, sym, refl, ap, ◌∙◌, subst, arith}
use Rattle.std.proofs.lemmas.List.{get_or-set_same}
use Rattle.std.proofs.lemmas.Bool.{cond-true, cond-false, and_parts, leb-true, ltb-true, le-ltb}
use Rattle.common.specs.Bytes.{Bytes}
use Rattle.common.specs.Search.{when_found, lowest_at}
use Rattle.slots.specs.Slots.{has_next}
use Rattle.slots.proofs.Slots.{lowest_some, highest_low}
use Rattle.wire.specs.Wire.{Request, Refusal, forbidden_request, permits, write_answer, long_body, no_slot, no_open_call, no_part, request_message}
use Rattle.terminal.specs.Terminal.{OpenCall, EndM, TerminalM, Sending, new_end, end_at, begin, begun, is_ready, is_busy, order_call, order_highest, order_sends, part_call, part_sends, can_part, resent, resend_sends, call_request, after_sending}
use Rattle.terminal.specs.Sends.{slot_of, in_scratch, told, scratch_after}

-- what a body's copy tells of its length
pub copied_none : (b : Bool) (x : Bytes) → None ≡ cond b None (Some x) → b ≡ true
copied_none true x e = refl
copied_none false x e = absurd (let z : ◌≡◌ {A = ℕ} 0 1 = cc in omega arith)

pub copied_some : (b : Bool) (x y : Bytes) → Some y ≡ cond b None (Some x) → (b ≡ false) × (y ≡ x)
copied_some true x y e = absurd (let z : ◌≡◌ {A = ℕ} 0 1 = cc in omega arith)
copied_some false x y e = (refl, cc)

module _ (t : TerminalM) (keep : Bool) (body : Bytes) where
  pub order_long : None ≡ cond (ltb 256 (length body)) None (Some body) → order_sends t keep body ≡ Err long_body
  unfolding order_sends
  order_long e = cond-true _ _ _ (copied_none _ _ e)

  order_short : (held : Bytes) → Some held ≡ cond (ltb 256 (length body)) None (Some body) → order_sends t keep body ≡ when_found (Err no_slot) (λ i. Ok (begin t i (order_call t i keep body))) (lowest_at is_ready t.slots 0)
  unfolding order_sends
  order_short held e = cond-false _ _ _ (copied_some _ _ _ e).0

  pub order_none : (held : Bytes) → Some held ≡ cond (ltb 256 (length body)) None (Some body) → None ≡ lowest_at is_ready t.slots 0 → order_sends t keep body ≡ Err no_slot
  order_none held e l = order_short held e ∙ ap (when_found (Err no_slot) (λ i. Ok (begin t i (order_call t i keep body)))) (sym l)

  pub order_some : (held : Bytes) (i highest : ℕ) → Some held ≡ cond (ltb 256 (length body)) None (Some body) → Some i ≡ lowest_at is_ready t.slots 0 → highest ≡ order_highest t i → order_sends t keep body ≡ Ok (begin t i (record { highest = highest; keep = keep; body = held; part = false; fresh = true }))
  order_some held i highest e l h =
      order_short held e ∙ ap (when_found (Err no_slot) (λ i. Ok (begin t i (order_call t i keep body)))) (sym l) ∙ (λ j. Ok (begin t i (record { highest = sym h j; keep = keep; body = sym (copied_some _ _ _ e).1 j; part = false; fresh = true })))

-- the slot that an order takes is one of the table, can take a call, and can be written in 32 bits
pub record Free (t : TerminalM) (i : ℕ) : Type 0 where
  pub within : i < length t.slots
  pub ready : is_ready (end_at t i) ≡ true

pub lowest_free : (t : TerminalM) (i : ℕ) → Some i ≡ lowest_at is_ready t.slots 0 → Free t i
lowest_free t i e =
    let found = lowest_some is_ready t.slots 0 i new_end (sym e) in
    let at : found.at ≡ i = omega arith in
    record { within = omega arith; ready = subst (λ k. is_ready (get_or t.slots k new_end) ≡ true) at found.holds }

-- what being ready says
pub record Ready (x : EndM) : Type 0 where
  pub usable : x.usable ≡ true
  pub idle : is_busy x ≡ false
  pub room : x.number < 4294967295

pub ready_parts : (x : EndM) → is_ready x ≡ true → Ready x
ready_parts x e =
    let both = and_parts x.usable (not (is_busy x) && has_next x.number) e in
    let rest = and_parts (not (is_busy x)) (has_next x.number) both.1 in
    record { usable = both.0; idle = not-true (is_busy x) rest.0; room = ltb-true _ _ rest.1 }
  where
    not-true : (b : Bool) → not b ≡ true → b ≡ false
    not-true true h = absurd (let z : ◌≡◌ {A = ℕ} 0 1 = cc in omega arith)
    not-true false h = refl

pub free_room : (t : TerminalM) (i : ℕ) → Free t i → (end_at t i).number < 4294967295
free_room t i f = (ready_parts (end_at t i) f.ready).room

pub highest_fits : (t : TerminalM) (i h : ℕ) → length t.slots ≡ 16 → Free t i → h ≡ order_highest t i → h ≤ 15
highest_fits t i h sixteen free e =
    let low = highest_low is_busy 15 t.slots 0 0 (omega arith) (omega arith) in let w = free.within in omega arith

module _ (t : TerminalM) (i : ℕ) where
  pub part_refused : can_part t i ≡ false → part_sends t i ≡ Err no_part
  unfolding part_sends
  part_refused e = cond-false _ _ _ e

  pub part_some : can_part t i ≡ true → part_sends t i ≡ Ok (begin t i (part_call i))
  unfolding part_sends
  part_some e = cond-true _ _ _ e

  pub resend_low : i ≤ 15 → resend_sends t i ≡ when_found (Err no_open_call) (λ c. Ok (resent t i c)) (end_at t i).call
  unfolding resend_sends
  resend_low h = cond-false _ _ _ (le-ltb _ _ h)

  pub resend_none : (end_at t i).call ≡ None → resend_sends t i ≡ Err no_open_call
  unfolding resend_sends
  resend_none e = ap (λ o. cond (ltb 15 i) (Err no_open_call) (when_found (Err no_open_call) (λ c. Ok (resent t i c)) o)) e ∙ same (ltb 15 i)
    where
      same : (b : Bool) → ◌≡◌ {A = Result Sending Refusal} (cond b (Err no_open_call) (Err no_open_call)) (Err no_open_call)
      same true = refl
      same false = refl

  pub resend_some : (c : OpenCall) → i ≤ 15 → (end_at t i).call ≡ Some c → resend_sends t i ≡ Ok (resent t i c)
  resend_some c h e = resend_low h ∙ ap (when_found (Err no_open_call) (λ c. Ok (resent t i c))) e

-- a call begun at a free slot
pub record Begins (t : TerminalM) (s : Sending) : Type 0 where
  pub slot : ℕ
  pub call : OpenCall
  pub is : s ≡ begin t slot call
  pub free : Free t slot
  pub fresh : call.fresh ≡ true

ok_is : {X : Type 0} (r : Result X Refusal) (x y : X) → r ≡ Ok x → r ≡ Ok y → x ≡ y
ok_is r x y e f = cc

err_not : {X : Type 0} (r : Result X Refusal) (e : Refusal) (y : X) → r ≡ Err e → r ≡ Ok y → ⊥
err_not r e y p q = let z : ◌≡◌ {A = ℕ} 0 1 = cc in omega arith

pub order_begins : (t : TerminalM) (keep : Bool) (body : Bytes) (s : Sending) → order_sends t keep body ≡ Ok s → Begins t s
order_begins t keep body s e = go (ltb 256 (length body)) refl (lowest_at is_ready t.slots 0) refl
  where
    go : (b : Bool) → b ≡ ltb 256 (length body) → (o : Option ℕ) → o ≡ lowest_at is_ready t.slots 0 → Begins t s
    go true p o l = absurd (err_not _ _ _ (order_long t keep body (ap (λ b. cond b None (Some body)) p)) e)
    go false p None l = absurd (err_not _ _ _ (order_none t keep body body (ap (λ b. cond b None (Some body)) p) l) e)
    go false p (Some i) l = record {
      slot = i;
      call = order_call t i keep body;
      is = ok_is _ _ _ e (order_some t keep body body i (order_highest t i) (ap (λ b. cond b None (Some body)) p) l refl);
      free = lowest_free t i l;
      fresh = refl;
    }

pub record Parts (t : TerminalM) (i : ℕ) : Type 0 where
  pub above : t.heard < i
  pub low : i ≤ 15
  pub ready : is_ready (end_at t i) ≡ true

pub part_parts : (t : TerminalM) (i : ℕ) → can_part t i ≡ true → Parts t i
part_parts t i e =
    let one = and_parts (leb 1 i) (leb i 15 && (ltb t.heard i && is_ready (end_at t i))) e in
    let two = and_parts (leb i 15) (ltb t.heard i && is_ready (end_at t i)) one.1 in
    let three = and_parts (ltb t.heard i) (is_ready (end_at t i)) two.1 in
    record { above = ltb-true _ _ three.0; low = leb-true _ _ two.0; ready = three.1 }

pub part_begins : (t : TerminalM) (i : ℕ) (s : Sending) → length t.slots ≡ 16 → part_sends t i ≡ Ok s → Begins t s
part_begins t i s sixteen e = go (can_part t i) refl
  where
    go : (b : Bool) → can_part t i ≡ b → Begins t s
    go true p = let parts = part_parts t i p in record {
      slot = i;
      call = part_call i;
      is = ok_is _ _ _ e (part_some t i p);
      free = record { within = omega arith; ready = parts.ready };
      fresh = refl;
    }
    go false p = absurd (err_not _ _ _ (part_refused t i p) e)

-- what was sent is what a resend gives
pub begin_resends : (t : TerminalM) (i : ℕ) (c : OpenCall) → i < length t.slots → i ≤ 15 → resend_sends (begin t i c).after i ≡ Ok (begin t i c)
begin_resends t i c within low =
    let here : end_at (begin t i c).after i ≡ begun (end_at t i) c = get_or-set_same t.slots i (begun (end_at t i) c) new_end within in
    resend_some (begin t i c).after i c low (ap (λ (x : EndM). x.call) here) ∙ ap (λ (x : EndM). Ok (record { slot = i; message = request_message (call_request t i x.number c); after = (begin t i c).after })) here

pub begins_resends : (t : TerminalM) (s : Sending) → length t.slots ≡ 16 → Begins t s → resend_sends s.after s.slot ≡ Ok s
begins_resends t s sixteen b =
    subst (λ (s : Sending). resend_sends s.after s.slot ≡ Ok s) (sym b.is) (begin_resends t b.slot b.call b.free.within (let w = b.free.within in omega arith))

-- and so a resend at the terminal after
pub begun_resends : (t after : TerminalM) (i : ℕ) (s : Sending) (r : Result Sending Refusal) → length t.slots ≡ 16 → Begins t s → r ≡ Ok s → after ≡ after_sending t r → Ok i ≡ slot_of r → resend_sends after i ≡ r
begun_resends t after i s r sixteen b e a o =
    let at : i ≡ s.slot = ok_is (slot_of r) i s.slot (sym o) (ap slot_of e) in
    let here : after ≡ s.after = a ∙ ap (after_sending t) e in
    (λ j. resend_sends (here j) (at j)) ∙ begins_resends t s sixteen b ∙ sym e

-- in a scratch that is large enough
pub in_room : (scratch : Bytes) (r s : Result Sending Refusal) → 304 ≤ length scratch → r ≡ s → in_scratch (length scratch) r ≡ s
in_room scratch r s h e = cond-false _ _ _ (le-ltb _ _ h) ∙ e

permitted : (len n : ℕ) (forbidden : Option ℕ) → Ok len ≡ permits n forbidden → len ≡ n
permitted len n None e = cc
permitted len n (Some at) e = absurd (let z : ◌≡◌ {A = ℕ} 0 1 = cc in omega arith)

-- a message that was written has its length
pub wrote_length : (len room : ℕ) (forbidden : Option ℕ) (message : Bytes) → 304 ≤ room → Ok len ≡ write_answer forbidden message room → len ≡ length message
wrote_length len room forbidden message h e =
    permitted len (length message) forbidden (e ∙ cond-false _ _ _ (le-ltb _ _ h))

module _ (t : TerminalM) (i : ℕ) (x : EndM) (c : OpenCall) (q : Request) (scratch : Bytes) (low : i ≤ 15) (at : x ≡ end_at t i) (call : x.call ≡ Some c) (asks : q ≡ call_request t i x.number c) (room : 304 ≤ length scratch) where
  -- the request of an open call is what its resend sends
  pub resend_asks : in_scratch (length scratch) (resend_sends t i) ≡ Ok (record { slot = i; message = request_message q; after = t })
  resend_asks =
      in_room scratch _ _ room (resend_some t i c low (ap (λ (x : EndM). x.call) (sym at) ∙ call)) ∙ (λ j. Ok (record { slot = i; message = request_message (call_request t i (sym at j).number c); after = t })) ∙ (λ j. Ok (record { slot = i; message = request_message (sym asks j); after = t }))

  module _ (len : ℕ) (after : Bytes) (answer : Ok len ≡ write_answer (forbidden_request q) (request_message q) (length scratch)) (out : after ≡ request_message q ++ drop len scratch) where
    len_is : len ≡ length (request_message q)
    len_is = wrote_length len (length scratch) (forbidden_request q) (request_message q) room answer

    pub resend_answer : Ok (record { slot = i; len = len }) ≡ told (in_scratch (length scratch) (resend_sends t i))
    resend_answer = (λ j. Ok (record { slot = i; len = len_is j })) ∙ ap told (sym resend_asks)

    pub resend_scratch : after ≡ scratch_after scratch (in_scratch (length scratch) (resend_sends t i))
    resend_scratch = out ∙ ap (λ n. request_message q ++ drop n scratch) len_is ∙ ap (scratch_after scratch) (sym resend_asks)
