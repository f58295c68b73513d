-- What an event does to one slot, and to the slots as a whole.
use Rattle.std.proofs.Common.{◌≡◌, ℕ, zero, suc, ◌+◌, Bool, true, false, cond, ◌&&◌, ltb, List, [], ◌∷◌, map, length, get_or, set, is_some, Some, None, Ok, Err, Option, Result, sym, refl, ap, ◌∙◌, subst}
use Rattle.std.proofs.lemmas.List.{length-set, length-map}
use Rattle.std.specs.Option.{option_map}
use Rattle.common.specs.Search.{when_found}
use Rattle.slots.specs.Slots.{front_changed}
use Rattle.slots.proofs.Slots.{front_length}
use Rattle.wire.specs.Wire.{Reply, Refusal}
use Rattle.terminal.specs.Terminal.{OpenCall, EndM, TerminalM, Sending, Effect, answered, done, unknown, still_open, new_end, end_at, with_end, with_usable, begun, is_busy, order_sends, part_sends, after_sending, after_accept, after_effect, reply_effect, belongs, closed, at_rest, heard_target, stale, stale_call, parted, learns_target, learns}
use Rattle.terminal.specs.Laws.{Event, ordered, parted_with, heard, after_event}
use Rattle.terminal.proofs.Steps.{Begins, order_begins, part_begins, ready_parts}

-- an element after a change, by cases
pub set_either : {X : Type 0} (P : X → Type 0) (xs : List X) (i j : ℕ) (v d : X) → P (get_or xs j d) → (j ≡ i → P v) → P (get_or (set xs i v) j d)
set_either P [] i j v d here there = here
set_either P (x ∷ xs) zero zero v d here there = there refl
set_either P (x ∷ xs) zero (suc j) v d here there = here
set_either P (x ∷ xs) (suc i) zero v d here there = here
set_either P (x ∷ xs) (suc i) (suc j) v d here there = set_either P xs i j v d here (λ e. there (ap suc e))

pub front_either : {X : Type 0} (P : X → Type 0) (f : X → X) (n : ℕ) (xs : List X) (j : ℕ) (d : X) → P (get_or xs j d) → P (f (get_or xs j d)) → P (get_or (front_changed f n xs) j d)
front_either P f zero xs j d here there = here
front_either P f (suc n) [] j d here there = here
front_either P f (suc n) (x ∷ xs) zero d here there = there
front_either P f (suc n) (x ∷ xs) (suc j) d here there = front_either P f n xs j d here there

-- a map that leaves the default
pub getD_mapped : {X : Type 0} (f : X → X) (xs : List X) (j : ℕ) (d : X) → f d ≡ d → get_or (map f xs) j d ≡ f (get_or xs j d)
getD_mapped f [] j d e = sym e
getD_mapped f (x ∷ xs) zero d e = refl
getD_mapped f (x ∷ xs) (suc j) d e = getD_mapped f xs j d e

-- the same number and the same call, fresh or not
pub record Same (x y : EndM) : Type 0 where
  pub number : y.number ≡ x.number
  pub call : option_map stale_call y.call ≡ option_map stale_call x.call

pub same_end : (x : EndM) → Same x x
same_end x = record { number = refl; call = refl }

pub same_then : (x y z : EndM) → Same x y → Same y z → Same x z
same_then x y z p q = record { number = q.number ∙ p.number; call = q.call ∙ p.call }

stale_twice : (o : Option OpenCall) → option_map stale_call (option_map stale_call o) ≡ option_map stale_call o
stale_twice None = refl
stale_twice (Some c) = refl

some_mapped : (o : Option OpenCall) → is_some (option_map stale_call o) ≡ is_some o
some_mapped None = refl
some_mapped (Some c) = refl

pub same_busy : (x y : EndM) → Same x y → is_busy y ≡ is_busy x
same_busy x y p = sym (some_mapped y.call) ∙ ap is_some p.call ∙ some_mapped x.call

-- what can become of a slot in one event
pub data Moves (x y : EndM) : Type 0 where
  stays : Same x y → Moves x y
  begins : is_busy x ≡ false → y.number ≡ x.number + 1 → Moves x y
  closes : y.number ≡ x.number → is_busy y ≡ false → Moves x y

moves_then : (x y z : EndM) → Moves x y → Same y z → Moves x z
moves_then x y z (stays p) q = stays (same_then x y z p q)
moves_then x y z (begins idle n) q = begins idle (q.number ∙ n)
moves_then x y z (closes n idle) q = closes (q.number ∙ n) (same_busy y z q ∙ idle)

-- a target heard, and a slot given up, leave every number and call
heard_same : (t : TerminalM) (target j : ℕ) → Same (end_at t j) (end_at (heard_target t target) j)
heard_same t target j =
    front_either (Same (end_at t j)) (with_usable true) (target + 1) t.slots j new_end (same_end (end_at t j)) (record { number = refl; call = refl })

parted_same : (t : TerminalM) (i j : ℕ) → Same (end_at t j) (end_at (parted t i) j)
parted_same t i j =
    subst (Same (end_at t j)) (sym (getD_mapped stale (set t.slots i (with_usable false (end_at t i))) j new_end refl))
    (set_either (λ x. Same (end_at t j) (stale x)) t.slots i j (with_usable false (end_at t i)) new_end (staled (end_at t j)) (λ e. subst (λ k. Same (end_at t j) (stale (with_usable false (end_at t k)))) e (shut (end_at t j))))
  where
    staled : (x : EndM) → Same x (stale x)
    staled x = record { number = refl; call = stale_twice x.call }

    shut : (x : EndM) → Same x (stale (with_usable false x))
    shut x = record { number = refl; call = stale_twice x.call }

learns_target_same : (t : TerminalM) (c : OpenCall) (r : Reply) (j : ℕ) (b : Bool) → Same (end_at t j) (end_at (cond b (heard_target t r.target) t) j)
learns_target_same t c r j true = heard_same t r.target j
learns_target_same t c r j false = same_end (end_at t j)

learns_same : (t : TerminalM) (c : OpenCall) (r : Reply) (j : ℕ) → Same (end_at t j) (end_at (learns t c r) j)
learns_same t c r j = go (c.part && ltb r.target r.slot)
  where
    first : Same (end_at t j) (end_at (learns_target t c r) j)
    first = learns_target_same t c r j c.fresh

    go : (b : Bool) → Same (end_at t j) (end_at (cond b (parted (learns_target t c r) r.slot) (learns_target t c r)) j)
    go true = same_then _ _ _ first (parted_same (learns_target t c r) r.slot j)
    go false = first

closed_moves : (t : TerminalM) (i j : ℕ) → Moves (end_at t j) (end_at (closed t i) j)
closed_moves t i j =
    set_either (Moves (end_at t j)) t.slots i j (at_rest (end_at t i)) new_end (stays (same_end (end_at t j))) (λ e. closes (ap (λ k. (end_at t k).number) (sym e)) refl)

effect_moves : (t : TerminalM) (c : OpenCall) (r : Reply) (eff : Effect) (j : ℕ) → Moves (end_at t j) (end_at (after_effect t c r eff) j)
effect_moves t c r (answered b) j = moves_then _ _ _ (closed_moves t r.slot j) (learns_same (closed t r.slot) c r j)
effect_moves t c r done j = closed_moves t r.slot j
effect_moves t c r unknown j = closed_moves t r.slot j
effect_moves t c r (still_open n) j = stays (same_end (end_at t j))

-- what holds of the terminal, and of it after every effect on the slot's call, holds after a reply
pub accept_any : (t : TerminalM) (r : Reply) (P : TerminalM → Type 0) → P t → ((c : OpenCall) → (end_at t r.slot).call ≡ Some c → (eff : Effect) → P (after_effect t c r eff)) → P (after_accept t r)
unfolding after_accept
accept_any t r P none some = go (belongs t r) (end_at t r.slot).call refl
  where
    go : (b : Bool) (o : Option OpenCall) → (end_at t r.slot).call ≡ o → P (cond b (when_found t (λ c. after_effect t c r (reply_effect r)) o) t)
    go false o e = none
    go true None e = none
    go true (Some c) e = some c e (reply_effect r)

-- what holds of the terminal, and of it after every call begun, holds after an order or a part
pub sending_any : (t : TerminalM) (P : TerminalM → Type 0) (s : Result Sending Refusal) → P t → ((x : Sending) → s ≡ Ok x → P x.after) → P (after_sending t s)
sending_any t P (Ok x) none some = some x refl
sending_any t P (Err e) none some = none

begin_moves : (t : TerminalM) (s : Sending) (j : ℕ) → Begins t s → Moves (end_at t j) (end_at s.after j)
begin_moves t s j b =
    subst (λ (s : Sending). Moves (end_at t j) (end_at s.after j)) (sym b.is)
    (set_either (Moves (end_at t j)) t.slots b.slot j (begun (end_at t b.slot) b.call) new_end (stays (same_end (end_at t j))) (λ e. begins (ap (λ k. is_busy (end_at t k)) e ∙ (ready_parts (end_at t b.slot) b.free.ready).idle) (ap (λ k. (end_at t k).number + 1) (sym e))))

pub moves : (t : TerminalM) (e : Event) (j : ℕ) → length t.slots ≡ 16 → Moves (end_at t j) (end_at (after_event t e) j)
moves t (ordered keep body) j sixteen =
    sending_any t (λ u. Moves (end_at t j) (end_at u j)) (order_sends t keep body) (stays (same_end (end_at t j))) (λ s e. begin_moves t s j (order_begins t keep body s e))
moves t (parted_with i) j sixteen =
    sending_any t (λ u. Moves (end_at t j) (end_at u j)) (part_sends t i) (stays (same_end (end_at t j))) (λ s e. begin_moves t s j (part_begins t i s sixteen e))
moves t (heard r) j sixteen =
    accept_any t r (λ u. Moves (end_at t j) (end_at u j)) (stays (same_end (end_at t j))) (λ c e eff. effect_moves t c r eff j)

-- the session's id and how many slots there are
pub record Kept (t u : TerminalM) : Type 0 where
  pub id : u.id ≡ t.id
  pub count : length u.slots ≡ length t.slots

pub kept_then : (t u v : TerminalM) → Kept t u → Kept u v → Kept t v
kept_then t u v p q = record { id = q.id ∙ p.id; count = q.count ∙ p.count }

kept_self : (t : TerminalM) → Kept t t
kept_self t = record { id = refl; count = refl }

pub end_kept : (t : TerminalM) (i : ℕ) (x : EndM) → Kept t (with_end t i x)
end_kept t i x = record { id = refl; count = length-set t.slots i x }

pub learns_target_kept : (t : TerminalM) (r : Reply) (b : Bool) → Kept t (cond b (heard_target t r.target) t)
learns_target_kept t r true = record { id = refl; count = front_length (with_usable true) (r.target + 1) t.slots }
learns_target_kept t r false = kept_self t

parted_kept : (t : TerminalM) (i : ℕ) → Kept t (parted t i)
parted_kept t i = record {
  id = refl;
  count = length-map (set t.slots i (with_usable false (end_at t i))) stale ∙ length-set t.slots i (with_usable false (end_at t i));
}

learns_kept : (t : TerminalM) (c : OpenCall) (r : Reply) → Kept t (learns t c r)
learns_kept t c r = go (c.part && ltb r.target r.slot)
  where
    first : Kept t (learns_target t c r)
    first = learns_target_kept t r c.fresh

    go : (b : Bool) → Kept t (cond b (parted (learns_target t c r) r.slot) (learns_target t c r))
    go true = kept_then t (learns_target t c r) (parted (learns_target t c r) r.slot) first (parted_kept (learns_target t c r) r.slot)
    go false = first

effect_kept : (t : TerminalM) (c : OpenCall) (r : Reply) (eff : Effect) → Kept t (after_effect t c r eff)
effect_kept t c r (answered b) =
    kept_then t (closed t r.slot) (learns (closed t r.slot) c r) (end_kept t r.slot (at_rest (end_at t r.slot))) (learns_kept (closed t r.slot) c r)
effect_kept t c r done = end_kept t r.slot (at_rest (end_at t r.slot))
effect_kept t c r unknown = end_kept t r.slot (at_rest (end_at t r.slot))
effect_kept t c r (still_open n) = kept_self t

pub begin_kept : (t : TerminalM) (s : Sending) → Begins t s → Kept t s.after
begin_kept t s b =
    subst (λ (s : Sending). Kept t s.after) (sym b.is) (end_kept t b.slot (begun (end_at t b.slot) b.call))

pub accept_kept : (t : TerminalM) (r : Reply) → Kept t (after_accept t r)
accept_kept t r = accept_any t r (Kept t) (kept_self t) (λ c e eff. effect_kept t c r eff)

pub kept : (t : TerminalM) (e : Event) → length t.slots ≡ 16 → Kept t (after_event t e)
kept t (ordered keep body) sixteen =
    sending_any t (Kept t) (order_sends t keep body) (kept_self t) (λ s e. begin_kept t s (order_begins t keep body s e))
kept t (parted_with i) sixteen =
    sending_any t (Kept t) (part_sends t i) (kept_self t) (λ s e. begin_kept t s (part_begins t i s sixteen e))
kept t (heard r) sixteen = accept_kept t r
