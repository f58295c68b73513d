-- What replies teach: nothing, if their call is not fresh.
use Rattle.std.proofs.Common.{◌≡◌, ℕ, ◌<◌, ◌≤◌, Bool, true, false, cond, ◌&&◌, ltb, leb, List, [], ◌∷◌, length, set, Some, None, Option, sym, refl, ap, ◌∙◌, subst, arith}
use Rattle.std.proofs.lemmas.List.{get_or-set_same}
use Rattle.std.proofs.lemmas.Bool.{cond-true, lt-ltb, leb-true, eq-eqb, and_from, and_parts}
use Rattle.std.specs.Option.{option_map}
use Rattle.wire.specs.Wire.{Reply, same_id}
use Rattle.terminal.specs.Terminal.{OpenCall, EndM, TerminalM, Effect, answered, done, unknown, still_open, new_end, end_at, with_usable, after_accept, after_effect, belongs, closed, at_rest, heard_target, stale, stale_call, parted, learns_target, learns}
use Rattle.terminal.specs.Laws.{after_replies, TaughtNothing, StaleReply, StaleRepliesTeachNothing, GivenUpStaysShut}
use Rattle.terminal.proofs.Accepts.{accept_settles}
use Rattle.terminal.proofs.Life.{set_either, getD_mapped, accept_any, Kept, kept_then, end_kept, learns_target_kept}

-- usability, as a call closes and as a slot is given up
closed_usable : (t : TerminalM) (i j : ℕ) → (end_at (closed t i) j).usable ≡ (end_at t j).usable
closed_usable t i j =
    set_either (λ x. x.usable ≡ (end_at t j).usable) t.slots i j (at_rest (end_at t i)) new_end refl (λ e. ap (λ k. (end_at t k).usable) (sym e))

parted_at : (t : TerminalM) (i j : ℕ) (P : EndM → Type 0) → P (stale (end_at t j)) → (j ≡ i → P (stale (with_usable false (end_at t i)))) → P (end_at (parted t i) j)
parted_at t i j P here there =
    subst P (sym (getD_mapped stale (set t.slots i (with_usable false (end_at t i))) j new_end refl))
    (set_either (λ x. P (stale x)) t.slots i j (with_usable false (end_at t i)) new_end here there)

parted_others : (t : TerminalM) (i j : ℕ) → (j ≡ i → ⊥) → (end_at (parted t i) j).usable ≡ (end_at t j).usable
parted_others t i j other = parted_at t i j (λ x. x.usable ≡ (end_at t j).usable) refl (λ e. absurd (other e))

not-true : (b : Bool) → (b ≡ true → ⊥) → b ≡ false
not-true true h = absurd (h refl)
not-true false h = refl

false_true : {X : Type 0} → false ≡ true → X
false_true e = absurd (let z : ◌≡◌ {A = ℕ} 0 1 = cc in omega arith)

parted_opens : (t : TerminalM) (i j : ℕ) → (end_at (parted t i) j).usable ≡ true → (end_at t j).usable ≡ true
parted_opens t i j = parted_at t i j (λ x. x.usable ≡ true → (end_at t j).usable ≡ true) (λ h. h) (λ e h. false_true h)

nothing_then : (t u v : TerminalM) → TaughtNothing t u → TaughtNothing u v → TaughtNothing t v
nothing_then t u v p q = record { target = q.target ∙ p.target; opens_none = λ j h. p.opens_none j (q.opens_none j h) }

nothing_self : (t : TerminalM) → TaughtNothing t t
nothing_self t = record { target = refl; opens_none = λ j h. h }

-- without a fresh call, all that can be learnt is that a part's slot is shut
learns_stale : (t : TerminalM) (c : OpenCall) (r : Reply) → c.fresh ≡ false → cond (c.part && ltb r.target r.slot) (parted t r.slot) t ≡ learns t c r
learns_stale t c r e =
    ap (λ f. let u : TerminalM = cond f (heard_target t r.target) t in cond (c.part && ltb r.target r.slot) (parted u r.slot) u) (sym e)

module _ (t : TerminalM) (r : Reply) (c : OpenCall) where
  stale_self : StaleReply t t r c
  stale_self = record { teaches = nothing_self t; others = λ j other. refl; own = λ p. refl }

  stale_closed : StaleReply t (closed t r.slot) r c
  stale_closed = record {
    teaches = record { target = refl; opens_none = λ j h. sym (closed_usable t r.slot j) ∙ h };
    others = λ j other. closed_usable t r.slot j;
    own = λ p. closed_usable t r.slot r.slot;
  }

  stale_parted : c.part ≡ true → StaleReply t (parted (closed t r.slot) r.slot) r c
  stale_parted p = record {
    teaches = record { target = refl; opens_none = λ j h. sym (closed_usable t r.slot j) ∙ parted_opens (closed t r.slot) r.slot j h };
    others = λ j other. parted_others (closed t r.slot) r.slot j other ∙ closed_usable t r.slot j;
    own = λ q. false_true (sym q ∙ p);
  }

  stale_effect : c.fresh ≡ false → (eff : Effect) → StaleReply t (after_effect t c r eff) r c
  stale_effect f (answered b) =
      subst (λ u. StaleReply t u r c) (learns_stale (closed t r.slot) c r f) (go (c.part && ltb r.target r.slot) refl)
    where
      go : (x : Bool) → (c.part && ltb r.target r.slot) ≡ x → StaleReply t (cond x (parted (closed t r.slot) r.slot) (closed t r.slot)) r c
      go true e = stale_parted (and_parts _ _ e).0
      go false e = stale_closed
  stale_effect f done = stale_closed
  stale_effect f unknown = stale_closed
  stale_effect f (still_open n) = stale_self

some_is : (o : Option OpenCall) (c d : OpenCall) → o ≡ Some c → o ≡ Some d → c ≡ d
some_is o c d p q = cc

pub stale_replies_teach_nothing : StaleRepliesTeachNothing
stale_replies_teach_nothing t r c is f =
    accept_any t r (λ u. StaleReply t u r c) (stale_self t r c) (λ d e eff. subst (λ x. StaleReply t (after_effect t x r eff) r c) (some_is _ c d is e) (stale_effect t r c f eff))

-- no open call is fresh
NoFresh : TerminalM → Type 0
NoFresh t = (j : ℕ) (c : OpenCall) → (end_at t j).call ≡ Some c → c.fresh ≡ false

none_fresh : (c : OpenCall) → None ≡ Some c → c.fresh ≡ false
none_fresh c e = absurd (let z : ◌≡◌ {A = ℕ} 0 1 = cc in omega arith)

stale_fresh : (o : Option OpenCall) (c : OpenCall) → option_map stale_call o ≡ Some c → c.fresh ≡ false
stale_fresh None c e = none_fresh c e
stale_fresh (Some d) c e = ap (λ (x : OpenCall). x.fresh) (sym (some_is _ (stale_call d) c refl e))

closed_fresh : (t : TerminalM) (i : ℕ) → NoFresh t → NoFresh (closed t i)
unfolding NoFresh
closed_fresh t i h j =
    set_either (λ x. (c : OpenCall) → x.call ≡ Some c → c.fresh ≡ false) t.slots i j (at_rest (end_at t i)) new_end (h j) (λ e c n. none_fresh c n)

parted_fresh : (t : TerminalM) (i : ℕ) → NoFresh (parted t i)
unfolding NoFresh
parted_fresh t i j =
    parted_at t i j (λ x. (c : OpenCall) → x.call ≡ Some c → c.fresh ≡ false) (λ c. stale_fresh (end_at t j).call c) (λ e c. stale_fresh (end_at t i).call c)

fresh_effect : (t : TerminalM) (r : Reply) (c : OpenCall) → c.fresh ≡ false → NoFresh t → (eff : Effect) → NoFresh (after_effect t c r eff)
fresh_effect t r c f h (answered b) =
    subst NoFresh (learns_stale (closed t r.slot) c r f) (go (c.part && ltb r.target r.slot))
  where
    go : (x : Bool) → NoFresh (cond x (parted (closed t r.slot) r.slot) (closed t r.slot))
    go true = parted_fresh (closed t r.slot) r.slot
    go false = closed_fresh t r.slot h
fresh_effect t r c f h done = closed_fresh t r.slot h
fresh_effect t r c f h unknown = closed_fresh t r.slot h
fresh_effect t r c f h (still_open n) = h

-- so a reply teaches nothing, and leaves no call fresh
reply_nothing : (t : TerminalM) (r : Reply) → NoFresh t → TaughtNothing t (after_accept t r) × NoFresh (after_accept t r)
unfolding NoFresh
reply_nothing t r h =
    accept_any t r (λ u. TaughtNothing t u × NoFresh u) (nothing_self t, h) (λ c e eff. ((stale_effect t r c (h r.slot c e) eff).teaches, fresh_effect t r c (h r.slot c e) h eff))

replies_nothing : (t : TerminalM) (rs : List Reply) → NoFresh t → TaughtNothing t (after_replies t rs)
replies_nothing t [] h = nothing_self t
replies_nothing t (r ∷ rs) h =
    let one = reply_nothing t r h in
    nothing_then t (after_accept t r) (after_replies (after_accept t r) rs) one.0 (replies_nothing (after_accept t r) rs one.1)

-- the reply by which a slot is given up
gives_up : (t : TerminalM) (r : Reply) (c : OpenCall) → belongs t r ≡ true → (end_at t r.slot).call ≡ Some c → c.part ≡ true → r.status ≡ 0 → r.target < r.slot → parted (learns_target (closed t r.slot) c r) r.slot ≡ after_accept t r
gives_up t r c b is p z l =
    sym (accept_settles t r c b is ∙ ap (after_effect t c r) (cond-true _ _ _ (eq-eqb r.status 0 z)) ∙ cond-true _ _ _ (and_from _ _ p (lt-ltb _ _ l)))

belongs_low : (t : TerminalM) (r : Reply) → belongs t r ≡ true → r.slot ≤ 15
belongs_low t r e =
    leb-true _ _ (and_parts (leb r.slot 15) _ (and_parts (same_id t.id r.id) _ e).1).0

parted_shut : (t : TerminalM) (i : ℕ) → i < length t.slots → (end_at (parted t i) i).usable ≡ false
parted_shut t i h =
    ap (λ (x : EndM). x.usable) (getD_mapped stale (set t.slots i (with_usable false (end_at t i))) i new_end refl ∙ ap stale (get_or-set_same t.slots i (with_usable false (end_at t i)) new_end h))

pub given_up_stays_shut : GivenUpStaysShut
given_up_stays_shut t r c rs b is p z l sixteen =
    let low : r.slot ≤ 15 = belongs_low t r b in
    let u : TerminalM = learns_target (closed t r.slot) c r in
    let k : Kept t u = kept_then t (closed t r.slot) u (end_kept t r.slot (at_rest (end_at t r.slot))) (learns_target_kept (closed t r.slot) r c.fresh) in
    let within : r.slot < length u.slots = (let n = k.count in omega arith) in
    let e : parted u r.slot ≡ after_accept t r = gives_up t r c b is p z l in
    let shut : (end_at (after_accept t r) r.slot).usable ≡ false = subst (λ v. (end_at v r.slot).usable ≡ false) e (parted_shut u r.slot within) in
    let nothing = replies_nothing (after_accept t r) rs (subst NoFresh e (parted_fresh u r.slot)) in
    (not-true _ (λ h. false_true (sym shut ∙ nothing.opens_none r.slot h)), nothing)
