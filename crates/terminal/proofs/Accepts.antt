-- Accept by the open call that a reply belongs to.
use Rattle.std.proofs.Common.{◌≡◌, ℕ, Bool, true, false, cond, ◌&&◌, eqb, leb, is_some, Some, None, Ok, Err, Option, sym, refl, ap, ◌∙◌, arith}
use Rattle.std.proofs.lemmas.Bool.{cond-true, cond-false}
use Rattle.common.specs.Search.{when_found}
use Rattle.wire.specs.Wire.{Reply, same_id, no_call}
use Rattle.terminal.specs.Terminal.{OpenCall, TerminalM, end_at, belongs, reply_effect, after_effect, after_accept}
use Rattle.terminal.specs.Replies.{accept_answer, call_of}

none_belongs : (a b n : Bool) (o : Option OpenCall) → None ≡ cond (a && b) (cond n o None) None → (a && (b && (is_some o && n))) ≡ false
none_belongs false b n o e = refl
none_belongs true false n o e = refl
none_belongs true true n None e = refl
none_belongs true true false (Some c) e = refl
none_belongs true true true (Some c) e = absurd (let z : ◌≡◌ {A = ℕ} 0 1 = cc in omega arith)

some_belongs : (a b n : Bool) (o : Option OpenCall) (c : OpenCall) → Some c ≡ cond (a && b) (cond n o None) None → ((a && (b && (is_some o && n))) ≡ true) × (o ≡ Some c)
some_belongs false b n o c e = absurd (let z : ◌≡◌ {A = ℕ} 0 1 = cc in omega arith)
some_belongs true false n o c e = absurd (let z : ◌≡◌ {A = ℕ} 0 1 = cc in omega arith)
some_belongs true true true None c e = absurd (let z : ◌≡◌ {A = ℕ} 0 1 = cc in omega arith)
some_belongs true true false o c e = absurd (let z : ◌≡◌ {A = ℕ} 0 1 = cc in omega arith)
some_belongs true true true (Some d) c e = (refl, sym e)

module _ (t : TerminalM) (r : Reply) where
  pub call_none : None ≡ call_of t r → belongs t r ≡ false
  call_none e = none_belongs (same_id t.id r.id) (leb r.slot 15) (eqb (end_at t r.slot).number r.number) (end_at t r.slot).call e

  pub call_some : (c : OpenCall) → Some c ≡ call_of t r → (belongs t r ≡ true) × ((end_at t r.slot).call ≡ Some c)
  call_some c e = some_belongs (same_id t.id r.id) (leb r.slot 15) (eqb (end_at t r.slot).number r.number) (end_at t r.slot).call c e

  pub refused_answer : belongs t r ≡ false → Err no_call ≡ accept_answer t r
  refused_answer e = ap (when_found (Err no_call) Ok) (sym (cond-false _ _ _ e))

  pub refused_stays : belongs t r ≡ false → t ≡ after_accept t r
  unfolding after_accept
  refused_stays e = sym (cond-false _ _ _ e)

  pub accept_answers : belongs t r ≡ true → Ok (reply_effect r) ≡ accept_answer t r
  accept_answers e = ap (when_found (Err no_call) Ok) (sym (cond-true _ _ _ e))

  pub accept_settles : (c : OpenCall) → belongs t r ≡ true → (end_at t r.slot).call ≡ Some c → after_accept t r ≡ after_effect t c r (reply_effect r)
  unfolding after_accept
  accept_settles c e is = cond-true _ _ _ e ∙ ap (when_found t (λ c. after_effect t c r (reply_effect r))) is
