-- Take keeps the invariant wherever it closes no call; that it does where it closes one is an argument here.
use Rattle.std.proofs.Common.{◌≡◌, ℕ, Bool, true, false, cond, ◌⊎◌, ◌∷◌, set, Some, None, Option, sym, refl, ap, ◌∙◌, subst, inl, inr, ⊎_elim, arith}
use Rattle.common.specs.Bytes.{Bytes}
use Rattle.common.specs.Search.{In, when_found, lowest_at}
use Rattle.wire.specs.Wire.{Request, Reply, short_scratch, no_call, reply_message, read_reply}
use Rattle.terminal.specs.Terminal.{TerminalM, OpenCall, Effect, answered, done, unknown, still_open, reply_effect, belongs, after_effect, after_accept, end_at}
use Rattle.exactly_once.specs.History.{asked_take, Answer, refused, taken, History}
use Rattle.exactly_once.specs.Words.{Call}
use Rattle.exactly_once.specs.Steps.{Parts, Model, terminal_at, rest_replies, bears, take_stops, take_effect, take_read, take_step, is_short, act}
use Rattle.exactly_once.specs.Lived.{PartsLaws}
use Rattle.exactly_once.proofs.Messages.{read_written_reply}
use Rattle.exactly_once.proofs.Tables.{set_same}
use Rattle.exactly_once.proofs.Invariant.{Known, Answers, Inv}
use Rattle.exactly_once.proofs.Carry.{Quiet}
use Rattle.exactly_once.proofs.Quiet.{quiet_inv, Good, good_cond, good_found, good_refused}

-- a take that closes nothing is quiet
take_quiet : (h : History) (room : ℕ) (a : Answer) (b : Option Bytes) → ((p s : ℕ) (g : Effect) → a ≡ taken p s g → (((x : Bytes) × (g ≡ answered x)) ⊎ (g ≡ done) ⊎ (g ≡ unknown)) → ⊥) → Quiet h (record { asked = asked_take room; answer = a; put = None; took = b })
take_quiet h room a b open_still = record {
  no_order = λ c z. ⊎_elim (λ y. (let x = y.1 in let w : ◌≡◌ {A = ℕ} 0 1 = cc in omega arith)) (λ y. (let x = y.1 in let w : ◌≡◌ {A = ℕ} 0 1 = cc in omega arith)) z.2;
  no_open = λ q z. (let x = z.1 in let w : ◌≡◌ {A = ℕ} 0 1 = cc in omega arith);
  no_reply = λ c g z. open_still c.terminal c.slot g z.2 z.3;
  no_resume = λ q s z. (let x = z.1 in let w : ◌≡◌ {A = ℕ} 0 1 = cc in omega arith);
  heard_again = λ t o c f w k z st. absurd (let x = z.1 in let w : ◌≡◌ {A = ℕ} 0 1 = cc in omega arith);
}

module _ (P : Parts) (laws : PartsLaws P) (first : P.service.Content) (h : History) (m : Model P) (inv : Inv P first h m) (room : ℕ) where
  abbrev m1 : Model P
  m1 = rest_replies P m

  -- the channel alone changes
  rested : (a : Answer) (b : Option Bytes) → ((p s : ℕ) (g : Effect) → a ≡ taken p s g → (((x : Bytes) × (g ≡ answered x)) ⊎ (g ≡ done) ⊎ (g ≡ unknown)) → ⊥) → Inv P first (record { asked = asked_take room; answer = a; put = None; took = b } ∷ h) m1
  rested a b q = quiet_inv P first _ h m (take_quiet h room a b q) inv (λ p z. (let x = z.0 in let w : ◌≡◌ {A = ℕ} 0 1 = cc in omega arith)) (λ w k c x y. absurd (let v : ◌≡◌ {A = ℕ} 0 1 = cc in omega arith)) m.requests (P.replies.rests m.replies) (λ c i. inl i) (λ c i. inl (laws.replies.rest_waited m.replies c i))

  stops : (b : Option Bytes) (i j : ℕ) → Inv P first (record { asked = asked_take room; answer = refused i j; put = None; took = b } ∷ h) m1
  stops b i j = rested (refused i j) b (λ p s g e k. (let w : ◌≡◌ {A = ℕ} 0 1 = cc in omega arith))

  -- a reply that leaves its call open leaves the terminal as it is
  unchanged : (T : TerminalM) (r : Reply) (n : ℕ) → reply_effect r ≡ still_open n → after_accept T r ≡ T
  unfolding after_accept
  unchanged T r n e = go (belongs T r) (end_at T r.slot).call
    where
      go : (b : Bool) (k : Option OpenCall) → cond b (when_found T (λ c. after_effect T c r (reply_effect r)) k) T ≡ T
      go false k = refl
      go true None = refl
      go true (Some c) = ap (after_effect T c r) e

  module _ (t o : ℕ) (c : Call) (f : Request) (r : Reply) (z : Known h t o c f) (an : Answers h o c f r) (closes : (p : ℕ) (T : TerminalM) → terminal_at P m p ≡ Some T → belongs T r ≡ true → ((n : ℕ) → reply_effect r ≡ still_open n → ⊥) → Good P first h (asked_take room) (take_effect P m1 (reply_message r) p r T (reply_effect r))) where
    by_effect : (p : ℕ) (T : TerminalM) → terminal_at P m p ≡ Some T → belongs T r ≡ true → (g : Effect) → reply_effect r ≡ g → Good P first h (asked_take room) (take_effect P m1 (reply_message r) p r T (reply_effect r))
    by_effect p T at be (answered x) e = closes p T at be (λ n q. (let w : ◌≡◌ {A = ℕ} 0 1 = cc in omega arith))
    by_effect p T at be done e = closes p T at be (λ n q. (let w : ◌≡◌ {A = ℕ} 0 1 = cc in omega arith))
    by_effect p T at be unknown e = closes p T at be (λ n q. (let w : ◌≡◌ {A = ℕ} 0 1 = cc in omega arith))
    by_effect p T at be (still_open n) e = subst (λ ts. Inv P first (record { asked = asked_take room; answer = taken p r.slot (reply_effect r); put = None; took = Some (reply_message r) } ∷ h) (record { server = m.server; terminals = ts; content = m.content; requests = m.requests; replies = P.replies.rests m.replies })) (sym (ap (λ x. set m.terminals p (Some x)) (unchanged T r n e) ∙ set_same m.terminals p T at)) (rested (taken p r.slot (reply_effect r)) (Some (reply_message r)) still)
      where
        still : (q s : ℕ) (g : Effect) → taken p r.slot (reply_effect r) ≡ taken q s g → (((x : Bytes) × (g ≡ answered x)) ⊎ (g ≡ done) ⊎ (g ≡ unknown)) → ⊥
        still q s g y (inl k) = let v = k.1 in let w : ◌≡◌ {A = ℕ} 0 1 = cc in omega arith
        still q s g y (inr (inl k)) = let w : ◌≡◌ {A = ℕ} 0 1 = cc in omega arith
        still q s g y (inr (inr k)) = let w : ◌≡◌ {A = ℕ} 0 1 = cc in omega arith

    accepted : (p : ℕ) (T : TerminalM) → terminal_at P m p ≡ Some T → (b : Bool) → belongs T r ≡ b → Good P first h (asked_take room) (when_found (take_stops P m1 (reply_message r) no_call) (take_effect P m1 (reply_message r) p r T) (cond b (Some (reply_effect r)) None))
    accepted p T at false e = stops (Some (reply_message r)) 14 0
    accepted p T at true e = by_effect p T at e (reply_effect r) refl

    pub take_reply : Good P first h (asked_take room) (take_read P m1 (reply_message r) (read_reply (reply_message r)))
    take_reply = subst (λ x. Good P first h (asked_take room) (take_read P m1 (reply_message r) x)) (sym (read_written_reply r an.permitted)) (good_found P first h (asked_take room) _ _ (lowest_at (bears r) m.terminals 0) (stops (Some (reply_message r)) 14 0) (λ p e. good_found P first h (asked_take room) _ _ (terminal_at P m p) (stops (Some (reply_message r)) 14 0) (λ T at. accepted p T at (belongs T r) refl)))

  -- take, given that a closing reply keeps the invariant
  pub take_keeps_by : ((t o : ℕ) (c : Call) (f : Request) (r : Reply) → Known h t o c f → Answers h o c f r → In (reply_message r) (P.replies.waits m.replies) → (p : ℕ) (T : TerminalM) → terminal_at P m p ≡ Some T → belongs T r ≡ true → ((n : ℕ) → reply_effect r ≡ still_open n → ⊥) → Good P first h (asked_take room) (take_effect P (rest_replies P m) (reply_message r) p r T (reply_effect r))) → Good P first h (asked_take room) (act P m (asked_take room))
  unfolding take_step
  take_keeps_by closes =
      good_cond P first h (asked_take room) (is_short room) _ _
      (λ e. good_refused P first h (asked_take room) m short_scratch inv)
      (λ e. good_found P first h (asked_take room) _ _ (P.replies.gives m.replies) (stops None 13 0) read)
    where
      read : (b : Bytes) → P.replies.gives m.replies ≡ Some b → Good P first h (asked_take room) (take_read P m1 b (read_reply b))
      read b e =
          let i = laws.replies.give_waited m.replies b e in
          let w = inv.waiting.replies b i in
          subst (λ x. Good P first h (asked_take room) (take_read P m1 x (read_reply x))) (sym w.6) (take_reply w.0 w.1 w.2 w.3 w.4 w.5 w.7 (closes w.0 w.1 w.2 w.3 w.4 w.5 w.7 (subst (λ x. In x (P.replies.waits m.replies)) w.6 i)))
