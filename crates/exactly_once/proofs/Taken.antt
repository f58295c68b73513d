-- What a take tells: the reply that closed a call answers it, and a reply to an open call, taken, belongs to it.
use Rattle.std.proofs.Common.{◌≡◌, ℕ, Bool, true, false, cond, ◌⊎◌, length, Some, None, Option, sym, refl, ap, ◌∙◌, subst, inl, inr, arith}
use Rattle.std.proofs.lemmas.Bool.{cond_both}
use Rattle.common.specs.Bytes.{Bytes}
use Rattle.wire.specs.Wire.{Request, Reply, refusing, reply_message, read_reply, no_call}
use Rattle.common.specs.Search.{when_found, lowest_at}
use Rattle.terminal.specs.Terminal.{TerminalM, Effect, answered, done, unknown, still_open, reply_effect, belongs, end_at}
use Rattle.exactly_once.specs.History.{asked_take, refused, taken, History}
use Rattle.exactly_once.specs.Words.{Call, Stands, Open, RanBefore}
use Rattle.exactly_once.specs.Steps.{Parts, Model, Step, terminal_at, rest_replies, bears, take_stops, take_effect, take_read, take_step, is_short, act}
use Rattle.exactly_once.specs.Lived.{PartsLaws}
use Rattle.exactly_once.proofs.Messages.{read_written_reply}
use Rattle.exactly_once.proofs.Tables.{found_both}
use Rattle.exactly_once.proofs.Unique.{session_one, open_newest}
use Rattle.exactly_once.proofs.Invariant.{Known, Unkept, Put, result, Answers, ByStatus, TerminalSide, Inv}
use Rattle.exactly_once.proofs.Present.{same_call}
use Rattle.exactly_once.proofs.Belonging.{belonging}
use Rattle.exactly_once.proofs.Take.{effect_answered, effect_done, effect_unknown, as_result}

-- a step that answered `taken p j g`: the reply, the call that it answers, and the record that it belongs to
pub record TakenReply (P : Parts) (h : History) (m : Model P) (s : Step P) (p j : ℕ) (g : Effect) : Type 0 where
  pub t : ℕ
  pub o : ℕ
  pub c : Call
  pub f : Request
  pub r : Reply
  pub T : TerminalM
  pub known : Known h t o c f
  pub answers : Answers h o c f r
  pub took : s.took ≡ Some (reply_message r)
  pub at : terminal_at P m p ≡ Some T
  pub belongs_to : belongs T r ≡ true
  pub slot : r.slot ≡ j
  pub effect : reply_effect r ≡ g

module _ (P : Parts) (laws : PartsLaws P) (first : P.service.Content) (h : History) (m : Model P) (inv : Inv P first h m) (room : ℕ) where
  abbrev m1 : Model P
  m1 = rest_replies P m

  abbrev Tells : Step P → Type 0
  Tells s = (p j : ℕ) (g : Effect) → s.answer ≡ taken p j g → TakenReply P h m s p j g

  refused_tells : (n : Model P) (i k : ℕ) (b : Option Bytes) → Tells (record { after = n; answer = refused i k; put = None; took = b })
  refused_tells n i k b p j g e = absurd (let w : ◌≡◌ {A = ℕ} 0 1 = cc in omega arith)

  reply_tells : (t o : ℕ) (c : Call) (f : Request) (r : Reply) → Known h t o c f → Answers h o c f r → Tells (take_read P m1 (reply_message r) (read_reply (reply_message r)))
  reply_tells t o c f r z an = subst (λ x. Tells (take_read P m1 (reply_message r) x)) (sym (read_written_reply r an.permitted)) (found_both Tells _ _ (lowest_at (bears r) m.terminals 0) (refused_tells m1 14 0 (Some (reply_message r))) (λ p e. found_both Tells _ _ (terminal_at P m p) (refused_tells m1 14 0 (Some (reply_message r))) (λ T at. accepted p T at (belongs T r) refl)))
    where
      accepted : (p : ℕ) (T : TerminalM) → terminal_at P m p ≡ Some T → (b : Bool) → belongs T r ≡ b → Tells (when_found (take_stops P m1 (reply_message r) no_call) (take_effect P m1 (reply_message r) p r T) (cond b (Some (reply_effect r)) None))
      accepted p T at false e = refused_tells m1 14 0 (Some (reply_message r))
      accepted p T at true e = λ q j g y. (
          let ps : p ≡ q = cc in
          let js : r.slot ≡ j = cc in
          let gs : reply_effect r ≡ g = cc in
          record { t = t; o = o; c = c; f = f; r = r; T = T; known = z; answers = an; took = refl; at = ap (terminal_at P m) (sym ps) ∙ at; belongs_to = e; slot = js; effect = gs })

  pub take_tells : Tells (act P m (asked_take room))
  unfolding take_step
  take_tells =
      cond_both (is_short room) _ _ Tells
      (λ e. refused_tells m 1 0 None)
      (λ e. found_both Tells _ _ (P.replies.gives m.replies) (refused_tells m1 13 0 None) read)
    where
      read : (b : Bytes) → P.replies.gives m.replies ≡ Some b → Tells (take_read P m1 b (read_reply b))
      read b e =
          let w = inv.waiting.replies b (laws.replies.give_waited m.replies b e) in
          subst (λ x. Tells (take_read P m1 x (read_reply x))) (sym w.6) (reply_tells w.0 w.1 w.2 w.3 w.4 w.5 w.7)

module _ (P : Parts) (first : P.service.Content) (h : History) (m : Model P) (inv : Inv P first h m) where
  -- a reply with a call's id, slot and number answers that call
  pub answers_this : (t u o v : ℕ) (c d : Call) (f g : Request) (r : Reply) → Known h t o c f → Known h u v d g → Answers h v d g r → r.id ≡ f.id → r.slot ≡ f.slot → r.number ≡ f.number → Answers h o c f r
  answers_this t u o v c d f g r x y an ids slots numbers =
      let w = same_call P first h m inv u t v o d c g f y x (sym an.id ∙ ids) (sym an.slot ∙ slots) (sym an.number ∙ numbers) in
      subst (λ k. Answers h o c k r) w.3 (subst (λ k. Answers h o k g r) w.2 (subst (λ k. Answers h k d g r) w.1 an))

  -- the reply that belongs to the call open at c's place and slot answers c
  pub answers_open : (t o : ℕ) (c : Call) (f : Request) → Known h t o c f → Open h t c (length h) → (u v : ℕ) (d : Call) (g : Request) (r : Reply) → Known h u v d g → Answers h v d g r → (T : TerminalM) → terminal_at P m c.terminal ≡ Some T → belongs T r ≡ true → r.slot ≡ c.slot → Answers h o c f r
  answers_open t o c f x op u v d g r y an T at be slot =
      let b = belonging P first h m inv u v d g r y an c.terminal T at be in
      let os : v ≡ o = session_one h c.terminal v o (length h) b.newest (open_newest h t o c (length h) x.session x.ordered op) in
      let side : TerminalSide h o T = subst (λ w. TerminalSide h w T) os b.side in
      let slots : f.slot ≡ g.slot = x.slot ∙ sym slot ∙ an.slot in
      let numbers : f.number ≡ g.number = (side.open_held t c f x op).2 ∙ ap (λ s. (end_at T s).number) slots ∙ sym b.number in
      let ids : f.id ≡ g.id = inv.calls.named t o c f x ∙ ap inv.ids (sym os) ∙ sym (inv.calls.named u v d g y) in
      answers_this t u o v c d f g r x y an (an.id ∙ sym ids) (an.slot ∙ sym slots) (an.number ∙ sym numbers)

-- what closes a call, taken: the reply that its run put, 10068 behind a run that kept nothing, or 10052 once its session is gone
abbrev pub ClosingReply : History → ℕ → Call → Request → Bytes → Effect → Type 0
ClosingReply h o c f b g =
    ((high : ℕ) × (goal : ℕ) × (body : Bytes) × (g ≡ answered body) × (b ≡ reply_message (result f high goal body)) × Put h o c b) ⊎ (((g ≡ done) × (b ≡ reply_message (refusing f 10068)) × RanBefore h o c (length h) × Unkept c) ⊎ ((g ≡ unknown) × (Stands h c.terminal o (length h) → ⊥)))

-- a reply that answers a call and has an effect that closes it
pub closing_reply : (h : History) (o : ℕ) (c : Call) (f : Request) (r : Reply) (g : Effect) → Answers h o c f r → reply_effect r ≡ g → (((x : Bytes) × (g ≡ answered x)) ⊎ (g ≡ done) ⊎ (g ≡ unknown)) → ClosingReply h o c f (reply_message r) g
closing_reply h o c f r g an e ends = go an.by_status
  where
    open_still : (n : ℕ) → g ≡ still_open n → (((x : Bytes) × (g ≡ answered x)) ⊎ (g ≡ done) ⊎ (g ≡ unknown)) → ⊥
    open_still n y (inl k) = let v = k.1 in let w : ◌≡◌ {A = ℕ} 0 1 = cc in omega arith
    open_still n y (inr (inl k)) = let w : ◌≡◌ {A = ℕ} 0 1 = cc in omega arith
    open_still n y (inr (inr k)) = let w : ◌≡◌ {A = ℕ} 0 1 = cc in omega arith

    go : ByStatus h o c f r → ClosingReply h o c f (reply_message r) g
    go (inl x) = inl (r.highest, r.target, r.body, sym e ∙ effect_answered r x.0, ap reply_message (as_result f r x.0 an.id an.number an.slot), x.1)
    go (inr (inl x)) = inr (inl (sym e ∙ effect_done r x.0, ap reply_message x.3, x.1, x.2))
    go (inr (inr (inl x))) = inr (inr (sym e ∙ effect_unknown r x.0, x.1))
    go (inr (inr (inr x))) = absurd (open_still r.status (sym e ∙ x) ends)
