-- There is one list of the runs before a time; at present it leads to the present content.
use Rattle.std.proofs.Common.{◌≡◌, ℕ, ◌<◌, List, [], ◌∷◌, ◌++◌, length, sym, refl, ap, ◌∙◌, subst, ap₂, inl, inr, ⊎_elim, arith}
use Rattle.common.specs.Bytes.{Bytes}
use Rattle.common.specs.Search.{In}
use Rattle.wire.specs.Wire.{Request, Reply, request_message, reply_message}
use Rattle.exactly_once.specs.History.{History}
use Rattle.exactly_once.specs.Words.{Session, Ran}
use Rattle.exactly_once.specs.Promise.{Timed, after, RunsBefore}
use Rattle.exactly_once.specs.Steps.{Parts, Model}
use Rattle.exactly_once.proofs.Unique.{session_one, ran_one}
use Rattle.exactly_once.proofs.Invariant.{Inv}

-- a list cut at a member
pub in_split : {A : Type 0} (x : A) (xs : List A) → In x xs → (a : List A) × (z : List A) × (xs ≡ a ++ (x ∷ z))
in_split x [] h = absurd h
in_split x (y ∷ ys) (inl e) = ([], ys, ap (λ w. w ∷ ys) (sym e))
in_split x (y ∷ ys) (inr h) = (let p = in_split x ys h in (y ∷ p.0, p.1, ap (λ w. y ∷ w) p.2))

module _ {A : Type 0} (R : A → ℕ → Type 0) (one : (q : A) (y w : ℕ) → R q y → R q w → y ≡ w) where
  -- the members' times ascend
  abbrev pub Ascends : List A → Type 0
  Ascends xs = (a b z : List A) (q r : A) (y w : ℕ) → xs ≡ a ++ (q ∷ (b ++ (r ∷ z))) → R q y → R r w → y < w

  -- the head is before each other
  head_first : (x r : A) (xs : List A) (y w : ℕ) → Ascends (x ∷ xs) → In r xs → R x y → R r w → y < w
  head_first x r xs y w asc i p q =
      let c = in_split r xs i in
      asc [] c.0 c.1 x r y w (ap (λ v. x ∷ v) c.2) p q

  tail_ascends : (x : A) (xs : List A) → Ascends (x ∷ xs) → Ascends xs
  tail_ascends x xs asc a b z q r y w e p s = asc (x ∷ a) b z q r y w (ap (λ v. x ∷ v) e) p s

  pub same_list : (xs ys : List A) → Ascends xs → Ascends ys → ((q : A) → In q xs → (y : ℕ) × R q y) → ((q : A) → In q xs → In q ys) → ((q : A) → In q ys → In q xs) → xs ≡ ys
  same_list [] [] ax ay timed to from = refl
  same_list [] (y ∷ ys) ax ay timed to from = absurd (from y (inl refl))
  same_list (x ∷ xs) [] ax ay timed to from = absurd (to x (inl refl))
  same_list (x ∷ xs) (y ∷ ys) ax ay timed to from = ap₂ (λ v w. v ∷ w) heads (same_list xs ys (tail_ascends x xs ax) (tail_ascends y ys ay) (λ q i. timed q (inr i)) (λ q i. down q i (to q (inr i))) (λ q i. up q i (from q (inr i))))
    where
      heads : x ≡ y
      heads = ⊎_elim (λ e. e) (λ i. ⊎_elim (λ e. sym e) (λ j. absurd (twice i j)) (from y (inl refl))) (to x (inl refl))
        where
          twice : In x ys → In y xs → ⊥
          twice i j =
              let p = timed x (inl refl) in
              let q = timed y (inr j) in
              omega (arith, head_first y x ys q.0 p.0 ay i q.1 p.1, head_first x y xs p.0 q.0 ax j p.1 q.1)

      -- the head comes once
      fresh_x : (q : A) → In q xs → q ≡ x → ⊥
      fresh_x q i e =
          let p = timed x (inl refl) in
          omega (arith, head_first x q xs p.0 p.0 ax i p.1 (subst (λ v. R v p.0) (sym e) p.1))

      fresh_y : (q : A) → In q ys → q ≡ y → ⊥
      fresh_y q i e =
          let p = timed x (inl refl) in
          let r : R y p.0 = subst (λ v. R v p.0) heads p.1 in
          omega (arith, head_first y q ys p.0 p.0 ay i r (subst (λ v. R v p.0) (sym e) r))

      down : (q : A) → In q xs → In q (y ∷ ys) → In q ys
      down q i (inl e) = absurd (fresh_x q i (e ∙ sym heads))
      down q i (inr j) = j

      up : (q : A) → In q ys → In q (x ∷ xs) → In q xs
      up q i (inl e) = absurd (fresh_y q i (e ∙ heads))
      up q i (inr j) = j

module _ {Content : Type 0} (next : Content → Bytes → Content) (reply : Content → Bytes → Bytes) (rq : Request → Bytes) (rp : Reply → Bytes) (h : History) where
  abbrev RunTime : Timed → ℕ → Type 0
  RunTime q y = (o : ℕ) × Session h q.call.terminal o q.time × Ran h o q.call y

  one_time : (q : Timed) (y w : ℕ) → RunTime q y → RunTime q w → y ≡ w
  one_time q y w a b =
      let same : a.0 ≡ b.0 = session_one h q.call.terminal a.0 b.0 q.time a.1 b.1 in
      ran_one h b.0 q.call y w (subst (λ v. Ran h v q.call y) same a.2) b.2

  -- two lists of the runs before a time are one
  pub runs_same : (x : ℕ) (rs ss : List Timed) → RunsBefore next reply rq rp h x rs → RunsBefore next reply rq rp h x ss → rs ≡ ss
  runs_same x rs ss a b = same_list RunTime one_time rs ss (λ l m n q r y w e p s. a.ascend l m n q r p.0 s.0 y w e p.1 s.1 p.2 s.2) (λ l m n q r y w e p s. b.ascend l m n q r p.0 s.0 y w e p.1 s.1 p.2 s.2) (λ q i. (let v = a.each q i in (v.2.2.0, (v.2.0, v.2.1, v.2.2.2)))) (λ q i. (let v = a.each q i in b.all q v.2.0 v.0 v.1 v.2.1 v.2.2)) (λ q i. (let v = b.each q i in a.all q v.2.0 v.0 v.1 v.2.1 v.2.2))

-- the promise's clause
pub runs_reach : (P : Parts) (first : P.service.Content) (h : History) (m : Model P) → Inv P first h m → (rs : List Timed) → RunsBefore P.service.next P.service.reply request_message reply_message h (length h) rs → after P.service.next P.service.reply request_message reply_message first rs ≡ m.content
runs_reach P first h m inv rs b = ap (after P.service.next P.service.reply request_message reply_message first) (runs_same P.service.next P.service.reply request_message reply_message h (length h) rs inv.done.list b inv.done.runs) ∙ inv.done.reach
