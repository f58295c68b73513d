-- The laws over runs.
use Rattle.std.proofs.Common.{◌≡◌, ℕ, zero, suc, ◌+◌, ◌*◌, ◌%◌, ◌<◌, ◌≤◌, Bool, true, false, cond, ◌&&◌, eqb, ltb, leb, ◌⊎◌, List, [], ◌∷◌, ◌++◌, length, drop, Some, None, Option, sym, refl, ap, ◌∙◌, subst, inl, inr, ⊎_elim, add-mul, one-mul, zero-mul, arith}
use Rattle.std.proofs.lemmas.Bool.{lt-ltb, le-ltb, le-leb, eq-eqb, ne_eqb, cases_lt}
use Rattle.std.proofs.lemmas.List.{append-nil, append_assoc, length-append}
use Rattle.std.proofs.lemmas.Nat.{mod-mul-add}
use Rattle.common.specs.Bytes.{Bytes}
use Rattle.common.specs.Search.{In}
use Rattle.channel.specs.Channel.{ChannelModel, ChannelLaws, take_step, take_gives}
use Rattle.channel.specs.Channels.{racked, oldest, pipe_model, LossState, loss_model, double_model}
use Rattle.channel.specs.Runs.{putting, taking, Run, all_put, ahead, after, given, all_out, AtPuts, Room, NothingNew, KeepsOrder, GivesWhileWaiting, is_lost, without, LosesEvery, AtMostTwice, done, never, once, twice, each_twice, GivesAtMostTwice, GivesTwice}

ahead_append : (o : Option Bytes) (xs ys : List Bytes) → ahead o xs ++ ys ≡ ahead o (xs ++ ys)
ahead_append None xs ys = refl
ahead_append (Some m) xs ys = refl

module _ (C : ChannelModel) (laws : ChannelLaws C) where
  -- what a take gives or leaves waited
  take_waited : (s : C.State) (n : ℕ) (m : Bytes) (rest : List Bytes) → In m (ahead (take_gives C s n) rest) → In m (C.waits s) ⊎ In m rest
  take_waited s n m rest = go (leb 304 n) (C.gives s) refl
    where
      go : (t : Bool) (o : Option Bytes) → C.gives s ≡ o → In m (ahead (cond t o None) rest) → In m (C.waits s) ⊎ In m rest
      go false o e h = inr h
      go true None e h = inr h
      go true (Some x) e (inl is) = inl (subst (λ y. In y (C.waits s)) (sym is) (laws.give_waited s x e))
      go true (Some x) e (inr h) = inr h

  step_waited : (s : C.State) (n : ℕ) (m : Bytes) → In m (C.waits (take_step C s n)) → In m (C.waits s)
  step_waited s n m = go (leb 304 n)
    where
      go : (t : Bool) → In m (C.waits (cond t (C.rests s) s)) → In m (C.waits s)
      go true h = laws.rest_waited s m h
      go false h = h

  pub nothing_new : NothingNew C
  nothing_new s [] m h = inl h
  nothing_new s (putting b ∷ r) m h = ⊎_elim (λ w. ⊎_elim (λ p. inr (inl p.0, subst (λ x. length x ≤ 304) (sym p.0) p.1)) inl (laws.put_keeps s b m w)) (λ p. inr (inr p.0, p.1)) (nothing_new (C.puts s b) r m h)
  nothing_new s (taking n ∷ r) m h = ⊎_elim inl (λ k. ⊎_elim (λ w. inl (step_waited s n m w)) inr (nothing_new (take_step C s n) r m k)) (take_waited s n m (all_out C (take_step C s n) r) (subst (λ l. In m l) (ahead_append (take_gives C s n) (given C (take_step C s n) r) (C.waits (after C (take_step C s n) r))) h))

-- Channels that keep a row of messages and take from its front, by what their put leaves.
abbrev row : (List Bytes → Bytes → List Bytes) → ChannelModel
row puts = record { State = List Bytes; waits = λ s. s; puts = puts; gives = oldest; rests = drop 1 }

module _ (puts : List Bytes → Bytes → List Bytes) where
  -- what a take gives, ahead of what is left
  row_take : (s : List Bytes) (n : ℕ) (rest : List Bytes) → ahead (take_gives (row puts) s n) (take_step (row puts) s n ++ rest) ≡ s ++ rest
  row_take s n rest = go (leb 304 n) s
    where
      go : (t : Bool) (s : List Bytes) → ahead (cond t (oldest s) None) (cond t (drop 1 s) s ++ rest) ≡ s ++ rest
      go false s = refl
      go true [] = refl
      go true (m ∷ ms) = refl

  -- if each put adds copies such that the messages put stay related to what was added, so they are over a run
  module _ (Holds : List Bytes → Bytes → Type 0) (R : List Bytes → List Bytes → Type 0) (none : R [] []) (more : (s : List Bytes) (m : Bytes) → Holds s m → (copies : List Bytes) × ((puts s m ≡ s ++ copies) × ((ms out : List Bytes) → R ms out → R (m ∷ ms) (copies ++ out)))) where
    row_run : (s : List Bytes) (r : Run) → AtPuts (row puts) Holds s r → (out : List Bytes) × ((all_out (row puts) s r ≡ s ++ out) × R (all_put r) out)
    row_run s [] h = ([], (sym (append-nil s), none))
    row_run s (putting m ∷ r) h =
        let q = more s m h.0 in
        let p = row_run (puts s m) r h.1 in
        (q.0 ++ p.0, (p.1.0 ∙ ap (λ x. x ++ p.0) q.1.0 ∙ append_assoc s q.0 p.0, q.1.1 (all_put r) p.0 p.1.1))
    row_run s (taking n ∷ r) h =
        let t = take_step (row puts) s n in
        let o = take_gives (row puts) s n in
        let p = row_run t r h in
        (p.0, (ahead_append o (given (row puts) t r) (after (row puts) t r) ∙ ap (ahead o) p.1.0 ∙ row_take s n p.0, p.1.1))

racked_room : (s : List Bytes) (m : Bytes) → length s < 8 → length m ≤ 304 → racked s m ≡ s ++ m ∷ []
racked_room s m room short = rw (lt-ltb (length s) 8 room, le-leb (length m) 304 short) refl

pub keeps_order : KeepsOrder
keeps_order s r room =
    let p = row_run racked (Room pipe_model 1) (λ ms out. out ≡ ms) refl one s r room in
    p.1.0 ∙ ap (λ out. s ++ out) p.1.1
  where
    one : (s : List Bytes) (m : Bytes) → Room pipe_model 1 s m → (copies : List Bytes) × ((racked s m ≡ s ++ copies) × ((ms out : List Bytes) → out ≡ ms → (copies ++ out) ≡ m ∷ ms))
    one s m h = (m ∷ [], (racked_room s m (omega (arith, h.0)) h.1, λ ms out e. ap (λ l. m ∷ l) e))

pub gives_while_waiting : GivesWhileWaiting
gives_while_waiting [] n room e = refl
gives_while_waiting (m ∷ ms) n room e =
    let some : take_gives pipe_model (m ∷ ms) n ≡ Some m = rw (le-leb 304 n room) refl in
    absurd (let z : ◌≡◌ {A = ℕ} 0 1 = cc in omega arith)

abbrev racked_twice : List Bytes → Bytes → List Bytes
racked_twice s m = racked (racked s m) m

pub gives_twice : GivesTwice
gives_twice r room =
    let p = row_run racked_twice (Room (double_model pipe_model) 2) (λ ms out. out ≡ each_twice ms) refl two [] r room in
    p.1.0 ∙ p.1.1
  where
    two : (s : List Bytes) (m : Bytes) → Room (double_model pipe_model) 2 s m → (copies : List Bytes) × ((racked_twice s m ≡ s ++ copies) × ((ms out : List Bytes) → out ≡ each_twice ms → (copies ++ out) ≡ m ∷ m ∷ each_twice ms))
    two s m h =
        let len : length (s ++ m ∷ []) < 8 = rw length-append (omega (arith, h.0)) in
        (m ∷ m ∷ [], (ap (λ t. racked t m) (racked_room s m (omega (arith, h.0)) h.1) ∙ racked_room (s ++ m ∷ []) m len h.1 ∙ append_assoc s (m ∷ []) (m ∷ []), λ ms out e. ap (λ l. m ∷ m ∷ l) e))

racked_or : (s : List Bytes) (m : Bytes) → (racked s m ≡ s) ⊎ (racked s m ≡ s ++ m ∷ [])
racked_or s m = go (ltb (length s) 8 && leb (length m) 304)
  where
    go : (t : Bool) → (cond t (s ++ m ∷ []) s ≡ s) ⊎ (cond t (s ++ m ∷ []) s ≡ s ++ m ∷ [])
    go true = inr refl
    go false = inl refl

abbrev Copies : List Bytes → Bytes → Type 0
Copies s m = (copies : List Bytes) × ((racked_twice s m ≡ s ++ copies) × ((ms out : List Bytes) → AtMostTwice ms out → AtMostTwice (m ∷ ms) (copies ++ out)))

copies : (s : List Bytes) (m : Bytes) → Copies s m
copies s m = ⊎_elim first_lost first_kept (racked_or s m)
  where
    no_copy : racked_twice s m ≡ s → Copies s m
    no_copy e = ([], (e ∙ sym (append-nil s), λ ms out t. never t))

    one_copy : racked_twice s m ≡ s ++ m ∷ [] → Copies s m
    one_copy e = (m ∷ [], (e, λ ms out t. once t))

    two_copies : racked_twice s m ≡ s ++ m ∷ m ∷ [] → Copies s m
    two_copies e = (m ∷ m ∷ [], (e, λ ms out t. twice t))

    first_lost : racked s m ≡ s → Copies s m
    first_lost e = ⊎_elim (λ k. no_copy (ap (λ t. racked t m) e ∙ k)) (λ k. one_copy (ap (λ t. racked t m) e ∙ k)) (racked_or s m)

    first_kept : racked s m ≡ s ++ m ∷ [] → Copies s m
    first_kept e = ⊎_elim (λ k. one_copy (k ∙ e)) (λ k. two_copies (k ∙ ap (λ t. t ++ m ∷ []) e ∙ append_assoc s (m ∷ []) (m ∷ []))) (racked_or (racked s m) m)

pub gives_at_most_twice : GivesAtMostTwice
gives_at_most_twice r =
    let p = row_run racked_twice (λ s m. Unit {0}) AtMostTwice done (λ s m h. copies s m) [] r (always [] r) in
    subst (λ out. AtMostTwice (all_put r) out) (sym p.1.0) p.1.1
  where
    always : (s : List Bytes) (r : Run) → AtPuts (double_model pipe_model) (λ s m. Unit {0}) s r
    always s [] = tt
    always s (putting m ∷ r) = (tt, always (racked_twice s m) r)
    always s (taking n ∷ r) = always (take_step (double_model pipe_model) s n) r

-- how the count of puts since the last loss goes with the number of the next put
abbrev Counted : ℕ → ℕ → ℕ → Type 0
Counted k j i = ((k ≡ 0) × (j ≡ 0)) ⊎ ((q : ℕ) × ((j < k) × (i ≡ q * k + (j + 1))))

counted_first : (k : ℕ) → Counted k 0 1
counted_first zero = inl (refl, refl)
counted_first (suc k) = inr (0, (omega arith, rw zero-mul refl))

counted_lost : (k j i : ℕ) → Counted k j i → eqb (j + 1) k ≡ is_lost k i
counted_lost k j i (inl p) = rw (ne_eqb (j + 1) k (omega arith), le-ltb 0 k (omega arith)) refl
counted_lost k j i (inr (q, (lt, is))) = ⊎_elim before at (cases_lt (j + 1) k)
  where
    before : j + 1 < k → eqb (j + 1) k ≡ is_lost k i
    before h =
        let m : i % k ≡ j + 1 = ap (λ x. x % k) is ∙ mod-mul-add q k (j + 1) h in
        rw (ne_eqb (j + 1) k (omega arith), lt-ltb 0 k (omega arith), m, ne_eqb (j + 1) 0 (omega arith)) refl

    at : k ≤ j + 1 → eqb (j + 1) k ≡ is_lost k i
    at h =
        let e : i ≡ (q + 1) * k + 0 = rw (add-mul, one-mul) (omega arith) in
        let m : i % k ≡ 0 = ap (λ x. x % k) e ∙ mod-mul-add (q + 1) k 0 (omega arith) in
        rw (eq-eqb (j + 1) k (omega arith), lt-ltb 0 k (omega arith), m) refl

counted_next : (k j i : ℕ) → Counted k j i → Counted k (cond (ltb (j + 1) k) (j + 1) 0) (i + 1)
counted_next k j i (inl p) = rw (le-ltb (j + 1) k (omega arith)) (inl (p.0, refl))
counted_next k j i (inr (q, (lt, is))) = ⊎_elim before at (cases_lt (j + 1) k)
  where
    before : j + 1 < k → Counted k (cond (ltb (j + 1) k) (j + 1) 0) (i + 1)
    before h = rw (lt-ltb (j + 1) k h) (inr (q, (h, omega arith)))

    at : k ≤ j + 1 → Counted k (cond (ltb (j + 1) k) (j + 1) 0) (i + 1)
    at h =
        let e : i + 1 ≡ (q + 1) * k + (0 + 1) = rw (add-mul, one-mul) (omega arith) in
        rw (le-ltb (j + 1) k h) (inr (q + 1, (omega arith, e)))

module _ (C : ChannelModel) where
  abbrev lossy : ℕ → ℕ → C.State → LossState C.State
  lossy k j s = record { every = k; since = j; inner = s }

  loss_run : (k j i : ℕ) (s : C.State) (r : Run) → Counted k j i → ((after (loss_model C) (lossy k j s) r).inner ≡ after C s (without k i r)) × (given (loss_model C) (lossy k j s) r ≡ given C s (without k i r))
  loss_run k j i s [] n = (refl, refl)
  loss_run k j i s (putting m ∷ r) n =
      let w = without k (i + 1) r in
      let ih = loss_run k (cond (ltb (j + 1) k) (j + 1) 0) (i + 1) (cond (eqb (j + 1) k) s (C.puts s m)) r (counted_next k j i n) in
      let e = counted_lost k j i n in
      (ih.0 ∙ ap (λ t. after C (cond t s (C.puts s m)) w) e ∙ inside (is_lost k i) w, ih.1 ∙ ap (λ t. given C (cond t s (C.puts s m)) w) e ∙ outside (is_lost k i) w)
    where
      inside : (t : Bool) (w : Run) → after C (cond t s (C.puts s m)) w ≡ after C s (cond t w (putting m ∷ w))
      inside true w = refl
      inside false w = refl

      outside : (t : Bool) (w : Run) → given C (cond t s (C.puts s m)) w ≡ given C s (cond t w (putting m ∷ w))
      outside true w = refl
      outside false w = refl
  loss_run k j i s (taking n ∷ r) c =
      let ih = loss_run k j i (take_step C s n) r c in
      (ap (λ t. (after (loss_model C) t r).inner) (below (leb 304 n)) ∙ ih.0, ap (ahead (take_gives C s n)) (ap (λ t. given (loss_model C) t r) (below (leb 304 n)) ∙ ih.1))
    where
      below : (t : Bool) → ◌≡◌ {A = LossState C.State} (cond t (lossy k j (C.rests s)) (lossy k j s)) (lossy k j (cond t (C.rests s) s))
      below true = refl
      below false = refl

  pub loses_every : LosesEvery C
  loses_every k s r = loss_run k 0 1 s r (counted_first k)
