-- The laws of the channels, which the trait asks for.
use Rattle.std.specs.Prelude.{◌≡◌, ℕ, suc, ◌+◌, ◌%◌, ◌≤◌, Bool, true, false, cond, ◌&&◌, ◌⊎◌, List, [], ◌∷◌, ◌++◌, length, take, drop, Some, ◌==◌, nat_le, nat_lt, slice_index_or, refl}
use Rattle.std.proofs.Common.{subst, inl, inr, ⊎_elim, arith, mod-lt}
use Rattle.std.proofs.lemmas.Bool.{leb-true, and_parts}
use Rattle.std.specs.List.{remove}
use Rattle.common.specs.Bytes.{Bytes}
use Rattle.common.specs.Search.{In}
use Rattle.channel.specs.Channel.{ChannelModel, ChannelLaws}
use Rattle.channel.specs.Channels.{racked, oldest, pipe_model, choice, picked, left, shelf_model, LossState, loss_model, double_model}
use Rattle.common.specs.Members.{in_push, in_append, in_take, in_drop, in_getD}

racked_keeps : (ms : List Bytes) (b m : Bytes) → In m (racked ms b) → ((m ≡ b) × (length b ≤ 304)) ⊎ In m ms
racked_keeps ms b m = go (nat_lt (length ms) 8 && nat_le (length b) 304) refl
  where
    fits : (nat_lt (length ms) 8 && nat_le (length b) 304) ≡ true → length b ≤ 304
    fits e = leb-true (length b) 304 (and_parts (nat_lt (length ms) 8) (nat_le (length b) 304) e).1

    go : (t : Bool) → (nat_lt (length ms) 8 && nat_le (length b) 304) ≡ t → In m (cond t (ms ++ (b ∷ [])) ms) → ((m ≡ b) × (length b ≤ 304)) ⊎ In m ms
    go true e h = ⊎_elim (λ p. inl (p, fits e)) inr (in_push m b ms h)
    go false e h = inr h

oldest_waited : (ms : List Bytes) (m : Bytes) → oldest ms ≡ Some m → In m ms
oldest_waited [] m e = absurd (let z : ◌≡◌ {A = ℕ} 0 1 = cc in omega arith)
oldest_waited (x ∷ xs) m e = inl (cc)

pub pipe_laws : ChannelLaws pipe_model
pipe_laws = record { put_keeps = racked_keeps; give_waited = oldest_waited; rest_waited = λ s m h. in_drop m 1 s h }

picked_waited : (ms : List Bytes) (b : ℕ) (m : Bytes) → picked ms b ≡ Some m → In m ms
picked_waited [] b m e = absurd (let z : ◌≡◌ {A = ℕ} 0 1 = cc in omega arith)
picked_waited (x ∷ xs) b m e =
    let is : slice_index_or (x ∷ xs) (b % length (x ∷ xs)) [] ≡ m = cc in
    subst (λ y. In y (x ∷ xs)) is (in_getD (x ∷ xs) (b % length (x ∷ xs)) [] (mod-lt b (omega arith)))

left_waited : (ms : List Bytes) (b : ℕ) (m : Bytes) → In m (left ms b) → In m ms
left_waited ms b m = go (nat_le 128 b)
  where
    go : (t : Bool) → In m (cond t ms (remove ms (b % length ms))) → In m ms
    go true h = h
    go false h =
        let i = b % length ms in
        ⊎_elim (in_take m i ms) (in_drop m (suc i) ms) (in_append m (take i ms) (drop (suc i) ms) h)

pub shelf_laws : ChannelLaws shelf_model
shelf_laws = record { put_keeps = λ s. racked_keeps s.messages; give_waited = λ s. picked_waited s.messages (choice s); rest_waited = λ s. left_waited s.messages (choice s) }

module _ (C : ChannelModel) (laws : ChannelLaws C) where
  loss_keeps : (s : LossState C.State) (b m : Bytes) → In m ((loss_model C).waits ((loss_model C).puts s b)) → ((m ≡ b) × (length b ≤ 304)) ⊎ In m (C.waits s.inner)
  loss_keeps s b m = go (s.since + 1 == s.every)
    where
      go : (t : Bool) → In m (C.waits (cond t s.inner (C.puts s.inner b))) → ((m ≡ b) × (length b ≤ 304)) ⊎ In m (C.waits s.inner)
      go true h = inr h
      go false h = laws.put_keeps s.inner b m h

  pub loss_laws : ChannelLaws (loss_model C)
  loss_laws = record {
    put_keeps = loss_keeps;
    give_waited = λ s. laws.give_waited s.inner;
    rest_waited = λ s. laws.rest_waited s.inner;
  }

  pub double_laws : ChannelLaws (double_model C)
  double_laws = record {
    put_keeps = λ s b m h. ⊎_elim inl (laws.put_keeps s b m) (laws.put_keeps (C.puts s b) b m h);
    give_waited = laws.give_waited;
    rest_waited = laws.rest_waited;
  }
