-- A field that stands in the bytes is read as it was written.
use Rattle.std.proofs.Common.{◌≡◌, ℕ, zero, suc, ◌+◌, ◌-◌, ◌*◌, ◌%◌, ◌^◌, ◌<◌, ◌≤◌, Bool, true, cond, leb, ◌++◌, length, get_or, take, drop, replicate, Ok, Err, Result, sym, refl, ap, ◌∙◌, add-zero, arith, length-append, length-drop}
use lib.ListN.{length-replicate}
use Rattle.std.proofs.lemmas.Bool.{cond-true, le-leb, eq-eqb}
use Rattle.std.proofs.lemmas.List.{get_or-drop, drop-drop, take_at, drop_at}
use Rattle.common.specs.Bytes.{Bytes, be32, be64, bytes4, bytes8}
use Rattle.wire.specs.Wire.{SessionId, Refusal, unreadable, then, u32_at, permitted_at, id_at, padded, zeros_at, padded_at, body_field, body_at, end_at, FitsHead}
use Rattle.wire.proofs.Digits.{word_back, high, low, halves}

pub then_ok : {X Y : Type 0} (go : X → Result Y Refusal) {r : Result X Refusal} (x : X) → r ≡ Ok x → then r go ≡ go x
then_ok go x e = ap (λ r. then r go) e

-- the fields that both messages have, in front of the rest
abbrev pub head_field : SessionId → ℕ → ℕ → Bytes → Bytes
head_field id number slot xs = bytes8 id.boot ++ (bytes8 id.count ++ (bytes4 number ++ (bytes4 slot ++ xs)))

module _ (bs : Bytes) where
  -- what stands behind the first n bytes of xs
  further : (k n : ℕ) (xs ys : Bytes) → drop k bs ≡ xs → drop n xs ≡ ys → drop (k + n) bs ≡ ys
  further k n xs ys e f = sym (drop-drop n k bs) ∙ ap (drop n) e ∙ f

  there : (k : ℕ) (xs : Bytes) → drop k bs ≡ xs → 0 < length xs → k + length xs ≡ length bs
  there k xs e h = let l : length bs - k ≡ length xs = sym (length-drop k bs) ∙ ap length e in omega arith

  number_is : (k n : ℕ) (xs : Bytes) → n < 2 ^ 32 → drop k bs ≡ bytes4 n ++ xs → be32 bs k ≡ n
  number_is k n xs h e =
      let at : (i : ℕ) → get_or bs (k + i) 0 ≡ get_or (bytes4 n ++ xs) i 0 = λ i. sym (get_or-drop k bs i 0) ∙ ap (λ l. get_or l i 0) e in
      let first = ap (λ m. get_or bs m 0) (sym (add-zero k)) ∙ at 0 in
      (λ i. first i * 16777216 + at 1 i * 65536 + at 2 i * 256 + at 3 i) ∙ word_back n h

  wide_is : (k n : ℕ) (xs : Bytes) → n < 2 ^ 64 → drop k bs ≡ bytes8 n ++ xs → be64 bs k ≡ n
  wide_is k n xs h e =
      halves n _ _ (number_is k _ (bytes4 (n % 4294967296) ++ xs) (high n h) e) (number_is (k + 4) _ xs (low n) (further k 4 (bytes8 n ++ xs) _ e refl))

  pub u32_of : (k n : ℕ) (xs : Bytes) → n < 2 ^ 32 → drop k bs ≡ bytes4 n ++ xs → u32_at bs k ≡ Ok n
  u32_of k n xs h e =
      let l = there k (bytes4 n ++ xs) e (omega arith) in
      cond-true _ _ _ (le-leb (k + 4) (length bs) (omega arith)) ∙ ap Ok (number_is k n xs h e)

  pub permitted_of : (test : ℕ → Bool) (k n : ℕ) (xs : Bytes) → test n ≡ true → n < 2 ^ 32 → drop k bs ≡ bytes4 n ++ xs → permitted_at test bs k ≡ Ok n
  permitted_of test k n xs t h e = then_ok (λ m. cond (test m) (Ok m) (Err (unreadable k))) n (u32_of k n xs h e) ∙ cond-true _ _ _ t

  id_of : (k : ℕ) (id : SessionId) (xs : Bytes) → id.boot < 2 ^ 64 → id.count < 2 ^ 64 → drop k bs ≡ bytes8 id.boot ++ (bytes8 id.count ++ xs) → id_at bs k ≡ Ok id
  id_of k id xs h g e =
      let l = there k (bytes8 id.boot ++ (bytes8 id.count ++ xs)) e (omega arith) in
      let boot = wide_is k id.boot _ h e in
      let count = wide_is (k + 8) id.count xs g (further k 8 (bytes8 id.boot ++ (bytes8 id.count ++ xs)) _ e refl) in
      cond-true _ _ _ (le-leb (k + 16) (length bs) (omega arith)) ∙ (λ i. Ok (record { boot = boot i; count = count i }))

  -- the head, and then the rest
  pub head_of : {Y : Type 0} (k : ℕ) (go : SessionId → ℕ → ℕ → Result Y Refusal) (id : SessionId) (number slot : ℕ) (xs : Bytes) → FitsHead id number slot → drop k bs ≡ head_field id number slot xs →
      then (id_at bs k) (λ i. then (u32_at bs (k + 16)) (λ n. then (u32_at bs (k + 20)) (λ s. go i n s))) ≡ go id number slot
  head_of k go id number slot xs h e =
      then_ok (λ i. then (u32_at bs (k + 16)) (λ n. then (u32_at bs (k + 20)) (λ s. go i n s))) id (id_of k id (bytes4 number ++ (bytes4 slot ++ xs)) h.boot h.count e)
      ∙ then_ok (λ n. then (u32_at bs (k + 20)) (λ s. go id n s)) number (u32_of (k + 16) number (bytes4 slot ++ xs) h.number_fits (further k 16 (head_field id number slot xs) _ e refl))
      ∙ then_ok (λ s. go id number s) slot (u32_of (k + 20) slot xs h.slot_fits (further k 20 (head_field id number slot xs) _ e refl))

  zeros_of : (n k : ℕ) → drop k bs ≡ replicate n 0 → zeros_at n bs k ≡ Ok tt
  zeros_of zero k e = refl
  zeros_of (suc n) k e =
      let z : get_or bs k 0 ≡ 0 = ap (λ m. get_or bs m 0) (sym (add-zero k)) ∙ sym (get_or-drop k bs 0 0) ∙ ap (λ l. get_or l 0 0) e in
      cond-true _ _ _ (eq-eqb (get_or bs k 0) 0 z) ∙ zeros_of n (k + 1) (further k 1 (replicate (suc n) 0) _ e refl)

  -- the body, nothing behind it, and then the rest
  pub body_of : {Y : Type 0} (longest k : ℕ) (go : Bytes → Result Y Refusal) (b : Bytes) → length b ≤ longest → length b < 2 ^ 32 → drop k bs ≡ body_field b →
      then (body_at longest bs k) (λ body. then (end_at bs (k + 4 + padded (length body))) (λ _. go body)) ≡ go b
  body_of longest k go b s h e =
      let n = length b in
      let pad : Bytes = replicate (padded n - n) 0 in
      let up : n ≤ padded n = omega arith in
      let tail : length (b ++ pad) ≡ padded n = length-append b pad ∙ ap (λ m. n + m) (length-replicate (padded n - n) 0) ∙ omega arith in
      let l = there k (body_field b) e (omega arith) in
      let behind : drop (k + 4) bs ≡ b ++ pad = further k 4 (body_field b) _ e refl in
      let zeros = zeros_of (padded n - n) (k + 4 + n) (further (k + 4) n (b ++ pad) pad behind (drop_at b pad n refl)) in
      let body : body_at longest bs k ≡ Ok b =
      then_ok (λ m. padded_at m bs (k + 4)) n (permitted_of (λ m. leb m longest) k n (b ++ pad) (le-leb n longest s) h e)
      ∙ cond-true _ _ _ (le-leb (k + 4 + padded n) (length bs) (omega arith))
      ∙ then_ok (λ _. Ok (take n (drop (k + 4) bs))) tt zeros
      ∙ ap Ok (ap (take n) behind ∙ take_at b pad n refl)
      in
      then_ok (λ body. then (end_at bs (k + 4 + padded (length body))) (λ _. go body)) b body
      ∙ then_ok (λ _. go b) tt (cond-true _ _ _ (le-leb (length bs) (k + 4 + padded n) (omega arith)))
