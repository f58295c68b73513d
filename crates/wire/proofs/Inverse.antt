-- A field that was read stands in the bytes as it is written.
use Rattle.std.proofs.Common.{◌≡◌, ℕ, zero, suc, ◌+◌, ◌-◌, ◌/◌, ◌%◌, ◌^◌, ◌<◌, ◌≤◌, Bool, true, false, cond, eqb, leb, [], ◌∷◌, ◌++◌, length, get_or, take, drop, replicate, Ok, Err, Result, sym, refl, ap, ◌∙◌, subst, append-nil, add-zero, arith, length-drop, take-append-drop}
use Rattle.std.proofs.lemmas.Bool.{leb-true, eqb-true}
use Rattle.std.proofs.lemmas.List.{drop_more, drop-drop, drop_all, length-take-le}
use Rattle.std.proofs.lemmas.Nat.{div-mul-add, mod-mul-add}
use Rattle.common.specs.Bytes.{Bytes, be32, be64, bytes4, bytes8}
use Rattle.wire.specs.Wire.{SessionId, Refusal, unreadable, then, u32_at, permitted_at, id_at, padded, zeros_at, padded_at, body_field, body_at, end_at, FitsHead, ByteString}
use Rattle.wire.proofs.Digits.{digits, wide}
use Rattle.wire.proofs.Fields.{head_field}

never : {X : Type 0} (f : Refusal) (x : X) → Err f ≡ Ok x → ⊥
never f x e = let z : ◌≡◌ {A = ℕ} 0 1 = cc in omega arith

pub same_ok : {X : Type 0} (x y : X) → ◌≡◌ {A = Result X Refusal} (Ok x) (Ok y) → x ≡ y
same_ok x y e = cc

-- a reading that went well, and what came of the rest
pub record Went {X Y : Type 0} (r : Result X Refusal) (go : X → Result Y Refusal) (y : Y) : Type 0 where
  pub value : X
  pub got : r ≡ Ok value
  pub rest : go value ≡ Ok y

pub went : {X Y : Type 0} (r : Result X Refusal) (go : X → Result Y Refusal) (y : Y) → then r go ≡ Ok y → Went r go y
went (Ok x) go y e = record { value = x; got = refl; rest = e }
went (Err f) go y e = absurd (never f y e)

chosen : {X : Type 0} (b : Bool) (r : Result X Refusal) (f : Refusal) (y : X) → cond b r (Err f) ≡ Ok y → (b ≡ true) × (r ≡ Ok y)
chosen true r f y e = (refl, e)
chosen false r f y e = absurd (never f y e)

-- a permitted number that went well
pub record Number {Y : Type 0} (test : ℕ → Bool) (bs : Bytes) (k : ℕ) (go : ℕ → Result Y Refusal) (y : Y) : Type 0 where
  pub value : ℕ
  pub fits : value < 2 ^ 32
  pub passes : test value ≡ true
  pub is : drop k bs ≡ bytes4 value ++ drop (k + 4) bs
  pub rest : go value ≡ Ok y

-- a head that went well
pub record Head {Y : Type 0} (bs : Bytes) (k : ℕ) (go : SessionId → ℕ → ℕ → Result Y Refusal) (y : Y) : Type 0 where
  pub id : SessionId
  pub number : ℕ
  pub slot : ℕ
  pub fits : FitsHead id number slot
  pub is : drop k bs ≡ head_field id number slot (drop (k + 24) bs)
  pub rest : go id number slot ≡ Ok y

-- a body that went well, with nothing behind it
pub record Body {Y : Type 0} (longest : ℕ) (bs : Bytes) (k : ℕ) (go : Bytes → Result Y Refusal) (y : Y) : Type 0 where
  pub body : Bytes
  pub short : length body ≤ longest
  pub is : drop k bs ≡ body_field body
  pub rest : go body ≡ Ok y

module _ (bs : Bytes) (B : ByteString bs) where
  below : (k : ℕ) → be32 bs k < 2 ^ 32
  below k = let a = B k in let b = B (k + 1) in let c = B (k + 2) in let d = B (k + 3) in omega arith

  four : (k : ℕ) → k + 4 ≤ length bs → drop k bs ≡ bytes4 (be32 bs k) ++ drop (k + 4) bs
  four k h =
      let e : k + 1 + 1 ≡ k + 2 = omega arith in
      let f : k + 2 + 1 ≡ k + 3 = omega arith in
      let g : k + 3 + 1 ≡ k + 4 = omega arith in
      let d3 = drop_more bs (k + 3) 0 (omega arith) ∙ ap (λ m. get_or bs (k + 3) 0 ∷ drop m bs) g in
      let d2 = drop_more bs (k + 2) 0 (omega arith) ∙ ap (λ m. get_or bs (k + 2) 0 ∷ drop m bs) f ∙ ap (λ t. get_or bs (k + 2) 0 ∷ t) d3 in
      let d1 = drop_more bs (k + 1) 0 (omega arith) ∙ ap (λ m. get_or bs (k + 1) 0 ∷ drop m bs) e ∙ ap (λ t. get_or bs (k + 1) 0 ∷ t) d2 in
      drop_more bs k 0 (omega arith) ∙ ap (λ t. get_or bs k 0 ∷ t) d1 ∙ ap (λ t. t ++ drop (k + 4) bs) (sym (digits _ _ _ _ (B k) (B (k + 1)) (B (k + 2)) (B (k + 3))))

  eight : (k : ℕ) → k + 8 ≤ length bs → drop k bs ≡ bytes8 (be64 bs k) ++ drop (k + 8) bs
  eight k h =
      let l = below (k + 4) in
      let hi : be64 bs k / 4294967296 ≡ be32 bs k = div-mul-add _ _ _ l in
      let lo : be64 bs k % 4294967296 ≡ be32 bs (k + 4) = mod-mul-add _ _ _ l in
      let e : k + 4 + 4 ≡ k + 8 = omega arith in
      four k (omega arith) ∙ ap (λ t. bytes4 (be32 bs k) ++ t) (four (k + 4) (omega arith) ∙ ap (λ m. bytes4 (be32 bs (k + 4)) ++ drop m bs) e)
      ∙ sym (λ i. (bytes4 (hi i) ++ bytes4 (lo i)) ++ drop (k + 8) bs)

  pub u32_inv : (k n : ℕ) → u32_at bs k ≡ Ok n → (n < 2 ^ 32) × (drop k bs ≡ bytes4 n ++ drop (k + 4) bs)
  u32_inv k n e =
      let p = chosen (leb (k + 4) (length bs)) (Ok (be32 bs k)) (unreadable k) n e in
      let s = same_ok _ _ p.1 in
      (subst (λ m. m < 2 ^ 32) s (below k), four k (leb-true _ _ p.0) ∙ ap (λ m. bytes4 m ++ drop (k + 4) bs) s)

  permitted_inv : (test : ℕ → Bool) (k n : ℕ) → permitted_at test bs k ≡ Ok n → (test n ≡ true) × (u32_at bs k ≡ Ok n)
  permitted_inv test k n e =
      let w = went (u32_at bs k) (λ m. cond (test m) (Ok m) (Err (unreadable k))) n e in
      let p = chosen (test w.value) (Ok w.value) (unreadable k) n w.rest in
      (ap test (sym (same_ok _ _ p.1)) ∙ p.0, w.got ∙ p.1)

  pub number_went : {Y : Type 0} (test : ℕ → Bool) (k : ℕ) (go : ℕ → Result Y Refusal) (y : Y) → then (permitted_at test bs k) go ≡ Ok y → Number test bs k go y
  number_went test k go y e =
      let w = went (permitted_at test bs k) go y e in
      let p = permitted_inv test k w.value w.got in
      let u = u32_inv k w.value p.1 in
      record { value = w.value; fits = u.0; passes = p.0; is = u.1; rest = w.rest }

  id_inv : (k : ℕ) (id : SessionId) → id_at bs k ≡ Ok id → (id.boot < 2 ^ 64) × (id.count < 2 ^ 64) × (drop k bs ≡ bytes8 id.boot ++ (bytes8 id.count ++ drop (k + 16) bs))
  id_inv k id e =
      let p = chosen (leb (k + 16) (length bs)) (Ok (record { boot = be64 bs k; count = be64 bs (k + 8) })) (unreadable k) id e in
      let h = leb-true _ _ p.0 in
      let s : record { boot = be64 bs k; count = be64 bs (k + 8) } ≡ id = same_ok _ _ p.1 in
      let m : k + 8 + 8 ≡ k + 16 = omega arith in (
        subst (λ (d : SessionId). d.boot < 2 ^ 64) s (wide _ _ (below k) (below (k + 4))),
        subst (λ (d : SessionId). d.count < 2 ^ 64) s (wide _ _ (below (k + 8)) (below (k + 8 + 4))),
        eight k (omega arith) ∙ ap (λ t. bytes8 (be64 bs k) ++ t) (eight (k + 8) (omega arith) ∙ ap (λ j. bytes8 (be64 bs (k + 8)) ++ drop j bs) m)
            ∙ ap (λ (d : SessionId). bytes8 d.boot ++ (bytes8 d.count ++ drop (k + 16) bs)) s,
      )

  pub head_went : {Y : Type 0} (k : ℕ) (go : SessionId → ℕ → ℕ → Result Y Refusal) (y : Y) →
      then (id_at bs k) (λ i. then (u32_at bs (k + 16)) (λ n. then (u32_at bs (k + 20)) (λ s. go i n s))) ≡ Ok y → Head bs k go y
  head_went k go y e =
      let i = went (id_at bs k) (λ i. then (u32_at bs (k + 16)) (λ n. then (u32_at bs (k + 20)) (λ s. go i n s))) y e in
      let n = went (u32_at bs (k + 16)) (λ n. then (u32_at bs (k + 20)) (λ s. go i.value n s)) y i.rest in
      let s = went (u32_at bs (k + 20)) (λ s. go i.value n.value s) y n.rest in
      let id = id_inv k i.value i.got in
      let number = u32_inv (k + 16) n.value n.got in
      let slot = u32_inv (k + 20) s.value s.got in
      let a : k + 16 + 4 ≡ k + 20 = omega arith in
      let b : k + 20 + 4 ≡ k + 24 = omega arith in
      let slot_is = slot.1 ∙ ap (λ m. bytes4 s.value ++ drop m bs) b in
      let number_is = number.1 ∙ ap (λ m. bytes4 n.value ++ drop m bs) a ∙ ap (λ t. bytes4 n.value ++ t) slot_is in
      record {
        id = i.value;
        number = n.value;
        slot = s.value;
        fits = record { boot = id.0; count = id.1; number_fits = number.0; slot_fits = slot.0 };
        is = id.2 ∙ ap (λ t. bytes8 i.value.boot ++ (bytes8 i.value.count ++ t)) number_is;
        rest = s.rest;
      }

  zeros_inv : (n k : ℕ) → zeros_at n bs k ≡ Ok tt → k + n ≤ length bs → drop k bs ≡ replicate n 0 ++ drop (k + n) bs
  zeros_inv zero k e h = ap (λ m. drop m bs) (sym (add-zero k))
  zeros_inv (suc n) k e h =
      let p = chosen (eqb (get_or bs k 0) 0) (zeros_at n bs (k + 1)) (unreadable k) tt e in
      let z = eqb-true (get_or bs k 0) 0 p.0 in
      let m : k + 1 + n ≡ k + suc n = omega arith in
      drop_more bs k 0 (omega arith) ∙ (λ i. z i ∷ (zeros_inv n (k + 1) p.1 (omega arith) ∙ ap (λ j. replicate n 0 ++ drop j bs) m) i)

  pub body_went : {Y : Type 0} (longest k : ℕ) (go : Bytes → Result Y Refusal) (y : Y) →
      then (body_at longest bs k) (λ body. then (end_at bs (k + 4 + padded (length body))) (λ _. go body)) ≡ Ok y → Body longest bs k go y
  body_went longest k go y e =
      let w = went (body_at longest bs k) (λ body. then (end_at bs (k + 4 + padded (length body))) (λ _. go body)) y e in
      let b = w.value in
      let v = went (end_at bs (k + 4 + padded (length b))) (λ _. go b) y w.rest in
      let c = number_went (λ m. leb m longest) k (λ m. padded_at m bs (k + 4)) b w.got in
      let n = c.value in
      let p = chosen (leb (k + 4 + padded n) (length bs)) (then (zeros_at (padded n - n) bs (k + 4 + n)) (λ _. Ok (take n (drop (k + 4) bs)))) (unreadable (k + 4)) b c.rest in
      let fits = leb-true _ _ p.0 in
      let z = went (zeros_at (padded n - n) bs (k + 4 + n)) (λ _. Ok (take n (drop (k + 4) bs))) b p.1 in
      let is : take n (drop (k + 4) bs) ≡ b = same_ok _ _ z.rest in
      let up : n ≤ padded n = omega arith in
      let long : length b ≡ n = ap length (sym is) ∙ length-take-le n (drop (k + 4) bs) (simp length-drop (omega arith)) in
      let stop = leb-true _ _ (chosen (leb (length bs) (k + 4 + padded (length b))) (Ok tt) (unreadable (k + 4 + padded (length b))) tt v.got).0 in
      let end : drop (k + 4 + n + (padded n - n)) bs ≡ [] = drop_all _ bs (omega (arith, ap padded long)) in
      let zeros = zeros_inv (padded n - n) (k + 4 + n) z.got (omega arith) in
      let tail : drop (k + 4 + n) bs ≡ replicate (padded n - n) 0 = zeros ∙ ap (λ t. replicate (padded n - n) 0 ++ t) end ∙ append-nil _ in
      let behind : drop (k + 4) bs ≡ b ++ replicate (padded n - n) 0 = sym (take-append-drop n (drop (k + 4) bs)) ∙ (λ i. is i ++ (drop-drop n (k + 4) bs ∙ tail) i) in
      record {
        body = b;
        short = subst (λ m. m ≤ longest) (sym long) (leb-true _ _ c.passes);
        is = c.is ∙ ap (λ t. bytes4 n ++ t) behind ∙ ap (λ m. bytes4 m ++ (b ++ replicate (padded m - m) 0)) (sym long);
        rest = v.rest;
      }
