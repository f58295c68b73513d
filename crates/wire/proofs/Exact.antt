-- Both messages: what is written is read, and nothing else is.
use Rattle.std.proofs.Common.{◌≡◌, ℕ, zero, suc, ◌^◌, ◌<◌, ◌≤◌, Bool, true, false, cond, ◌||◌, eqb, ltb, leb, ◌++◌, length, drop, Some, None, Ok, Option, sym, refl, ap, ◌∙◌, subst, ⊎_elim, arith}
use Rattle.std.proofs.lemmas.Bool.{or_cases, cond-true, cond-false, leb-true, ltb-false, eqb-true, le-leb, le-ltb}
use Rattle.common.specs.Bytes.{Bytes, bytes4}
use Rattle.wire.specs.Wire.{Request, Reply, request_message, reply_message, is_status, top_with, longest_with, forbidden_request, forbidden_reply, u32_at, read_request, read_reply, FitsRequest, FitsReply, ByteString, ReadsWritten}
use Rattle.wire.proofs.Fields.{then_ok, head_field, u32_of, permitted_of, head_of, body_of}
use Rattle.wire.proofs.Inverse.{went, same_ok, u32_inv, number_went, head_went, body_went}

forbids : (n : ℕ) → Some n ≡ None → ⊥
forbids n e = let z : ◌≡◌ {A = ℕ} 0 1 = cc in omega arith

-- a field is not forbidden, nor is a later one
refused : (b : Bool) (n : ℕ) (r : Option ℕ) → cond b (Some n) r ≡ None → (b ≡ false) × (r ≡ None)
refused true n r e = absurd (forbids n e)
refused false n r e = (refl, e)

required : (b : Bool) (n : ℕ) (r : Option ℕ) → cond b r (Some n) ≡ None → (b ≡ true) × (r ≡ None)
required true n r e = (refl, e)
required false n r e = absurd (forbids n e)

-- a number of at most so many that is not too great
kept : (top n at : ℕ) (r : Option ℕ) → n ≤ top → cond (ltb top n) (Some at) r ≡ r
kept top n at r h = cond-false _ _ _ (le-ltb top n h)

-- the keep flag
flag : (k : ℕ) → k ≤ 1 → cond (eqb k 1) 1 0 ≡ k
flag zero h = refl
flag (suc zero) h = refl
flag (suc (suc k)) h = absurd (omega arith)

flag_back : (b : Bool) → eqb (cond b 1 0) 1 ≡ b
flag_back true = refl
flag_back false = refl

pub flag_low : (b : Bool) → cond b 1 0 ≤ 1
flag_low true = omega arith
flag_low false = omega arith

-- a status fits its width, and so does what it permits
status_fits : (n : ℕ) → is_status n ≡ true → n < 2 ^ 32
status_fits n e = next 0 _ (omega arith) (next 10008 _ (omega arith) (next 10052 _ (omega arith) (next 10053 _ (omega arith) (next 10063 _ (omega arith) (next 10068 _ (omega arith) (next 10076 _ (omega arith) (one 10077 (omega arith)))))))) e
  where
    one : (m : ℕ) → m < 2 ^ 32 → eqb n m ≡ true → n < 2 ^ 32
    one m h e = let s = eqb-true n m e in omega arith

    next : (m : ℕ) (b : Bool) → m < 2 ^ 32 → (b ≡ true → n < 2 ^ 32) → (eqb n m || b) ≡ true → n < 2 ^ 32
    next m b h more e = ⊎_elim (one m h) more (or_cases (eqb n m) b e)

top_low : (s : ℕ) → top_with s ≤ 15
top_low s = go (eqb s 0)
  where
    go : (b : Bool) → cond b 15 0 ≤ 15
    go true = omega arith
    go false = omega arith

longest_low : (s : ℕ) → longest_with s ≤ 256
longest_low s = go (eqb s 0)
  where
    go : (b : Bool) → cond b 256 0 ≤ 256
    go true = omega arith
    go false = omega arith

request_read : (q : Request) → FitsRequest q → forbidden_request q ≡ None → read_request (request_message q) ≡ Ok q
unfolding read_request request_message
request_read q f n =
    let w = request_message q in
    let s = ltb-false _ _ (refused (ltb 256 (length q.body)) 36 None n).0 in
    let k = flag_low q.keep in
    then_ok _ 53 (permitted_of w (λ m. eqb m 53) 0 53 (drop 4 w) refl (omega arith) refl)
    ∙ head_of w 4 _ q.id q.number q.slot (drop 28 w) f.0 refl
    ∙ then_ok _ q.highest (u32_of w 28 q.highest (drop 32 w) f.1 refl)
    ∙ then_ok _ (cond q.keep 1 0) (permitted_of w (λ m. leb m 1) 32 (cond q.keep 1 0) (drop 36 w) (le-leb _ 1 k) (omega arith) refl)
    ∙ body_of w 256 36 _ q.body s (omega arith) refl
    ∙ (λ i. Ok (record { id = q.id; number = q.number; slot = q.slot; highest = q.highest; keep = flag_back q.keep i; body = q.body }))

request_written : (bs : Bytes) (q : Request) → ByteString bs → read_request bs ≡ Ok q → FitsRequest q × (forbidden_request q ≡ None) × (bs ≡ request_message q)
unfolding read_request request_message
request_written bs q B e =
    let t = number_went bs B (λ m. eqb m 53) 0 _ q e in
    let h = head_went bs B 4 _ q t.rest in
    let p = went (u32_at bs 28) _ q h.rest in
    let k = number_went bs B (λ m. leb m 1) 32 _ q p.rest in
    let b = body_went bs B 256 36 _ q k.rest in
    let u = u32_inv bs B 28 p.value p.got in
    let tag = eqb-true _ _ t.passes in
    let keep = sym (flag k.value (leb-true _ _ k.passes)) in
    let e32 = k.is ∙ (λ i. bytes4 (keep i) ++ b.is i) in
    let e4 = h.is ∙ ap (head_field h.id h.number h.slot) (u.1 ∙ ap (λ x. bytes4 p.value ++ x) e32) in
    let all = t.is ∙ (λ i. bytes4 (tag i) ++ e4 i) in
    subst (λ q. FitsRequest q × (forbidden_request q ≡ None) × (bs ≡ request_message q)) (same_ok _ _ b.rest) ((h.fits, u.0), kept 256 (length b.body) 36 None b.short, all)

reply_read : (r : Reply) → FitsReply r → forbidden_reply r ≡ None → read_reply (reply_message r) ≡ Ok r
unfolding read_reply reply_message
reply_read r f n =
    let w = reply_message r in
    let top = top_with r.status in
    let longest = longest_with r.status in
    let a = required (is_status r.status) 4 _ n in
    let b = refused (ltb top r.highest) 32 _ a.1 in
    let c = refused (ltb top r.target) 36 _ b.1 in
    let d = refused (ltb longest (length r.body)) 44 _ c.1 in
    let hb = ltb-false _ _ b.0 in
    let hc = ltb-false _ _ c.0 in
    let hd = ltb-false _ _ d.0 in
    let lt = top_low r.status in
    let ll = longest_low r.status in
    then_ok _ 53 (permitted_of w (λ m. eqb m 53) 0 53 (drop 4 w) refl (omega arith) refl)
    ∙ then_ok _ r.status (permitted_of w is_status 4 r.status (drop 8 w) a.0 (status_fits _ a.0) refl)
    ∙ head_of w 8 _ r.id r.number r.slot (drop 32 w) f refl
    ∙ then_ok _ r.highest (permitted_of w (λ m. leb m top) 32 r.highest (drop 36 w) (le-leb _ _ hb) (omega arith) refl)
    ∙ then_ok _ r.target (permitted_of w (λ m. leb m top) 36 r.target (drop 40 w) (le-leb _ _ hc) (omega arith) refl)
    ∙ then_ok _ 0 (permitted_of w (λ m. eqb m 0) 40 0 (drop 44 w) refl (omega arith) refl)
    ∙ body_of w longest 44 _ r.body hd (omega arith) refl

reply_written : (bs : Bytes) (r : Reply) → ByteString bs → read_reply bs ≡ Ok r → FitsReply r × (forbidden_reply r ≡ None) × (bs ≡ reply_message r)
unfolding read_reply reply_message
reply_written bs r B e =
    let t = number_went bs B (λ m. eqb m 53) 0 _ r e in
    let s = number_went bs B is_status 4 _ r t.rest in
    let h = head_went bs B 8 _ r s.rest in
    let top = top_with s.value in
    let longest = longest_with s.value in
    let p = number_went bs B (λ m. leb m top) 32 _ r h.rest in
    let g = number_went bs B (λ m. leb m top) 36 _ r p.rest in
    let z = number_went bs B (λ m. eqb m 0) 40 _ r g.rest in
    let b = body_went bs B longest 44 _ r z.rest in
    let tag = eqb-true _ _ t.passes in
    let zero_is = eqb-true _ _ z.passes in
    let e40 = z.is ∙ (λ i. bytes4 (zero_is i) ++ b.is i) in
    let e36 = g.is ∙ ap (λ x. bytes4 g.value ++ x) e40 in
    let e32 = p.is ∙ ap (λ x. bytes4 p.value ++ x) e36 in
    let e8 = h.is ∙ ap (head_field h.id h.number h.slot) e32 in
    let e4 = s.is ∙ ap (λ x. bytes4 s.value ++ x) e8 in
    let all = t.is ∙ (λ i. bytes4 (tag i) ++ e4 i) in
    let allowed =
    cond-true _ _ _ s.passes
    ∙ kept top p.value 32 _ (leb-true _ _ p.passes)
    ∙ kept top g.value 36 _ (leb-true _ _ g.passes)
    ∙ kept longest (length b.body) 44 _ b.short
    in
    subst (λ r. FitsReply r × (forbidden_reply r ≡ None) × (bs ≡ reply_message r)) (same_ok _ _ b.rest) (h.fits, allowed, all)

pub reads_written : ReadsWritten
reads_written = record { request = request_read; only_requests = request_written; reply = reply_read; only_replies = reply_written }
