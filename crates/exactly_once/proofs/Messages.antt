-- What equal messages have in common, from that each is read as it was written.
use Rattle.std.proofs.Common.{◌≡◌, ℕ, ◌+◌, ◌-◌, ◌/◌, ◌%◌, ◌<◌, ◌≤◌, true, false, ltb, [], ◌++◌, length, take, drop, replicate, None, Ok, sym, refl, ap, ◌∙◌, arith, length-append}
use lib.ListN.{length-replicate}
use Rattle.std.proofs.lemmas.Bool.{cond-true, cond-false, le-ltb}
use Rattle.std.proofs.lemmas.List.{take_at}
use Rattle.common.specs.Bytes.{Bytes, bytes4, bytes8}
use Rattle.wire.specs.Wire.{Request, Reply, padded, body_field, request_message, reply_message, is_status, top_with, longest_with, forbidden_reply, read_request, read_reply, FitsRequest, FitsReply}
use Rattle.wire.proofs.Digits.{word_back}
use Rattle.wire.proofs.Exact.{reads_written}

-- a request is read as it was written
pub read_written_request : (q : Request) → FitsRequest q → length q.body ≤ 256 → read_request (request_message q) ≡ Ok q
read_written_request q fits short = reads_written.request q fits (cond-false (ltb 256 (length q.body)) _ _ (le-ltb 256 (length q.body) short))

-- a reply that has no forbidden field
pub record PermittedReply (r : Reply) : Type 0 where
  pub head : FitsReply r
  pub known : is_status r.status ≡ true
  pub low : r.status < 4294967296
  pub highest : r.highest ≤ top_with r.status
  pub target : r.target ≤ top_with r.status
  pub short : length r.body ≤ longest_with r.status

-- and so is a reply
pub read_written_reply : (r : Reply) → PermittedReply r → read_reply (reply_message r) ≡ Ok r
read_written_reply r ok = reads_written.reply r ok.head allowed
  where
    allowed : forbidden_reply r ≡ None
    allowed =
        cond-true (is_status r.status) _ _ ok.known
        ∙ cond-false (ltb (top_with r.status) r.highest) _ _ (le-ltb _ _ ok.highest)
        ∙ cond-false (ltb (top_with r.status) r.target) _ _ (le-ltb _ _ ok.target)
        ∙ cond-false (ltb (longest_with r.status) (length r.body)) _ _ (le-ltb _ _ ok.short)

-- requests that fit are told apart by their bytes
pub same_request : (f g : Request) → FitsRequest f → length f.body ≤ 256 → FitsRequest g → length g.body ≤ 256 → request_message f ≡ request_message g → f ≡ g
same_request f g ff sf fg sg e =
    let a : read_request (request_message f) ≡ Ok f = read_written_request f ff sf in
    let b : read_request (request_message g) ≡ Ok g = read_written_request g fg sg in
    let c : read_request (request_message f) ≡ read_request (request_message g) = ap read_request e in
    cc

-- equal requests, of any fields, have equal replies
pub like_replies : (f g : Request) → request_message f ≡ request_message g → (status highest target : ℕ) (body : Bytes) → reply_message (record { status = status; id = f.id; number = f.number; slot = f.slot; highest = highest; target = target; body = body }) ≡ reply_message (record { status = status; id = g.id; number = g.number; slot = g.slot; highest = highest; target = target; body = body })
unfolding request_message reply_message
like_replies f g e status highest target body =
    let boot : bytes8 f.id.boot ≡ bytes8 g.id.boot = ap (λ w. take 8 (drop 4 w)) e in
    let count : bytes8 f.id.count ≡ bytes8 g.id.count = ap (λ w. take 8 (drop 12 w)) e in
    let number : bytes4 f.number ≡ bytes4 g.number = ap (λ w. take 4 (drop 20 w)) e in
    let slot : bytes4 f.slot ≡ bytes4 g.slot = ap (λ w. take 4 (drop 24 w)) e in
    λ i. bytes4 53 ++ (bytes4 status ++ (boot i ++ (count i ++ (number i ++ (slot i ++ (bytes4 highest ++ (bytes4 target ++ (bytes4 0 ++ body_field body))))))))

abbrev padding : ℕ → Bytes
padding n = replicate (padded n - n) 0

padded_long : (b : Bytes) → length (b ++ padding (length b)) ≡ padded (length b)
padded_long b =
    let up : length b ≤ padded (length b) = omega arith in
    length-append b (padding (length b)) ∙ ap (λ k. length b + k) (length-replicate (padded (length b) - length b) 0) ∙ omega arith

length_like : (n k : ℕ) → padded n ≡ padded k → n % 256 ≡ k % 256 → n ≡ k
length_like n k e f = omega arith

-- a body is told by its field
pub same_body : (b c : Bytes) → body_field b ≡ body_field c → b ≡ c
same_body b c e =
    let tails : b ++ padding (length b) ≡ c ++ padding (length c) = cc in
    let low : length b % 256 ≡ length c % 256 = cc in
    let pads : padded (length b) ≡ padded (length c) = sym (padded_long b) ∙ ap length tails ∙ padded_long c in
    let same : length b ≡ length c = length_like (length b) (length c) pads low in
    sym (take_at b (padding (length b)) (length b) refl) ∙ ap (take (length b)) tails ∙ ap (λ k. take k (c ++ padding (length c))) same ∙ take_at c (padding (length c)) (length c) refl

word_same : (n k : ℕ) → n < 4294967296 → k < 4294967296 → bytes4 n ≡ bytes4 k → n ≡ k
word_same n k a b e =
    let p : n / 16777216 % 256 ≡ k / 16777216 % 256 = cc in
    let q : n / 65536 % 256 ≡ k / 65536 % 256 = cc in
    let r : n / 256 % 256 ≡ k / 256 % 256 = cc in
    let s : n % 256 ≡ k % 256 = cc in
    let x = word_back n a in
    let y = word_back k b in
    omega arith

-- equal replies, of any fields, have equal bodies and, where these fit, statuses
pub same_reply_body : (r s : Reply) → reply_message r ≡ reply_message s → r.body ≡ s.body
unfolding reply_message
same_reply_body r s e = same_body r.body s.body (ap (drop 44) e)

pub same_reply_status : (r s : Reply) → r.status < 4294967296 → s.status < 4294967296 → reply_message r ≡ reply_message s → r.status ≡ s.status
unfolding reply_message
same_reply_status r s a b e = word_same r.status s.status a b (ap (λ w. take 4 (drop 4 w)) e)

pub same_reply_target : (r s : Reply) → r.target < 4294967296 → s.target < 4294967296 → reply_message r ≡ reply_message s → r.target ≡ s.target
unfolding reply_message
same_reply_target r s a b e = word_same r.target s.target a b (ap (λ w. take 4 (drop 36 w)) e)

-- equal replies whose heads fit have equal heads
pub same_reply_head : (r s : Reply) → FitsReply r → FitsReply s → reply_message r ≡ reply_message s → (r.id ≡ s.id) × (r.number ≡ s.number) × (r.slot ≡ s.slot)
unfolding reply_message request_message
same_reply_head r s fr fs e =
    let boot : bytes8 r.id.boot ≡ bytes8 s.id.boot = ap (λ w. take 8 (drop 8 w)) e in
    let count : bytes8 r.id.count ≡ bytes8 s.id.count = ap (λ w. take 8 (drop 16 w)) e in
    let number : bytes4 r.number ≡ bytes4 s.number = ap (λ w. take 4 (drop 24 w)) e in
    let slot : bytes4 r.slot ≡ bytes4 s.slot = ap (λ w. take 4 (drop 28 w)) e in
    let bytes : request_message (headed r) ≡ request_message (headed s) = λ i. bytes4 53 ++ (boot i ++ (count i ++ (number i ++ (slot i ++ (bytes4 0 ++ (bytes4 0 ++ body_field [])))))) in
    let same : headed r ≡ headed s = same_request (headed r) (headed s) (fr, omega arith) (omega arith) (fs, omega arith) (omega arith) bytes in
    (ap (λ q. q.id) same, ap (λ q. q.number) same, ap (λ q. q.slot) same)
  where
    headed : Reply → Request
    headed x = record { id = x.id; number = x.number; slot = x.slot; highest = 0; keep = false; body = [] }
