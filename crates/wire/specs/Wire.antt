-- The two messages: their fields, how they are written, and how any byte string is read.
use Rattle.std.specs.Prelude.{◌≡◌, ℕ, zero, suc, ◌+◌, ◌-◌, ◌*◌, ◌/◌, ◌^◌, ◌<◌, Bool, cond, ◌&&◌, ◌||◌, leb, [], ◌++◌, length, take, drop, replicate, Some, None, Ok, Err, Option, Result, ◌==◌, nat_eq, nat_le, nat_lt, slice_index}
use Rattle.common.specs.Bytes.{Bytes, be32, be64, bytes4, bytes8}

-- a session's id: the boot number, then the count
pub record SessionId : Type 0 where
  pub boot : ℕ
  pub count : ℕ

-- the same session
abbrev pub same_id : SessionId → SessionId → Bool
same_id a b = a.boot == b.boot && a.count == b.count

-- the fields of a request
pub record Request : Type 0 where
  pub id : SessionId
  pub number : ℕ
  pub slot : ℕ
  pub highest : ℕ
  pub keep : Bool
  pub body : Bytes

-- the fields of a reply
pub record Reply : Type 0 where
  pub status : ℕ
  pub id : SessionId
  pub number : ℕ
  pub slot : ℕ
  pub highest : ℕ
  pub target : ℕ
  pub body : Bytes

-- the reply to a request that carries a status other than 0
abbrev pub refusing : Request → ℕ → Reply
refusing q n = record { status = n; id = q.id; number = q.number; slot = q.slot; highest = 0; target = 0; body = [] }

-- Where a call stops, in the order of the rows. A row of the server is no case here: it goes out as a reply's status.
pub data Refusal : Type 0 where
  short_scratch no_terminal not_standing long_body no_slot no_open_call no_part no_work high_target no_place no_count few_trays nothing_waits : Refusal
  unreadable : (offset : ℕ) → Refusal
  no_call : Refusal

-- the part of the house at which a call stops
pub data Place : Type 0 where
  buffer terminal session_map channel codec : Place

-- what a refusal tells; only an unreadable message has an offset
pub record Row : Type 0 where
  pub place : Place
  pub number : ℕ
  pub offset : ℕ

-- a row without an offset
abbrev pub row : Place → ℕ → Row
row place number = record { place = place; number = number; offset = 0 }

-- the row of each refusal
abbrev pub row_of : Refusal → Row
row_of short_scratch = row buffer 1
row_of no_terminal = row terminal 2
row_of not_standing = row terminal 3
row_of long_body = row terminal 4
row_of no_slot = row terminal 5
row_of no_open_call = row terminal 6
row_of no_part = row terminal 7
row_of no_work = row terminal 8
row_of high_target = row session_map 9
row_of no_place = row session_map 10
row_of no_count = row session_map 11
row_of few_trays = row session_map 12
row_of nothing_waits = row channel 13
row_of (unreadable at) = record { place = codec; number = 10036; offset = at }
row_of no_call = row terminal 14

-- the next multiple of four
abbrev pub padded : ℕ → ℕ
padded n = (n + 3) / 4 * 4

-- a body behind its length, with zeros up to a multiple of four
abbrev pub body_field : Bytes → Bytes
body_field b = bytes4 (length b) ++ (b ++ replicate (padded (length b) - length b) 0)

-- a request, written
unfoldable pub request_message : Request → Bytes
request_message q =
    bytes4 53 ++ (bytes8 q.id.boot ++ (bytes8 q.id.count ++ (bytes4 q.number ++ (bytes4 q.slot ++ (bytes4 q.highest ++ (bytes4 (cond q.keep 1 0) ++ body_field q.body))))))

-- a reply, written
unfoldable pub reply_message : Reply → Bytes
reply_message r =
    bytes4 53 ++ (bytes4 r.status ++ (bytes8 r.id.boot ++ (bytes8 r.id.count ++ (bytes4 r.number ++ (bytes4 r.slot ++ (bytes4 r.highest ++ (bytes4 r.target ++ (bytes4 0 ++ body_field r.body))))))))

-- a reply's status is 0 or what a row of the server sends
abbrev pub is_status : ℕ → Bool
is_status n = n == 0 || (n == 10008 || (n == 10052 || (n == 10053 || (n == 10063 || (n == 10068 || (n == 10076 || n == 10077))))))

-- the greatest highest and target with a status
abbrev pub top_with : ℕ → ℕ
top_with status = cond (status == 0) 15 0

-- the longest body with a status
abbrev pub longest_with : ℕ → ℕ
longest_with status = cond (status == 0) 256 0

-- the offset of the first forbidden field of a request: only its body can be too long
abbrev pub forbidden_request : Request → Option ℕ
forbidden_request q = cond (nat_lt 256 (length q.body)) (Some 36) None

-- and of a reply
abbrev pub forbidden_reply : Reply → Option ℕ
forbidden_reply r =
    cond (is_status r.status)
    (cond (nat_lt (top_with r.status) r.highest) (Some 32)
    (cond (nat_lt (top_with r.status) r.target) (Some 36)
    (cond (nat_lt (longest_with r.status) (length r.body)) (Some 44) None)))
    (Some 4)

-- x, unless there is a forbidden field
abbrev pub permits : {X : Type 0} → X → Option ℕ → Result X Refusal
permits x None = Ok x
permits x (Some at) = Err (unreadable at)

-- what a writer answers into a buffer of that length: how many bytes it wrote, or why none
abbrev pub write_answer : Option ℕ → Bytes → ℕ → Result ℕ Refusal
write_answer forbidden message room = cond (nat_lt room 304) (Err short_scratch) (permits (length message) forbidden)

-- what its buffer then holds: the message in front, or what was there
abbrev pub write_out : Bytes → Bytes → Result ℕ Refusal → Bytes
write_out message out (Ok n) = message ++ drop n out
write_out message out (Err e) = out

-- one reading, and with what it gave the next
abbrev pub then : {X Y : Type 0} → Result X Refusal → (X → Result Y Refusal) → Result Y Refusal
then (Ok x) go = go x
then (Err e) go = Err e

-- a number; cut off, it counts at its own offset
abbrev pub u32_at : Bytes → ℕ → Result ℕ Refusal
u32_at bs at = cond (nat_le (at + 4) (length bs)) (Ok (be32 bs at)) (Err (unreadable at))

-- a number that passes a test
abbrev pub permitted_at : (ℕ → Bool) → Bytes → ℕ → Result ℕ Refusal
permitted_at test bs at = then (u32_at bs at) (λ n. cond (test n) (Ok n) (Err (unreadable at)))

-- a session id
abbrev pub id_at : Bytes → ℕ → Result SessionId Refusal
id_at bs at = cond (nat_le (at + 16) (length bs)) (Ok (record { boot = be64 bs at; count = be64 bs (at + 8) })) (Err (unreadable at))

-- n zero bytes; another counts at its own offset
abbrev pub zeros_at : ℕ → Bytes → ℕ → Result (Unit {0}) Refusal
zeros_at zero bs at = Ok tt
zeros_at (suc n) bs at = cond (slice_index bs at == 0) (zeros_at n bs (at + 1)) (Err (unreadable at))

-- n bytes with their padding; cut off, both count at the body's offset
abbrev pub padded_at : ℕ → Bytes → ℕ → Result Bytes Refusal
padded_at n bs at =
    cond (nat_le (at + padded n) (length bs)) (then (zeros_at (padded n - n) bs (at + n)) (λ _. Ok (take n (drop at bs)))) (Err (unreadable at))

-- a length of at most `longest`, and so many bytes
abbrev pub body_at : ℕ → Bytes → ℕ → Result Bytes Refusal
body_at longest bs at = then (permitted_at (λ n. leb n longest) bs at) (λ n. padded_at n bs (at + 4))

-- nothing more; the first surplus byte counts
abbrev pub end_at : Bytes → ℕ → Result (Unit {0}) Refusal
end_at bs at = cond (nat_le (length bs) at) (Ok tt) (Err (unreadable at))

-- any byte string, read as a request, from the left
unfoldable pub read_request : Bytes → Result Request Refusal
read_request bs =
    then (permitted_at (λ n. nat_eq n 53) bs 0) (λ _.
    then (id_at bs 4) (λ id.
    then (u32_at bs 20) (λ number.
    then (u32_at bs 24) (λ slot.
    then (u32_at bs 28) (λ highest.
    then (permitted_at (λ n. leb n 1) bs 32) (λ keep.
    then (body_at 256 bs 36) (λ body.
    then (end_at bs (40 + padded (length body))) (λ _.
    Ok (record { id = id; number = number; slot = slot; highest = highest; keep = (keep == 1); body = body })))))))))

-- and as a reply
unfoldable pub read_reply : Bytes → Result Reply Refusal
read_reply bs =
    then (permitted_at (λ n. nat_eq n 53) bs 0) (λ _.
    then (permitted_at is_status bs 4) (λ status.
    then (id_at bs 8) (λ id.
    then (u32_at bs 24) (λ number.
    then (u32_at bs 28) (λ slot.
    then (permitted_at (λ n. leb n (top_with status)) bs 32) (λ highest.
    then (permitted_at (λ n. leb n (top_with status)) bs 36) (λ target.
    then (permitted_at (λ n. nat_eq n 0) bs 40) (λ _.
    then (body_at (longest_with status) bs 44) (λ body.
    then (end_at bs (48 + padded (length body))) (λ _.
    Ok (record { status = status; id = id; number = number; slot = slot; highest = highest; target = target; body = body })))))))))))

-- the fields that both messages have fit their widths
pub record FitsHead (id : SessionId) (number slot : ℕ) : Type 0 where
  pub boot : id.boot < 2 ^ 64
  pub count : id.count < 2 ^ 64
  pub number_fits : number < 2 ^ 32
  pub slot_fits : slot < 2 ^ 32

-- all fields fit their widths
abbrev pub FitsRequest : Request → Type 0
FitsRequest q = FitsHead q.id q.number q.slot × (q.highest < 2 ^ 32)

-- and those of a reply that has no forbidden field
abbrev pub FitsReply : Reply → Type 0
FitsReply r = FitsHead r.id r.number r.slot

-- each element is a byte
abbrev pub ByteString : Bytes → Type 0
ByteString bs = (i : ℕ) → slice_index bs i < 256

-- Each message is read exactly as it was written, and nothing else is read.
pub record ReadsWritten : Type 0 where
  pub request : (q : Request) → FitsRequest q → forbidden_request q ≡ None → read_request (request_message q) ≡ Ok q
  pub only_requests : (bs : Bytes) (q : Request) → ByteString bs → read_request bs ≡ Ok q → FitsRequest q × (forbidden_request q ≡ None) × (bs ≡ request_message q)
  pub reply : (r : Reply) → FitsReply r → forbidden_reply r ≡ None → read_reply (reply_message r) ≡ Ok r
  pub only_replies : (bs : Bytes) (r : Reply) → ByteString bs → read_reply bs ≡ Ok r → FitsReply r × (forbidden_reply r ≡ None) × (bs ≡ reply_message r)
