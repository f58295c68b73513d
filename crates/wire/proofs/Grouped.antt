-- A message read in groups is read field by field.
use Rattle.std.proofs.Common.{◌≡◌, ℕ, ◌+◌, eqb, leb, length, Ok, Err, Result, refl}
use Rattle.common.specs.Bytes.{Bytes}
use Rattle.wire.specs.Wire.{Refusal, is_status, top_with, longest_with, padded, then, u32_at, permitted_at, id_at, body_at, end_at, read_request, read_reply}
use Rattle.wire.specs.Groups.{Head, head_at, Reach, reach_at, last_at, request_at, reply_at}

three : {X Y Z W V : Type 0} (f : X → Y → Z → W) (go : W → Result V Refusal) (r : Result X Refusal) (s : Result Y Refusal) (t : Result Z Refusal) → then (then r (λ x. then s (λ y. then t (λ z. Ok (f x y z))))) go ≡ then r (λ x. then s (λ y. then t (λ z. go (f x y z))))
three f go (Ok x) (Ok y) (Ok z) = refl
three f go (Ok x) (Ok y) (Err e) = refl
three f go (Ok x) (Err e) t = refl
three f go (Err e) s t = refl

ended : {X Y : Type 0} (x : X) (go : X → Result Y Refusal) (s : Result (Unit {0}) Refusal) → then (then s (λ _. Ok x)) go ≡ then s (λ _. go x)
ended x go (Ok u) = refl
ended x go (Err e) = refl

two : {X Y : Type 0} (go : X → Result Y Refusal) (r : Result X Refusal) (s : X → Result (Unit {0}) Refusal) → then (then r (λ x. then (s x) (λ _. Ok x))) go ≡ then r (λ x. then (s x) (λ _. go x))
two go (Ok x) s = ended x go (s x)
two go (Err e) s = refl

head_is : {X : Type 0} (bs : Bytes) (at : ℕ) (go : Head → Result X Refusal) → then (head_at bs at) go ≡ then (id_at bs at) (λ id. then (u32_at bs (at + 16)) (λ number. then (u32_at bs (at + 16 + 4)) (λ slot. go (record { id = id; number = number; slot = slot }))))
head_is bs at go = three (λ id number slot. record { id = id; number = number; slot = slot }) go (id_at bs at) (u32_at bs (at + 16)) (u32_at bs (at + 16 + 4))

reach_is : {X : Type 0} (top : ℕ) (bs : Bytes) (at : ℕ) (go : Reach → Result X Refusal) → then (reach_at top bs at) go ≡ then (permitted_at (λ n. leb n top) bs at) (λ highest. then (permitted_at (λ n. leb n top) bs (at + 4)) (λ target. then (permitted_at (λ n. eqb n 0) bs (at + 4 + 4)) (λ _. go (record { highest = highest; target = target }))))
reach_is top bs at go = three (λ highest target _. record { highest = highest; target = target }) go (permitted_at (λ n. leb n top) bs at) (permitted_at (λ n. leb n top) bs (at + 4)) (permitted_at (λ n. eqb n 0) bs (at + 4 + 4))

last_is : {X : Type 0} (longest : ℕ) (bs : Bytes) (at : ℕ) (go : Bytes → Result X Refusal) → then (last_at longest bs at) go ≡ then (body_at longest bs at) (λ body. then (end_at bs (at + 4 + padded (length body))) (λ _. go body))
last_is longest bs at go = two go (body_at longest bs at) (λ body. end_at bs (at + 4 + padded (length body)))

pub request_is : (bs : Bytes) → request_at bs 0 ≡ read_request bs
unfolding read_request
request_is bs =
    (λ i. then (permitted_at (λ n. eqb n 53) bs 0) (λ _. head_is bs 4 (λ head. then (u32_at bs 28) (λ highest. then (permitted_at (λ n. leb n 1) bs 32) (λ keep. last_is 256 bs 36 (λ body. Ok (record { id = head.id; number = head.number; slot = head.slot; highest = highest; keep = eqb keep 1; body = body })) i))) i))

pub reply_is : (bs : Bytes) → reply_at bs 0 ≡ read_reply bs
unfolding read_reply
reply_is bs =
    (λ i. then (permitted_at (λ n. eqb n 53) bs 0) (λ _. then (permitted_at is_status bs 4) (λ status. head_is bs 8 (λ head. reach_is (top_with status) bs 32 (λ reach. last_is (longest_with status) bs 44 (λ body. Ok (record { status = status; id = head.id; number = head.number; slot = head.slot; highest = reach.highest; target = reach.target; body = body })) i) i) i)))
