-- Fields that are read together, at any offset.
use Rattle.std.specs.Prelude.{ℕ, ◌+◌, length, Ok, Result, ◌==◌, nat_eq, nat_le}
use Rattle.common.specs.Bytes.{Bytes}
use Rattle.wire.specs.declared.messages.Head.{Head as CodeHead}
use Rattle.wire.specs.declared.messages.Reach.{Reach as CodeReach}
use Rattle.wire.specs.Models.{id_model}
use Rattle.wire.specs.Wire.{SessionId, Request, Reply, Refusal, is_status, top_with, longest_with, padded, then, u32_at, permitted_at, id_at, body_at, end_at}

-- session id, number and slot, which both messages have
pub record Head : Type 0 where
  pub id : SessionId
  pub number : ℕ
  pub slot : ℕ

-- by the code's value
abbrev pub head_model : CodeHead → Head
head_model h = record { id = id_model h.id; number = h.number; slot = h.slot }

-- a head, from an offset on
abbrev pub head_at : Bytes → ℕ → Result Head Refusal
head_at bs at =
    then (id_at bs at) (λ id.
    then (u32_at bs (at + 16)) (λ number.
    then (u32_at bs (at + 16 + 4)) (λ slot.
    Ok (record { id = id; number = number; slot = slot }))))

-- highest and target, which only a reply tells together
pub record Reach : Type 0 where
  pub highest : ℕ
  pub target : ℕ

-- by the code's value
abbrev pub reach_model : CodeReach → Reach
reach_model r = record { highest = r.highest; target = r.target }

-- a reach, each at most `top`, and the flags behind it
abbrev pub reach_at : ℕ → Bytes → ℕ → Result Reach Refusal
reach_at top bs at =
    then (permitted_at (λ n. nat_le n top) bs at) (λ highest.
    then (permitted_at (λ n. nat_le n top) bs (at + 4)) (λ target.
    then (permitted_at (λ n. nat_eq n 0) bs (at + 4 + 4)) (λ _.
    Ok (record { highest = highest; target = target }))))

-- a body and nothing behind it
abbrev pub last_at : ℕ → Bytes → ℕ → Result Bytes Refusal
last_at longest bs at =
    then (body_at longest bs at) (λ body.
    then (end_at bs (at + 4 + padded (length body))) (λ _.
    Ok body))

-- a request
abbrev pub request_at : Bytes → ℕ → Result Request Refusal
request_at bs at =
    then (permitted_at (λ n. nat_eq n 53) bs at) (λ _.
    then (head_at bs (at + 4)) (λ head.
    then (u32_at bs (at + 4 + 24)) (λ highest.
    then (permitted_at (λ n. nat_le n 1) bs (at + 4 + 24 + 4)) (λ keep.
    then (last_at 256 bs (at + 4 + 24 + 4 + 4)) (λ body.
    Ok (record { id = head.id; number = head.number; slot = head.slot; highest = highest; keep = (keep == 1); body = body }))))))

-- and a reply
abbrev pub reply_at : Bytes → ℕ → Result Reply Refusal
reply_at bs at =
    then (permitted_at (λ n. nat_eq n 53) bs at) (λ _.
    then (permitted_at is_status bs (at + 4)) (λ status.
    then (head_at bs (at + 4 + 4)) (λ head.
    then (reach_at (top_with status) bs (at + 4 + 4 + 24)) (λ reach.
    then (last_at (longest_with status) bs (at + 4 + 4 + 24 + 12)) (λ body.
    Ok (record { status = status; id = head.id; number = head.number; slot = head.slot; highest = reach.highest; target = reach.target; body = body }))))))
