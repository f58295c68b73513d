-- How long a message is.
use Rattle.std.proofs.Common.{◌≡◌, ◌+◌, ◌-◌, length, replicate, arith, length-append}
use lib.ListN.{length-replicate}
use Rattle.common.specs.Bytes.{Bytes}
use Rattle.wire.specs.Wire.{Request, Reply, padded, body_field, request_message, reply_message}

length_body : (b : Bytes) → length (body_field b) ≡ 4 + padded (length b)
length_body b =
    let pad : Bytes = replicate (padded (length b) - length b) 0 in
    let all = length-append b pad in
    let zeros : length pad ≡ padded (length b) - length b = length-replicate (padded (length b) - length b) 0 in
    omega (arith, all, zeros)

pub length_request : (q : Request) → length (request_message q) ≡ 40 + padded (length q.body)
unfolding request_message
length_request q = let body = length_body q.body in omega (arith, body)

pub length_reply : (r : Reply) → length (reply_message r) ≡ 48 + padded (length r.body)
unfolding reply_message
length_reply r = let body = length_body r.body in omega (arith, body)
