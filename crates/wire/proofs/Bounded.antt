-- A body one byte too long is not read.
use Rattle.std.proofs.Common.{◌≡◌, ◌^◌, ◌<◌, cond, eqb, ltb, leb, length, drop, Some, None, Err, Result, refl, ap, ◌∙◌, arith}
use Rattle.std.proofs.lemmas.Bool.{cond-false, le-leb, lt-leb, le-ltb}
use Rattle.wire.specs.Wire.{Request, Refusal, unreadable, request_message, then, permitted_at, body_at, read_request, FitsRequest}
use Rattle.wire.specs.Bounds.{BodyBounds}
use Rattle.wire.proofs.Fields.{then_ok, u32_of, permitted_of, head_of}
use Rattle.wire.proofs.Exact.{reads_written, flag_low}

then_err : {X Y : Type 0} (go : X → Result Y Refusal) {r : Result X Refusal} (e : Refusal) → r ≡ Err e → then r go ≡ Err e
then_err go e h = ap (λ r. then r go) h

stops : (q : Request) → FitsRequest q → 256 < length q.body → length q.body < 2 ^ 32 → read_request (request_message q) ≡ Err (unreadable 36)
unfolding read_request request_message
stops q f long fits =
    let w = request_message q in
    let n = length q.body in
    let k = flag_low q.keep in
    let permitted : permitted_at (λ m. leb m 256) w 36 ≡ Err (unreadable 36) = then_ok _ n (u32_of w 36 n (drop 40 w) fits refl) ∙ cond-false _ _ _ (lt-leb _ _ long) in
    let body : body_at 256 w 36 ≡ Err (unreadable 36) = then_err _ _ permitted in
    then_ok _ 53 (permitted_of w (λ m. eqb m 53) 0 53 (drop 4 w) refl (omega arith) refl)
    ∙ head_of w 4 _ q.id q.number q.slot (drop 28 w) f.0 refl
    ∙ then_ok _ q.highest (u32_of w 28 q.highest (drop 32 w) f.1 refl)
    ∙ then_ok _ (cond q.keep 1 0) (permitted_of w (λ m. leb m 1) 32 (cond q.keep 1 0) (drop 36 w) (le-leb _ 1 k) (omega arith) refl)
    ∙ then_err _ _ body

pub body_bounds : BodyBounds
body_bounds = record {
  reads_256 = λ q f e. reads_written.request q f (cond-false (ltb 256 (length q.body)) (Some 36) None (le-ltb 256 (length q.body) (omega arith)));
  stops_257 = λ q f e. stops q f (omega arith) (omega arith);
}
