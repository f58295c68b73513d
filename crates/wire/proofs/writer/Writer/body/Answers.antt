use Rattle.std.proofs.Common.{◌-◌, ◌≤◌, ◌++◌, length, take, replicate, ap, ◌∙◌, arith}
use Rattle.std.proofs.lemmas.List.{take-replicate}
use Rattle.common.specs.Bytes.{bytes4}
use Rattle.wire.specs.Wire.{padded}
use Rattle.wire.specs.Written.{written}
use Rattle.wire.proofs.Puts.{two}
use Rattle.wire.proofs.writer.Writer.body.Goals as goal

pub returns : goal.returns
returns c =
    let body = c.args.body.now in
    let size = bytes4 (length body) in
    let few : padded (length body) - length body ≤ 4 = omega arith in
    let zeros = ap (λ n. take (n - length body) (replicate 4 0)) c.padded.ensures ∙ take-replicate (padded (length body) - length body) 4 0 few in
    let sized = two _ size body c.u32.ensures c.put.ensures in
    two _ (size ++ body) (replicate (padded (length body) - length body) 0) sized (c.put-2.ensures ∙ ap (λ pad. written c.put.new.self ++ pad) zeros)
