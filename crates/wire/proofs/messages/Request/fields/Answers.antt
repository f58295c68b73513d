use Rattle.std.proofs.Common.{cond, ap, ◌++◌, ◌∙◌}
use Rattle.common.specs.Bytes.{bytes4}
use Rattle.wire.specs.Wire.{body_field, request_message}
use Rattle.wire.specs.Models.{request_model}
use Rattle.wire.specs.Written.{head_bytes, written}
use Rattle.wire.proofs.Puts.{behind, flag_is}
use Rattle.wire.proofs.messages.Request.fields.Goals as goal

pub returns : goal.returns
unfolding request_message
returns c =
    let q = request_model c.args.self.now in
    let p1 = behind (bytes4 53) c.new-writer.ensures c.u32.ensures in
    let p2 = behind (head_bytes q.id q.number q.slot) p1 c.head.ensures in
    let p3 = behind (bytes4 q.highest) p2 c.u32-2.ensures in
    let p4 = behind (bytes4 (cond q.keep 1 0)) p3 (c.u32-3.ensures ∙ ap (λ k. written c.u32-2.new.self ++ bytes4 k) (c.from.ensures ∙ flag_is q.keep)) in
    behind (body_field q.body) p4 c.body.ensures
