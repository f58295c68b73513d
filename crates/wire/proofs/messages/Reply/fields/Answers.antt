use Rattle.std.proofs.Common.{ap, ◌++◌, ◌∙◌}
use Rattle.common.specs.Bytes.{bytes4}
use Rattle.wire.specs.Wire.{body_field, reply_message}
use Rattle.wire.specs.Models.{reply_model}
use Rattle.wire.specs.Written.{head_bytes, written}
use Rattle.wire.proofs.Puts.{behind}
use Rattle.wire.proofs.messages.Reply.fields.Goals as goal

pub returns : goal.returns
unfolding reply_message
returns c =
    let r = reply_model c.args.self.now in
    let p1 = behind (bytes4 53) c.new-writer.ensures c.u32.ensures in
    let p2 = behind (bytes4 r.status) p1 (c.u32-2.ensures ∙ ap (λ k. written c.u32.new.self ++ bytes4 k) c.from.ensures) in
    let p3 = behind (head_bytes r.id r.number r.slot) p2 c.head.ensures in
    let p4 = behind (bytes4 r.highest) p3 c.u32-3.ensures in
    let p5 = behind (bytes4 r.target) p4 c.u32-4.ensures in
    let p6 = behind (bytes4 0) p5 c.u32-5.ensures in
    behind (body_field r.body) p6 c.body.ensures
