use Rattle.common.specs.Bytes.{bytes4, bytes8}
use Rattle.std.proofs.Common.{◌++◌}
use Rattle.wire.proofs.Puts.{two}
use Rattle.wire.proofs.writer.Writer.head.Goals as goal

pub returns : goal.returns
returns c =
    let boot = bytes8 c.args.id.boot in
    let count = bytes8 c.args.id.count in
    let number = bytes4 c.args.number in
    let ids = two _ boot count c.u64.ensures c.u64-2.ensures in
    let numbers = two _ (boot ++ count) number ids c.u32.ensures in
    two _ ((boot ++ count) ++ number) (bytes4 c.args.slot) numbers c.u32-2.ensures
