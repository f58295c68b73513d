use Rattle.std.proofs.Common.{◌∙◌, ap}
use Rattle.wire.specs.Groups.{reply_at}
use Rattle.wire.proofs.Grouped.{reply_is}
use Rattle.wire.proofs.read.read_reply.Goals as goal

pub returns : goal.returns
returns c = record { value = c.reply.ensures.value ∙ ap (λ b. reply_at b 0) c.new.ensures ∙ reply_is c.args.bytes.now; short = c.reply.ensures.short }
