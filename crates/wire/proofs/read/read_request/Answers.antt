use Rattle.std.proofs.Common.{◌∙◌, ap}
use Rattle.wire.specs.Groups.{request_at}
use Rattle.wire.proofs.Grouped.{request_is}
use Rattle.wire.proofs.read.read_request.Goals as goal

pub returns : goal.returns
returns c = record { value = c.request.ensures.value ∙ ap (λ b. request_at b 0) c.new.ensures ∙ request_is c.args.bytes.now; short = c.request.ensures.short }
