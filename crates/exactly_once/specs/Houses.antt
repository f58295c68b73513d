-- A house over any service and any two channels.
use Rattle.service.specs.declared.Service as service
use Rattle.channel.specs.declared.Channel as channel
use Rattle.exactly_once.specs.Steps.{Parts}

-- its three parts, each by its own model
abbrev pub parts : {S Q R : Type 0} → service.Ghosts S → channel.Ghosts Q → channel.Ghosts R → Parts
parts s q r = record { service = s.model; requests = q.model; replies = r.model }
