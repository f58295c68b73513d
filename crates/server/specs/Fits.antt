-- The bounds of what a reply may carry.
use Rattle.std.specs.Prelude.{◌≡◌, ℕ, ◌<◌, ◌≤◌, []}
use Rattle.common.specs.Bytes.{Bytes}
use Rattle.wire.specs.declared.statuses.Status.{Status}
use Rattle.wire.specs.Wire.{top_with}
use Rattle.wire.specs.Models.{status_number}
use Rattle.server.specs.declared.records.Last.{Last}
use Rattle.server.specs.declared.records.Last.TheVariants.{Never, InProgress, Kept, NotKept}

-- the highest slot in a kept outcome
abbrev pub kept_highest : Last → ℕ
kept_highest Never = 0
kept_highest InProgress = 0
kept_highest (Kept highest target) = highest
kept_highest NotKept = 0

-- and the target
abbrev pub kept_target : Last → ℕ
kept_target Never = 0
kept_target InProgress = 0
kept_target (Kept highest target) = target
kept_target NotKept = 0

-- a reply with that status may carry that highest, that target and that body, which is never too long for status 0
abbrev pub Fits : Status → ℕ → ℕ → Bytes → Type 0
Fits status highest target body =
    (highest ≤ top_with (status_number status)) × (target ≤ top_with (status_number status)) × (0 < status_number status → body ≡ [])
