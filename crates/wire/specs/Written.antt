-- A message while it is assembled.
use Rattle.std.specs.Prelude.{ℕ, ◌++◌}
use Rattle.common.specs.Bytes.{Bytes, bytes4, bytes8}
use Rattle.wire.specs.declared.writer.Writer.{Writer}
use Rattle.wire.specs.Wire.{SessionId}

-- what has been written so far
abbrev pub written : Writer → Bytes
written w = w.bytes.items

-- the fields that both messages have
abbrev pub head_bytes : SessionId → ℕ → ℕ → Bytes
head_bytes id number slot = bytes8 id.boot ++ (bytes8 id.count ++ (bytes4 number ++ bytes4 slot))
