-- The longest body, on both sides of its bound.
use Rattle.std.specs.Prelude.{◌≡◌, length, Ok, Err}
use Rattle.wire.specs.Wire.{Request, unreadable, request_message, read_request, FitsRequest}

-- A request with a body of 256 bytes is read; with 257 it stops at the length's offset.
pub record BodyBounds : Type 0 where
  pub reads_256 : (q : Request) → FitsRequest q → length q.body ≡ 256 → read_request (request_message q) ≡ Ok q
  pub stops_257 : (q : Request) → FitsRequest q → length q.body ≡ 257 → read_request (request_message q) ≡ Err (unreadable 36)
