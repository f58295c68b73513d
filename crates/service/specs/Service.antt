-- What a service is: a content, and a written step from content and body to a new content and a reply.
use Rattle.std.specs.Prelude.{◌≤◌, length}
use Rattle.common.specs.Bytes.{Bytes}

-- a service's meaning
pub record ServiceModel : Type 1 where
  pub Content : Type 0
  pub next : Content → Bytes → Content
  pub reply : Content → Bytes → Bytes

-- a reply has 1 to 256 bytes
pub record ServiceLaws (S : ServiceModel) : Type 0 where
  pub some : (c : S.Content) (b : Bytes) → 1 ≤ length (S.reply c b)
  pub short : (c : S.Content) (b : Bytes) → length (S.reply c b) ≤ 256
