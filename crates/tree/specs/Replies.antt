-- The code's refusals and answers: the number and the bytes of each case.
use Rattle.std.specs.Prelude.{ℕ, [], ◌∷◌, Ok, Err, Result}
use Rattle.common.specs.Bytes.{Bytes}
use Rattle.tree.specs.Kinds.{kind_letter}
use Rattle.tree.specs.declared.refused.Refused.{Refused}
use Rattle.tree.specs.declared.refused.Refused.TheVariants.{NotOfForm, Absent, NoFolder, NameTaken, Exists, IsRoot, NotEmpty, IntoItself, NoSuchName}
use Rattle.tree.specs.declared.reply.Answer.{Answer}
use Rattle.tree.specs.declared.reply.Answer.TheVariants.{Done, Found}

-- the status of a refusal
abbrev pub status_number : Refused → ℕ
status_number NotOfForm = 1
status_number Absent = 2
status_number NoFolder = 3
status_number NameTaken = 4
status_number Exists = 5
status_number IsRoot = 6
status_number NotEmpty = 7
status_number IntoItself = 8
status_number NoSuchName = 9

-- what is answered as a reply's bytes
abbrev pub reply_bytes : Result Answer Refused → Bytes
reply_bytes (Ok Done) = 0 ∷ []
reply_bytes (Ok (Found node kind)) = 0 ∷ node ∷ kind_letter kind ∷ []
reply_bytes (Err refused) = status_number refused ∷ []

-- the status that a judgement stands for: 0 is done
abbrev pub judged_status : Result (Unit {0}) Refused → ℕ
judged_status (Ok _) = 0
judged_status (Err refused) = status_number refused
