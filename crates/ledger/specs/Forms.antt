-- The code's enums: what each case means, and its bytes.
use Rattle.std.specs.Prelude.{ℕ, cond, ◌&&◌, [], ◌∷◌, ◌++◌, length, Some, None, Ok, Err, Option, Result, ◌==◌, slice_index}
use Rattle.common.specs.Bytes.{Bytes, be32, bytes4}
use Rattle.ledger.specs.Ledger.{LedgerAsk, move, count, unfit}
use Rattle.ledger.specs.Refusals.{status_number, status_read}
use Rattle.ledger.specs.declared.body.Ask.{Ask}
use Rattle.ledger.specs.declared.body.Ask.TheVariants.{Move, Count}
use Rattle.ledger.specs.declared.refused.Refused.{Refused}
use Rattle.ledger.specs.declared.refused.NoRefusal.{NoRefusal}
use Rattle.ledger.specs.declared.reply.Answer.{Answer}
use Rattle.ledger.specs.declared.reply.Answer.TheVariants.{Moved, Counted}

-- what was read of a body; none is of no form
abbrev pub ask_model : Option Ask → LedgerAsk
ask_model None = unfit
ask_model (Some (Move from to amount)) = move from to amount
ask_model (Some (Count bin)) = count bin

-- the body of a move
abbrev pub move_bytes : ℕ → ℕ → ℕ → Bytes
move_bytes from to amount = 1 ∷ from ∷ to ∷ bytes4 amount

-- the body of a count
abbrev pub count_bytes : ℕ → Bytes
count_bytes bin = 2 ∷ bin ∷ []

-- what is answered as a reply's bytes: 0 and the counts, or the status
abbrev pub reply_bytes : Result Answer Refused → Bytes
reply_bytes (Ok (Moved from to)) = 0 ∷ bytes4 from ++ bytes4 to
reply_bytes (Ok (Counted grams)) = 0 ∷ bytes4 grams
reply_bytes (Err refused) = status_number refused ∷ []

-- a refusal as what is answered
abbrev pub refused_reply : Result Refused NoRefusal → Option (Result Answer Refused)
refused_reply (Ok refused) = Some (Err refused)
refused_reply (Err _) = None

-- what a reply says
abbrev pub reply_read : Bytes → Option (Result Answer Refused)
reply_read bs =
    cond (slice_index bs 0 == 0 && length bs == 5) (Some (Ok (Counted (be32 bs 1))))
    (cond (slice_index bs 0 == 0 && length bs == 9) (Some (Ok (Moved (be32 bs 1) (be32 bs 5))))
    (cond (length bs == 1) (refused_reply (status_read (slice_index bs 0))) None))
