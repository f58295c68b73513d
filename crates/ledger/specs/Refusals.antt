-- The code's refusals: the status of each, and its reason in words.
use Rattle.std.specs.Prelude.{ℕ, cond, Ok, Err, Result, ◌==◌, codes}
use Rattle.common.specs.Bytes.{Bytes}
use Rattle.ledger.specs.declared.refused.Refused.{Refused}
use Rattle.ledger.specs.declared.refused.Refused.TheVariants.{NotOfForm, NoSuchBin, HoldsLess, WouldPass}
use Rattle.ledger.specs.declared.refused.NoRefusal.{NoRefusal}

-- the status of a refusal
abbrev pub status_number : Refused → ℕ
status_number NotOfForm = 1
status_number NoSuchBin = 2
status_number HoldsLess = 3
status_number WouldPass = 4

-- and the refusal of a status
abbrev pub status_read : ℕ → Result Refused NoRefusal
status_read s =
    cond (s == 1) (Ok NotOfForm) (cond (s == 2) (Ok NoSuchBin) (cond (s == 3) (Ok HoldsLess) (cond (s == 4) (Ok WouldPass) (Err (record { 0 = s })))))

-- why
abbrev pub reason : Refused → Bytes
reason NotOfForm = codes "the body is neither a move nor a count"
reason NoSuchBin = codes "there is no such bin"
reason HoldsLess = codes "the bin holds less"
reason WouldPass = codes "the other bin has no room"
