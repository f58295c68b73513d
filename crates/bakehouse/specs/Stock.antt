-- What the bakehouse has in its bins.
use Rattle.std.specs.Prelude.{ℕ, List, ◌∷◌, replicate}
use Rattle.std.specs.List.{fold}
use Rattle.ledger.specs.Ledger.{LedgerAsk, move, ledger_after}
use Rattle.bakehouse.specs.declared.bins.Bin.{Bin}
use Rattle.bakehouse.specs.declared.bins.Bin.TheVariants.{Flour, Sugar, Salt, Mixer}
use Rattle.bakehouse.specs.declared.withdrawal.Withdrawal.{Withdrawal}

-- each bin's number in the ledger
abbrev pub bin_number : Bin → ℕ
bin_number Flour = 0
bin_number Sugar = 1
bin_number Salt = 3
bin_number Mixer = 31

-- what the bins hold as the day begins, in grams: flour, sugar and salt
abbrev pub opening_bins : List ℕ
opening_bins = 25000 ∷ 8000 ∷ 0 ∷ 1200 ∷ replicate 28 0

-- a withdrawal is a move into the mixer
abbrev pub withdrawal_ask : Withdrawal → LedgerAsk
withdrawal_ask w = move (bin_number w.bin) 31 w.grams

-- the bins after these withdrawals
abbrev pub withdrawn : List ℕ → List Withdrawal → List ℕ
withdrawn bins ws = fold (λ held w. ledger_after held (withdrawal_ask w)) bins ws
