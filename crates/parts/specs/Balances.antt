-- The closure test by an array of eight balances: the calls sent to each site by the answers so far. Assumes nothing.
use Rattle.std.specs.Prelude.{ℕ, zero, suc, ◌+◌, List, [], ◌∷◌, get_or, replicate}
use Rattle.rules.specs.declared.tables.Round.{Round}
use Rattle.rules.specs.Parts.{figures_at, if_answered}

-- what the answer of s says that it sent to d
abbrev pub balance_of : Round → ℕ → ℕ → ℕ
balance_of r s d = if_answered r s (get_or (figures_at r s).sent d 0)

-- what the answer of s says of its quiesce time
abbrev pub quiesce_of : Round → ℕ → ℕ
quiesce_of r s = if_answered r s (figures_at r s).quiesce

-- the balances, updated by the answer of s
abbrev pub balances_next : Round → ℕ → List ℕ → List ℕ
balances_next r s b =
    (get_or b 0 0 + balance_of r s 0) ∷ (get_or b 1 0 + balance_of r s 1) ∷ (get_or b 2 0 + balance_of r s 2)
    ∷ (get_or b 3 0 + balance_of r s 3)
    ∷ (get_or b 4 0 + balance_of r s 4)
    ∷ (get_or b 5 0 + balance_of r s 5)
    ∷ (get_or b 6 0 + balance_of r s 6)
    ∷ (get_or b 7 0 + balance_of r s 7)
    ∷ []

unfoldable pub balances_up_to : Round → ℕ → List ℕ
balances_up_to r zero = replicate 8 0
balances_up_to r (suc n) = balances_next r n (balances_up_to r n)
