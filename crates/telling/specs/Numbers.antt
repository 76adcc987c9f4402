-- An answer told by its number and its value, which say all of it. Assumes nothing.
use Rattle.std.specs.Prelude.{ℕ, cond, List, [], ◌∷◌, ◌++◌, eqb}
use Rattle.rules.specs.Listing.{decimal_of}
use Rattle.words.specs.Say.{record_text}
use Rattle.words.specs.Tell.{accepted_told, refused_told}

-- "Accepted is number 0."
abbrev pub numbers_told : ℕ → ℕ → List ℕ
numbers_told number value = cond (eqb number 0) (accepted_told value) (refused_told number)

-- place, words, answer
unfoldable pub numbers_told_line : ℕ → List ℕ → ℕ → ℕ → List ℕ
numbers_told_line place bytes number value =
    decimal_of place ++ (32 ∷ record_text bytes) ++ numbers_told number value ++ (10 ∷ [])
