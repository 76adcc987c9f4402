-- What is told of a sheet, taken or refused. Assumes nothing.
use Rattle.std.proofs.Common.{◌/◌, ◌≡◌, ◌≢◌, refl, List, ℕ, length, Ok, Err}
use Rattle.rules.specs.Types.{SheetAnswer}
use Rattle.rules.specs.Sheet.{sheet_answer, sheet_records}
use Rattle.words.specs.Tell.{refused_sheet, sheet_by, told_up_to, plain_up_to, sheet_told, plain_of}

pub told_taken :
    (b : List ℕ) → sheet_answer b ≡ Ok tt
    → told_up_to (sheet_records b) (length (sheet_records b) / 16) ≡ sheet_told b
unfolding sheet_told
told_taken b e = rw e

pub plain_taken :
    (b : List ℕ) → sheet_answer b ≡ Ok tt
    → plain_up_to (sheet_records b) (length (sheet_records b) / 16) ≡ plain_of b
unfolding plain_of
plain_taken b e = rw e

-- a sheet that is not taken has one line
refused_told_by : (a : SheetAnswer) (text : List ℕ) → a ≢ Ok tt → refused_sheet a ≡ sheet_by a text
refused_told_by (Ok u) text h = absurd (h refl)
refused_told_by (Err r) text h = refl

pub told_refused :
    (b : List ℕ) (a : SheetAnswer) → a ≡ sheet_answer b → a ≢ Ok tt → refused_sheet a ≡ sheet_told b
unfolding sheet_told
told_refused b a e h = rw (← e) (refused_told_by a _ h)

pub plain_refused :
    (b : List ℕ) (a : SheetAnswer) → a ≡ sheet_answer b → a ≢ Ok tt → refused_sheet a ≡ plain_of b
unfolding plain_of
plain_refused b a e h = rw (← e) (refused_told_by a _ h)
