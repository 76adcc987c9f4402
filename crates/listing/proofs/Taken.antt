-- What the listing of a sheet is, taken or refused. Assumes nothing.
use Rattle.std.proofs.Common.{◌/◌, ◌≡◌, ◌≢◌, refl, List, ℕ, length, Ok, Err}
use Rattle.rules.specs.Types.{SheetAnswer}
use Rattle.rules.specs.Sheet.{sheet_answer, sheet_number, sheet_records}
use Rattle.rules.specs.Listing.{printed_up_to, sheet_line, listing_by, listing_of}

pub listing_taken :
    (b : List ℕ) → sheet_answer b ≡ Ok tt
    → (printed_up_to (sheet_records b) (length (sheet_records b) / 16)).text ≡ listing_of b
unfolding listing_of
listing_taken b e = rw e

-- a sheet that is not taken has one line, with its number
refused_by_lem : (a : SheetAnswer) (part : List ℕ) → a ≢ Ok tt → sheet_line (sheet_number a) ≡ listing_by a part
refused_by_lem (Ok u) part h = absurd (h refl)
refused_by_lem (Err r) part h = refl

pub listing_refused :
    (b : List ℕ) (a : SheetAnswer) → a ≡ sheet_answer b → a ≢ Ok tt
    → sheet_line (sheet_number a) ≡ listing_of b
unfolding listing_of
listing_refused b a e h = rw (← e) (refused_by_lem a (sheet_records b) h)
