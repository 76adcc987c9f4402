-- "at most 65,536 bytes": a sheet that is taken has at most 4,095 records. Assumes nothing.
use Rattle.std.specs.Prelude.{ℕ, ◌/◌, ◌≤◌, ◌≡◌, List, length, Ok}
use Rattle.std.proofs.Common.{arith}
use Rattle.rules.specs.Sheet.{sheet_answer, sheet_records, distance_of}
use Rattle.rules.proofs.SheetLaws.{Whole, taken_whole, taken_length}

pub taken_few : (b : List ℕ) → sheet_answer b ≡ Ok tt → length (sheet_records b) / 16 ≤ 4095
taken_few b e =
    let w : Whole b = taken_whole b e in
    let d : length (sheet_records b) ≡ distance_of b = taken_length b e in
    let m : distance_of b ≤ 65528 = omega (arith, w.within, w.most) in
    rw d (omega arith)
