-- The sheet: "heading (any bytes, not read), records of 16 bytes, trailer of 8 bytes". Assumes nothing.
use Rattle.std.specs.Prelude.{ℕ, zero, suc, ◌+◌, ◌*◌, ◌-◌, ◌%◌, Bool, cond, not, ◌&&◌, ◌||◌, List, [], ◌∷◌, ◌++◌, ltb, eqb, length, get_or, take, drop, Ok, Err}
use Rattle.rules.specs.Types.{SheetAnswer, SheetRefusal}
use Rattle.rules.specs.Record.{long_of}

-- "At most 65,536 bytes"
abbrev pub sheet_most : ℕ
sheet_most = 65536

-- where the trailer starts
abbrev pub trailer_at : List ℕ → ℕ
trailer_at b = length b - 8

-- "The trailer is a distance in four bytes, counted back from the trailer's start to the first record"
abbrev pub distance_of : List ℕ → ℕ
distance_of b = long_of b (trailer_at b)

-- ", then the bytes "PASS""
abbrev pub has_mark : List ℕ → Bool
has_mark b =
    eqb (get_or b (trailer_at b + 4) 0) 80 && eqb (get_or b (trailer_at b + 5) 0) 65
    && eqb (get_or b (trailer_at b + 6) 0) 83
    && eqb (get_or b (trailer_at b + 7) 0) 83

-- "Sheet refusals, in order: 1 over 65,536 bytes, 2 under 8, 3 mark wrong, 4 distance not a multiple of 16 or more than precedes the trailer."
unfoldable pub sheet_answer : List ℕ → SheetAnswer
sheet_answer b =
    cond
    (ltb sheet_most (length b))
    (Err SheetRefusal.TooLong)
    (cond
    (ltb (length b) 8)
    (Err SheetRefusal.TooShort)
    (cond
    (not (has_mark b))
    (Err SheetRefusal.BadMark)
    (cond
    (not (eqb (distance_of b % 16) 0) || ltb (trailer_at b) (distance_of b))
    (Err SheetRefusal.BadDistance)
    (Ok tt))))

-- 0 for a sheet that is taken
abbrev pub sheet_number : SheetAnswer → ℕ
sheet_number (Ok u) = 0
sheet_number (Err SheetRefusal.TooLong) = 1
sheet_number (Err SheetRefusal.TooShort) = 2
sheet_number (Err SheetRefusal.BadMark) = 3
sheet_number (Err SheetRefusal.BadDistance) = 4

-- "the part of the caller's bytes that holds the records"; none of a refused sheet
abbrev pub record_part : SheetAnswer → List ℕ → List ℕ
record_part (Ok u) b = take (distance_of b) (drop (trailer_at b - distance_of b) b)
record_part (Err r) b = []

unfoldable pub sheet_records : List ℕ → List ℕ
sheet_records b = record_part (sheet_answer b) b

-- record i of a part that holds records, from 0
abbrev pub record_at : List ℕ → ℕ → List ℕ
record_at part i = take 16 (drop (16 * i) part)

-- the first n records of a part, one list each
unfoldable pub records_up_to : List ℕ → ℕ → List (List ℕ)
records_up_to part zero = []
records_up_to part (suc n) = records_up_to part n ++ (record_at part n ∷ [])
