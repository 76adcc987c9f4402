-- The second table of cases, sheets: from the bytes of a sheet to the bytes of its listing.
-- A record is laid out as document 01 has it, and a line of a listing letter by letter; both were worked out by hand. Assumes nothing.
use Rattle.std.specs.Prelude.{ℕ, ◌<◌, ◌≡◌, refl, List, [], ◌∷◌, ◌++◌, map, length, replicate}
use Rattle.std.proofs.Common.{lt-ltb}
use Rattle.rules.specs.Loops.{joined}
use Rattle.rules.specs.Sheet.{sheet_most, sheet_answer}
use Rattle.rules.specs.Listing.{spelt, listing_of}
use Rattle.rules.specs.Rows.{Row, sheet, found, wanted}

-- any bytes; these look like a trailer's mark
abbrev pub heading : List ℕ
heading = 80 ∷ 65 ∷ 83 ∷ 83 ∷ 10 ∷ []

-- twenty-eight records: tick 3; begin home 3 slot 5; two writes of object 29, delivered the second first, each with its reply;
-- an empty message slot; tick 7; prepare, ask, two deliveries, close, tell, deliver; retire; begin home 7 slot 5; read object 29, and its reply;
-- abort by the old handle, by the new one; crash 7; tick 7 while it is down; the same with a zero byte set; retire of handle 277, slot 5 in generation 17
abbrev pub long_records : List ℕ
long_records =
    1 ∷ 3 ∷ 0 ∷ 0 ∷ 0 ∷ 0 ∷ 0 ∷ 0 ∷ 64 ∷ 66 ∷ 15 ∷ 0 ∷ 0 ∷ 0 ∷ 0 ∷ 0
    ∷ 2 ∷ 3 ∷ 5 ∷ 0 ∷ 0 ∷ 0 ∷ 0 ∷ 0 ∷ 128 ∷ 132 ∷ 30 ∷ 0 ∷ 192 ∷ 198 ∷ 45 ∷ 0
    ∷ 3 ∷ 3 ∷ 1 ∷ 29 ∷ 5 ∷ 0 ∷ 0 ∷ 0 ∷ 64 ∷ 66 ∷ 15 ∷ 0 ∷ 0 ∷ 0 ∷ 0 ∷ 0
    ∷ 3 ∷ 3 ∷ 1 ∷ 29 ∷ 5 ∷ 0 ∷ 0 ∷ 0 ∷ 112 ∷ 17 ∷ 1 ∷ 0 ∷ 0 ∷ 0 ∷ 0 ∷ 0
    ∷ 11 ∷ 0 ∷ 0 ∷ 1 ∷ 0 ∷ 0 ∷ 0 ∷ 0 ∷ 0 ∷ 0 ∷ 0 ∷ 0 ∷ 0 ∷ 0 ∷ 0 ∷ 0
    ∷ 11 ∷ 0 ∷ 0 ∷ 1 ∷ 0 ∷ 0 ∷ 0 ∷ 0 ∷ 0 ∷ 0 ∷ 0 ∷ 0 ∷ 0 ∷ 0 ∷ 0 ∷ 0
    ∷ 11 ∷ 0 ∷ 0 ∷ 0 ∷ 0 ∷ 0 ∷ 0 ∷ 0 ∷ 0 ∷ 0 ∷ 0 ∷ 0 ∷ 0 ∷ 0 ∷ 0 ∷ 0
    ∷ 11 ∷ 0 ∷ 0 ∷ 0 ∷ 0 ∷ 0 ∷ 0 ∷ 0 ∷ 0 ∷ 0 ∷ 0 ∷ 0 ∷ 0 ∷ 0 ∷ 0 ∷ 0
    ∷ 11 ∷ 0 ∷ 0 ∷ 0 ∷ 0 ∷ 0 ∷ 0 ∷ 0 ∷ 0 ∷ 0 ∷ 0 ∷ 0 ∷ 0 ∷ 0 ∷ 0 ∷ 0
    ∷ 1 ∷ 7 ∷ 0 ∷ 0 ∷ 0 ∷ 0 ∷ 0 ∷ 0 ∷ 2 ∷ 1 ∷ 0 ∷ 0 ∷ 0 ∷ 0 ∷ 0 ∷ 0
    ∷ 6 ∷ 0 ∷ 0 ∷ 0 ∷ 5 ∷ 0 ∷ 0 ∷ 0 ∷ 0 ∷ 0 ∷ 0 ∷ 0 ∷ 0 ∷ 0 ∷ 0 ∷ 0
    ∷ 7 ∷ 7 ∷ 0 ∷ 0 ∷ 5 ∷ 0 ∷ 0 ∷ 0 ∷ 0 ∷ 0 ∷ 0 ∷ 0 ∷ 0 ∷ 0 ∷ 0 ∷ 0
    ∷ 11 ∷ 0 ∷ 0 ∷ 0 ∷ 0 ∷ 0 ∷ 0 ∷ 0 ∷ 0 ∷ 0 ∷ 0 ∷ 0 ∷ 0 ∷ 0 ∷ 0 ∷ 0
    ∷ 11 ∷ 0 ∷ 0 ∷ 0 ∷ 0 ∷ 0 ∷ 0 ∷ 0 ∷ 0 ∷ 0 ∷ 0 ∷ 0 ∷ 0 ∷ 0 ∷ 0 ∷ 0
    ∷ 8 ∷ 0 ∷ 0 ∷ 0 ∷ 5 ∷ 0 ∷ 0 ∷ 0 ∷ 0 ∷ 0 ∷ 0 ∷ 0 ∷ 0 ∷ 0 ∷ 0 ∷ 0
    ∷ 9 ∷ 7 ∷ 0 ∷ 0 ∷ 5 ∷ 0 ∷ 0 ∷ 0 ∷ 0 ∷ 0 ∷ 0 ∷ 0 ∷ 0 ∷ 0 ∷ 0 ∷ 0
    ∷ 11 ∷ 0 ∷ 0 ∷ 0 ∷ 0 ∷ 0 ∷ 0 ∷ 0 ∷ 0 ∷ 0 ∷ 0 ∷ 0 ∷ 0 ∷ 0 ∷ 0 ∷ 0
    ∷ 16 ∷ 0 ∷ 0 ∷ 0 ∷ 5 ∷ 0 ∷ 0 ∷ 0 ∷ 0 ∷ 0 ∷ 0 ∷ 0 ∷ 0 ∷ 0 ∷ 0 ∷ 0
    ∷ 2 ∷ 7 ∷ 5 ∷ 0 ∷ 0 ∷ 0 ∷ 0 ∷ 0 ∷ 128 ∷ 132 ∷ 30 ∷ 0 ∷ 192 ∷ 198 ∷ 45 ∷ 0
    ∷ 3 ∷ 7 ∷ 0 ∷ 29 ∷ 21 ∷ 0 ∷ 0 ∷ 0 ∷ 0 ∷ 0 ∷ 0 ∷ 0 ∷ 0 ∷ 0 ∷ 0 ∷ 0
    ∷ 11 ∷ 0 ∷ 0 ∷ 0 ∷ 0 ∷ 0 ∷ 0 ∷ 0 ∷ 0 ∷ 0 ∷ 0 ∷ 0 ∷ 0 ∷ 0 ∷ 0 ∷ 0
    ∷ 11 ∷ 0 ∷ 0 ∷ 0 ∷ 0 ∷ 0 ∷ 0 ∷ 0 ∷ 0 ∷ 0 ∷ 0 ∷ 0 ∷ 0 ∷ 0 ∷ 0 ∷ 0
    ∷ 10 ∷ 0 ∷ 0 ∷ 0 ∷ 5 ∷ 0 ∷ 0 ∷ 0 ∷ 0 ∷ 0 ∷ 0 ∷ 0 ∷ 0 ∷ 0 ∷ 0 ∷ 0
    ∷ 10 ∷ 0 ∷ 0 ∷ 0 ∷ 21 ∷ 0 ∷ 0 ∷ 0 ∷ 0 ∷ 0 ∷ 0 ∷ 0 ∷ 0 ∷ 0 ∷ 0 ∷ 0
    ∷ 14 ∷ 7 ∷ 0 ∷ 0 ∷ 0 ∷ 0 ∷ 0 ∷ 0 ∷ 0 ∷ 0 ∷ 0 ∷ 0 ∷ 0 ∷ 0 ∷ 0 ∷ 0
    ∷ 1 ∷ 7 ∷ 0 ∷ 0 ∷ 0 ∷ 0 ∷ 0 ∷ 0 ∷ 1 ∷ 0 ∷ 0 ∷ 0 ∷ 0 ∷ 0 ∷ 0 ∷ 0
    ∷ 1 ∷ 7 ∷ 0 ∷ 0 ∷ 0 ∷ 0 ∷ 0 ∷ 1 ∷ 1 ∷ 0 ∷ 0 ∷ 0 ∷ 0 ∷ 0 ∷ 0 ∷ 0
    ∷ 16 ∷ 0 ∷ 0 ∷ 0 ∷ 21 ∷ 1 ∷ 0 ∷ 0 ∷ 0 ∷ 0 ∷ 0 ∷ 0 ∷ 0 ∷ 0 ∷ 0 ∷ 0
    ∷ []

-- a distance of 448, 28 records
abbrev pub long_trailer : List ℕ
long_trailer = 192 ∷ 1 ∷ 0 ∷ 0 ∷ 80 ∷ 65 ∷ 83 ∷ 83 ∷ []

-- the twenty-eight lines
abbrev pub long_listing : List ℕ
long_listing =
    49 ∷ 32 ∷ 48 ∷ 32 ∷ 49 ∷ 48 ∷ 48 ∷ 48 ∷ 48 ∷ 48 ∷ 48 ∷ 10  -- 1 0 1000000
    ∷ 50 ∷ 32 ∷ 48 ∷ 32 ∷ 53 ∷ 10  -- 2 0 5
    ∷ 51 ∷ 32 ∷ 48 ∷ 32 ∷ 48 ∷ 10  -- 3 0 0
    ∷ 52 ∷ 32 ∷ 48 ∷ 32 ∷ 49 ∷ 10  -- 4 0 1
    ∷ 53 ∷ 32 ∷ 48 ∷ 32 ∷ 48 ∷ 10  -- 5 0 0
    ∷ 54 ∷ 32 ∷ 48 ∷ 32 ∷ 48 ∷ 10  -- 6 0 0
    ∷ 55 ∷ 32 ∷ 48 ∷ 32 ∷ 48 ∷ 10  -- 7 0 0
    ∷ 56 ∷ 32 ∷ 48 ∷ 32 ∷ 55 ∷ 48 ∷ 48 ∷ 48 ∷ 48 ∷ 10  -- 8 0 70000
    ∷ 57 ∷ 32 ∷ 51 ∷ 32 ∷ 48 ∷ 10  -- 9 3 0
    ∷ 49 ∷ 48 ∷ 32 ∷ 48 ∷ 32 ∷ 49 ∷ 48 ∷ 48 ∷ 48 ∷ 50 ∷ 54 ∷ 51 ∷ 10  -- 10 0 1000263
    ∷ 49 ∷ 49 ∷ 32 ∷ 48 ∷ 32 ∷ 49 ∷ 10  -- 11 0 1
    ∷ 49 ∷ 50 ∷ 32 ∷ 48 ∷ 32 ∷ 48 ∷ 10  -- 12 0 0
    ∷ 49 ∷ 51 ∷ 32 ∷ 48 ∷ 32 ∷ 48 ∷ 10  -- 13 0 0
    ∷ 49 ∷ 52 ∷ 32 ∷ 48 ∷ 32 ∷ 48 ∷ 10  -- 14 0 0
    ∷ 49 ∷ 53 ∷ 32 ∷ 48 ∷ 32 ∷ 50 ∷ 10  -- 15 0 2
    ∷ 49 ∷ 54 ∷ 32 ∷ 48 ∷ 32 ∷ 48 ∷ 10  -- 16 0 0
    ∷ 49 ∷ 55 ∷ 32 ∷ 48 ∷ 32 ∷ 48 ∷ 10  -- 17 0 0
    ∷ 49 ∷ 56 ∷ 32 ∷ 48 ∷ 32 ∷ 48 ∷ 10  -- 18 0 0
    ∷ 49 ∷ 57 ∷ 32 ∷ 48 ∷ 32 ∷ 50 ∷ 49 ∷ 10  -- 19 0 21
    ∷ 50 ∷ 48 ∷ 32 ∷ 48 ∷ 32 ∷ 48 ∷ 10  -- 20 0 0
    ∷ 50 ∷ 49 ∷ 32 ∷ 48 ∷ 32 ∷ 48 ∷ 10  -- 21 0 0
    ∷ 50 ∷ 50 ∷ 32 ∷ 48 ∷ 32 ∷ 49 ∷ 48 ∷ 48 ∷ 48 ∷ 48 ∷ 48 ∷ 48 ∷ 10  -- 22 0 1000000
    ∷ 50 ∷ 51 ∷ 32 ∷ 51 ∷ 32 ∷ 48 ∷ 10  -- 23 3 0
    ∷ 50 ∷ 52 ∷ 32 ∷ 48 ∷ 32 ∷ 48 ∷ 10  -- 24 0 0
    ∷ 50 ∷ 53 ∷ 32 ∷ 48 ∷ 32 ∷ 48 ∷ 10  -- 25 0 0
    ∷ 50 ∷ 54 ∷ 32 ∷ 52 ∷ 32 ∷ 48 ∷ 10  -- 26 4 0
    ∷ 50 ∷ 55 ∷ 32 ∷ 49 ∷ 32 ∷ 48 ∷ 10  -- 27 1 0
    ∷ 50 ∷ 56 ∷ 32 ∷ 51 ∷ 32 ∷ 48 ∷ 10  -- 28 3 0
    ∷ []

-- "sheet", a space, the number's digit, a newline
abbrev pub refused_sheet : ℕ → List ℕ
refused_sheet digit = 115 ∷ 104 ∷ 101 ∷ 101 ∷ 116 ∷ 32 ∷ digit ∷ 10 ∷ []

-- tick station 3 by 4,660, which is 52 + 256 × 18
abbrev pub one_tick : List ℕ
one_tick = 1 ∷ 3 ∷ 0 ∷ 0 ∷ 0 ∷ 0 ∷ 0 ∷ 0 ∷ 52 ∷ 18 ∷ 0 ∷ 0 ∷ 0 ∷ 0 ∷ 0 ∷ 0 ∷ []

-- tick station 5 by 1,000,000, which is 64 + 256 × 66 + 65,536 × 15
abbrev pub long_tick : List ℕ
long_tick = 1 ∷ 5 ∷ 0 ∷ 0 ∷ 0 ∷ 0 ∷ 0 ∷ 0 ∷ 64 ∷ 66 ∷ 15 ∷ 0 ∷ 0 ∷ 0 ∷ 0 ∷ 0 ∷ []

-- twelve of them, and a distance of 192
abbrev pub twelve_ticks : List ℕ
twelve_ticks = joined (replicate 12 long_tick) ++ (192 ∷ 0 ∷ 0 ∷ 0 ∷ 80 ∷ 65 ∷ 83 ∷ 83 ∷ [])

-- the twelve lines; the last three have numbers of eight digits
abbrev pub twelve_lines : List ℕ
twelve_lines =
    49 ∷ 32 ∷ 48 ∷ 32 ∷ 49 ∷ 48 ∷ 48 ∷ 48 ∷ 48 ∷ 48 ∷ 48 ∷ 10  -- 1 0 1000000
    ∷ 50 ∷ 32 ∷ 48 ∷ 32 ∷ 50 ∷ 48 ∷ 48 ∷ 48 ∷ 48 ∷ 48 ∷ 48 ∷ 10  -- 2 0 2000000
    ∷ 51 ∷ 32 ∷ 48 ∷ 32 ∷ 51 ∷ 48 ∷ 48 ∷ 48 ∷ 48 ∷ 48 ∷ 48 ∷ 10  -- 3 0 3000000
    ∷ 52 ∷ 32 ∷ 48 ∷ 32 ∷ 52 ∷ 48 ∷ 48 ∷ 48 ∷ 48 ∷ 48 ∷ 48 ∷ 10  -- 4 0 4000000
    ∷ 53 ∷ 32 ∷ 48 ∷ 32 ∷ 53 ∷ 48 ∷ 48 ∷ 48 ∷ 48 ∷ 48 ∷ 48 ∷ 10  -- 5 0 5000000
    ∷ 54 ∷ 32 ∷ 48 ∷ 32 ∷ 54 ∷ 48 ∷ 48 ∷ 48 ∷ 48 ∷ 48 ∷ 48 ∷ 10  -- 6 0 6000000
    ∷ 55 ∷ 32 ∷ 48 ∷ 32 ∷ 55 ∷ 48 ∷ 48 ∷ 48 ∷ 48 ∷ 48 ∷ 48 ∷ 10  -- 7 0 7000000
    ∷ 56 ∷ 32 ∷ 48 ∷ 32 ∷ 56 ∷ 48 ∷ 48 ∷ 48 ∷ 48 ∷ 48 ∷ 48 ∷ 10  -- 8 0 8000000
    ∷ 57 ∷ 32 ∷ 48 ∷ 32 ∷ 57 ∷ 48 ∷ 48 ∷ 48 ∷ 48 ∷ 48 ∷ 48 ∷ 10  -- 9 0 9000000
    ∷ 49 ∷ 48 ∷ 32 ∷ 48 ∷ 32 ∷ 49 ∷ 48 ∷ 48 ∷ 48 ∷ 48 ∷ 48 ∷ 48 ∷ 48 ∷ 10  -- 10 0 10000000
    ∷ 49 ∷ 49 ∷ 32 ∷ 48 ∷ 32 ∷ 49 ∷ 49 ∷ 48 ∷ 48 ∷ 48 ∷ 48 ∷ 48 ∷ 48 ∷ 10  -- 11 0 11000000
    ∷ 49 ∷ 50 ∷ 32 ∷ 48 ∷ 32 ∷ 49 ∷ 50 ∷ 48 ∷ 48 ∷ 48 ∷ 48 ∷ 48 ∷ 48 ∷ 10  -- 12 0 12000000
    ∷ []

abbrev pub sheet_rows : List Row
sheet_rows =
    -- a heading of five bytes, and a listing of more than twenty lines
    sheet (heading ++ long_records ++ long_trailer) long_listing
    -- a heading alone: 8 bytes and more are taken, and no record is no line
    ∷ sheet (heading ++ (0 ∷ 0 ∷ 0 ∷ 0 ∷ 80 ∷ 65 ∷ 83 ∷ 83 ∷ [])) []
    -- one record and no heading: "1 0 4660"
    ∷ sheet (one_tick ++ (16 ∷ 0 ∷ 0 ∷ 0 ∷ 80 ∷ 65 ∷ 83 ∷ 83 ∷ [])) (49 ∷ 32 ∷ 48 ∷ 32 ∷ 52 ∷ 54 ∷ 54 ∷ 48 ∷ 10 ∷ [])
    -- twelve ticks of one station
    ∷ sheet twelve_ticks twelve_lines
    -- 2: seven bytes
    ∷ sheet (0 ∷ 0 ∷ 0 ∷ 80 ∷ 65 ∷ 83 ∷ 83 ∷ []) (refused_sheet 50)
    -- 3: the mark's last letter is another
    ∷ sheet (one_tick ++ (16 ∷ 0 ∷ 0 ∷ 0 ∷ 80 ∷ 65 ∷ 83 ∷ 84 ∷ [])) (refused_sheet 51)
    -- 3 before 4: mark and distance are wrong
    ∷ sheet (one_tick ++ (17 ∷ 0 ∷ 0 ∷ 0 ∷ 81 ∷ 65 ∷ 83 ∷ 83 ∷ [])) (refused_sheet 51)
    -- 4: no multiple of 16
    ∷ sheet (one_tick ++ (8 ∷ 0 ∷ 0 ∷ 0 ∷ 80 ∷ 65 ∷ 83 ∷ 83 ∷ [])) (refused_sheet 52)
    -- 4: more than precedes the trailer
    ∷ sheet (one_tick ++ (32 ∷ 0 ∷ 0 ∷ 0 ∷ 80 ∷ 65 ∷ 83 ∷ 83 ∷ [])) (refused_sheet 52)
    -- 4: 16 and 65,536 more, 16 and 16,777,216 more
    ∷ sheet (one_tick ++ (16 ∷ 0 ∷ 1 ∷ 0 ∷ 80 ∷ 65 ∷ 83 ∷ 83 ∷ [])) (refused_sheet 52)
    ∷ sheet (one_tick ++ (16 ∷ 0 ∷ 0 ∷ 1 ∷ 80 ∷ 65 ∷ 83 ∷ 83 ∷ [])) (refused_sheet 52)
    ∷ []

-- every listing is as the two documents say
pub sheets_hold : map found sheet_rows ≡ map wanted sheet_rows
unfolding found wanted
sheets_hold = refl

-- 1, of any sheet that is too long: no such sheet is computed
pub listing_of_too_long : (bytes : List ℕ) → 65536 < length bytes → listing_of bytes ≡ refused_sheet 49
unfolding listing_of sheet_answer spelt
listing_of_too_long bytes long = rw (lt-ltb sheet_most (length bytes) long) refl
