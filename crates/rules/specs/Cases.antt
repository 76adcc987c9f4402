-- The starred cases of "Both sides of each edge", and the bench listing both ways, computed from the definitions: one table, one claim.
-- A row has the records from the start, what each answers, and what the tables then hold where the row says so.
-- A sheet row has a whole sheet and the bytes of its listing. Assumes nothing.
use Rattle.std.specs.Prelude.{ℕ, ◌≡◌, refl, List, [], ◌∷◌, map, replicate}
use Rattle.rules.specs.Types.{Step}
use Rattle.rules.specs.Record.{record_of_step}
use Rattle.rules.specs.Rows.{Row, clock, width, mail, post, run, sheet, accepted, refused, found, wanted}

abbrev pub begins : ℕ → ℕ → List ℕ
begins q r = record_of_step (Step.Begin 0 0 q r)

abbrev pub bench_records : List (List ℕ)
bench_records =
    record_of_step (Step.Begin 0 0 100 150)
    ∷ record_of_step (Step.Invoke 0 0 0 4 0)
    ∷ record_of_step (Step.Deliver 0)
    ∷ record_of_step (Step.Begin 1 1 90 140)
    ∷ record_of_step (Step.Invoke 1 1 1 4 12500)
    ∷ record_of_step (Step.Deliver 0)
    ∷ record_of_step (Step.Abort 0)
    ∷ record_of_step (Step.Terminate 0)
    ∷ record_of_step (Step.Close 0)
    ∷ record_of_step (Step.Ask 0 1)
    ∷ record_of_step (Step.Deliver 1)
    ∷ record_of_step (Step.Deliver 1)
    ∷ record_of_step (Step.Close 0)
    ∷ record_of_step (Step.Tell 0 1)
    ∷ record_of_step (Step.Deliver 1)
    ∷ record_of_step (Step.Sweep 1)
    ∷ record_of_step (Step.Deliver 0)
    ∷ []

-- since request c the reply of record 3 keeps slot 0, so the write goes out in slot 1
abbrev pub bench_answers : List (List ℕ)
bench_answers =
    accepted 0
    ∷ accepted 0
    ∷ accepted 0
    ∷ accepted 1
    ∷ accepted 1
    ∷ accepted 0
    ∷ accepted 0
    ∷ accepted 1
    ∷ refused 12
    ∷ accepted 0
    ∷ refused 10
    ∷ refused 10
    ∷ refused 12
    ∷ refused 5
    ∷ refused 10
    ∷ accepted 0
    ∷ accepted 0
    ∷ []

-- the bytes of the seventeen lines, one row each
abbrev pub bench_listing : List ℕ
bench_listing =
    49 ∷ 32 ∷ 48 ∷ 32 ∷ 48 ∷ 10
    ∷ 50 ∷ 32 ∷ 48 ∷ 32 ∷ 48 ∷ 10
    ∷ 51 ∷ 32 ∷ 48 ∷ 32 ∷ 48 ∷ 10
    ∷ 52 ∷ 32 ∷ 48 ∷ 32 ∷ 49 ∷ 10
    ∷ 53 ∷ 32 ∷ 48 ∷ 32 ∷ 49 ∷ 10
    ∷ 54 ∷ 32 ∷ 48 ∷ 32 ∷ 48 ∷ 10
    ∷ 55 ∷ 32 ∷ 48 ∷ 32 ∷ 48 ∷ 10
    ∷ 56 ∷ 32 ∷ 48 ∷ 32 ∷ 49 ∷ 10
    ∷ 57 ∷ 32 ∷ 49 ∷ 50 ∷ 32 ∷ 48 ∷ 10
    ∷ 49 ∷ 48 ∷ 32 ∷ 48 ∷ 32 ∷ 48 ∷ 10
    ∷ 49 ∷ 49 ∷ 32 ∷ 49 ∷ 48 ∷ 32 ∷ 48 ∷ 10
    ∷ 49 ∷ 50 ∷ 32 ∷ 49 ∷ 48 ∷ 32 ∷ 48 ∷ 10
    ∷ 49 ∷ 51 ∷ 32 ∷ 49 ∷ 50 ∷ 32 ∷ 48 ∷ 10
    ∷ 49 ∷ 52 ∷ 32 ∷ 53 ∷ 32 ∷ 48 ∷ 10
    ∷ 49 ∷ 53 ∷ 32 ∷ 49 ∷ 48 ∷ 32 ∷ 48 ∷ 10
    ∷ 49 ∷ 54 ∷ 32 ∷ 48 ∷ 32 ∷ 48 ∷ 10
    ∷ 49 ∷ 55 ∷ 32 ∷ 48 ∷ 32 ∷ 48 ∷ 10
    ∷ []

-- the same seventeen records byte by byte, as document 01 lays a record out: "no heading, trailer 10 01 00 00 50 41 53 53"
abbrev pub bench_sheet : List ℕ
bench_sheet =
    2 ∷ 0 ∷ 0 ∷ 0 ∷ 0 ∷ 0 ∷ 0 ∷ 0 ∷ 100 ∷ 0 ∷ 0 ∷ 0 ∷ 150 ∷ 0 ∷ 0 ∷ 0
    ∷ 3 ∷ 0 ∷ 0 ∷ 4 ∷ 0 ∷ 0 ∷ 0 ∷ 0 ∷ 0 ∷ 0 ∷ 0 ∷ 0 ∷ 0 ∷ 0 ∷ 0 ∷ 0
    ∷ 11 ∷ 0 ∷ 0 ∷ 0 ∷ 0 ∷ 0 ∷ 0 ∷ 0 ∷ 0 ∷ 0 ∷ 0 ∷ 0 ∷ 0 ∷ 0 ∷ 0 ∷ 0
    ∷ 2 ∷ 1 ∷ 1 ∷ 0 ∷ 0 ∷ 0 ∷ 0 ∷ 0 ∷ 90 ∷ 0 ∷ 0 ∷ 0 ∷ 140 ∷ 0 ∷ 0 ∷ 0
    ∷ 3 ∷ 1 ∷ 1 ∷ 4 ∷ 1 ∷ 0 ∷ 0 ∷ 0 ∷ 212 ∷ 48 ∷ 0 ∷ 0 ∷ 0 ∷ 0 ∷ 0 ∷ 0
    ∷ 11 ∷ 0 ∷ 0 ∷ 0 ∷ 0 ∷ 0 ∷ 0 ∷ 0 ∷ 0 ∷ 0 ∷ 0 ∷ 0 ∷ 0 ∷ 0 ∷ 0 ∷ 0
    ∷ 10 ∷ 0 ∷ 0 ∷ 0 ∷ 0 ∷ 0 ∷ 0 ∷ 0 ∷ 0 ∷ 0 ∷ 0 ∷ 0 ∷ 0 ∷ 0 ∷ 0 ∷ 0
    ∷ 5 ∷ 0 ∷ 0 ∷ 0 ∷ 0 ∷ 0 ∷ 0 ∷ 0 ∷ 0 ∷ 0 ∷ 0 ∷ 0 ∷ 0 ∷ 0 ∷ 0 ∷ 0
    ∷ 8 ∷ 0 ∷ 0 ∷ 0 ∷ 0 ∷ 0 ∷ 0 ∷ 0 ∷ 0 ∷ 0 ∷ 0 ∷ 0 ∷ 0 ∷ 0 ∷ 0 ∷ 0
    ∷ 7 ∷ 1 ∷ 0 ∷ 0 ∷ 0 ∷ 0 ∷ 0 ∷ 0 ∷ 0 ∷ 0 ∷ 0 ∷ 0 ∷ 0 ∷ 0 ∷ 0 ∷ 0
    ∷ 11 ∷ 0 ∷ 0 ∷ 1 ∷ 0 ∷ 0 ∷ 0 ∷ 0 ∷ 0 ∷ 0 ∷ 0 ∷ 0 ∷ 0 ∷ 0 ∷ 0 ∷ 0
    ∷ 11 ∷ 0 ∷ 0 ∷ 1 ∷ 0 ∷ 0 ∷ 0 ∷ 0 ∷ 0 ∷ 0 ∷ 0 ∷ 0 ∷ 0 ∷ 0 ∷ 0 ∷ 0
    ∷ 8 ∷ 0 ∷ 0 ∷ 0 ∷ 0 ∷ 0 ∷ 0 ∷ 0 ∷ 0 ∷ 0 ∷ 0 ∷ 0 ∷ 0 ∷ 0 ∷ 0 ∷ 0
    ∷ 9 ∷ 1 ∷ 0 ∷ 0 ∷ 0 ∷ 0 ∷ 0 ∷ 0 ∷ 0 ∷ 0 ∷ 0 ∷ 0 ∷ 0 ∷ 0 ∷ 0 ∷ 0
    ∷ 11 ∷ 0 ∷ 0 ∷ 1 ∷ 0 ∷ 0 ∷ 0 ∷ 0 ∷ 0 ∷ 0 ∷ 0 ∷ 0 ∷ 0 ∷ 0 ∷ 0 ∷ 0
    ∷ 13 ∷ 1 ∷ 0 ∷ 0 ∷ 0 ∷ 0 ∷ 0 ∷ 0 ∷ 0 ∷ 0 ∷ 0 ∷ 0 ∷ 0 ∷ 0 ∷ 0 ∷ 0
    ∷ 11 ∷ 0 ∷ 0 ∷ 0 ∷ 0 ∷ 0 ∷ 0 ∷ 0 ∷ 0 ∷ 0 ∷ 0 ∷ 0 ∷ 0 ∷ 0 ∷ 0 ∷ 0
    ∷ 0x10 ∷ 0x01 ∷ 0x00 ∷ 0x00 ∷ 0x50 ∷ 0x41 ∷ 0x53 ∷ 0x53
    ∷ []

-- ---- the same story with each reply collected: deliver 0 once more after record 3 and at the end

abbrev pub bench_replies_records : List (List ℕ)
bench_replies_records =
    record_of_step (Step.Begin 0 0 100 150)
    ∷ record_of_step (Step.Invoke 0 0 0 4 0)
    ∷ record_of_step (Step.Deliver 0)
    ∷ record_of_step (Step.Deliver 0)
    ∷ record_of_step (Step.Begin 1 1 90 140)
    ∷ record_of_step (Step.Invoke 1 1 1 4 12500)
    ∷ record_of_step (Step.Deliver 0)
    ∷ record_of_step (Step.Abort 0)
    ∷ record_of_step (Step.Terminate 0)
    ∷ record_of_step (Step.Close 0)
    ∷ record_of_step (Step.Ask 0 1)
    ∷ record_of_step (Step.Deliver 1)
    ∷ record_of_step (Step.Deliver 1)
    ∷ record_of_step (Step.Close 0)
    ∷ record_of_step (Step.Tell 0 1)
    ∷ record_of_step (Step.Deliver 1)
    ∷ record_of_step (Step.Sweep 1)
    ∷ record_of_step (Step.Deliver 0)
    ∷ record_of_step (Step.Deliver 0)
    ∷ []

abbrev pub bench_replies_answers : List (List ℕ)
bench_replies_answers =
    accepted 0
    ∷ accepted 0
    ∷ accepted 0
    ∷ accepted 0
    ∷ accepted 1
    ∷ accepted 0
    ∷ refused 10
    ∷ accepted 0
    ∷ accepted 1
    ∷ refused 12
    ∷ accepted 1
    ∷ accepted 0
    ∷ accepted 0
    ∷ accepted 2
    ∷ accepted 1
    ∷ accepted 0
    ∷ accepted 1
    ∷ accepted 0
    ∷ accepted 0
    ∷ []

-- the bytes of the nineteen lines, one row each
abbrev pub bench_replies_listing : List ℕ
bench_replies_listing =
    49 ∷ 32 ∷ 48 ∷ 32 ∷ 48 ∷ 10
    ∷ 50 ∷ 32 ∷ 48 ∷ 32 ∷ 48 ∷ 10
    ∷ 51 ∷ 32 ∷ 48 ∷ 32 ∷ 48 ∷ 10
    ∷ 52 ∷ 32 ∷ 48 ∷ 32 ∷ 48 ∷ 10
    ∷ 53 ∷ 32 ∷ 48 ∷ 32 ∷ 49 ∷ 10
    ∷ 54 ∷ 32 ∷ 48 ∷ 32 ∷ 48 ∷ 10
    ∷ 55 ∷ 32 ∷ 49 ∷ 48 ∷ 32 ∷ 48 ∷ 10
    ∷ 56 ∷ 32 ∷ 48 ∷ 32 ∷ 48 ∷ 10
    ∷ 57 ∷ 32 ∷ 48 ∷ 32 ∷ 49 ∷ 10
    ∷ 49 ∷ 48 ∷ 32 ∷ 49 ∷ 50 ∷ 32 ∷ 48 ∷ 10
    ∷ 49 ∷ 49 ∷ 32 ∷ 48 ∷ 32 ∷ 49 ∷ 10
    ∷ 49 ∷ 50 ∷ 32 ∷ 48 ∷ 32 ∷ 48 ∷ 10
    ∷ 49 ∷ 51 ∷ 32 ∷ 48 ∷ 32 ∷ 48 ∷ 10
    ∷ 49 ∷ 52 ∷ 32 ∷ 48 ∷ 32 ∷ 50 ∷ 10
    ∷ 49 ∷ 53 ∷ 32 ∷ 48 ∷ 32 ∷ 49 ∷ 10
    ∷ 49 ∷ 54 ∷ 32 ∷ 48 ∷ 32 ∷ 48 ∷ 10
    ∷ 49 ∷ 55 ∷ 32 ∷ 48 ∷ 32 ∷ 49 ∷ 10
    ∷ 49 ∷ 56 ∷ 32 ∷ 48 ∷ 32 ∷ 48 ∷ 10
    ∷ 49 ∷ 57 ∷ 32 ∷ 48 ∷ 32 ∷ 48 ∷ 10
    ∷ []

-- the nineteen records byte by byte, trailer 30 01 00 00 50 41 53 53
abbrev pub bench_replies_sheet : List ℕ
bench_replies_sheet =
    2 ∷ 0 ∷ 0 ∷ 0 ∷ 0 ∷ 0 ∷ 0 ∷ 0 ∷ 100 ∷ 0 ∷ 0 ∷ 0 ∷ 150 ∷ 0 ∷ 0 ∷ 0
    ∷ 3 ∷ 0 ∷ 0 ∷ 4 ∷ 0 ∷ 0 ∷ 0 ∷ 0 ∷ 0 ∷ 0 ∷ 0 ∷ 0 ∷ 0 ∷ 0 ∷ 0 ∷ 0
    ∷ 11 ∷ 0 ∷ 0 ∷ 0 ∷ 0 ∷ 0 ∷ 0 ∷ 0 ∷ 0 ∷ 0 ∷ 0 ∷ 0 ∷ 0 ∷ 0 ∷ 0 ∷ 0
    ∷ 11 ∷ 0 ∷ 0 ∷ 0 ∷ 0 ∷ 0 ∷ 0 ∷ 0 ∷ 0 ∷ 0 ∷ 0 ∷ 0 ∷ 0 ∷ 0 ∷ 0 ∷ 0
    ∷ 2 ∷ 1 ∷ 1 ∷ 0 ∷ 0 ∷ 0 ∷ 0 ∷ 0 ∷ 90 ∷ 0 ∷ 0 ∷ 0 ∷ 140 ∷ 0 ∷ 0 ∷ 0
    ∷ 3 ∷ 1 ∷ 1 ∷ 4 ∷ 1 ∷ 0 ∷ 0 ∷ 0 ∷ 212 ∷ 48 ∷ 0 ∷ 0 ∷ 0 ∷ 0 ∷ 0 ∷ 0
    ∷ 11 ∷ 0 ∷ 0 ∷ 0 ∷ 0 ∷ 0 ∷ 0 ∷ 0 ∷ 0 ∷ 0 ∷ 0 ∷ 0 ∷ 0 ∷ 0 ∷ 0 ∷ 0
    ∷ 10 ∷ 0 ∷ 0 ∷ 0 ∷ 0 ∷ 0 ∷ 0 ∷ 0 ∷ 0 ∷ 0 ∷ 0 ∷ 0 ∷ 0 ∷ 0 ∷ 0 ∷ 0
    ∷ 5 ∷ 0 ∷ 0 ∷ 0 ∷ 0 ∷ 0 ∷ 0 ∷ 0 ∷ 0 ∷ 0 ∷ 0 ∷ 0 ∷ 0 ∷ 0 ∷ 0 ∷ 0
    ∷ 8 ∷ 0 ∷ 0 ∷ 0 ∷ 0 ∷ 0 ∷ 0 ∷ 0 ∷ 0 ∷ 0 ∷ 0 ∷ 0 ∷ 0 ∷ 0 ∷ 0 ∷ 0
    ∷ 7 ∷ 1 ∷ 0 ∷ 0 ∷ 0 ∷ 0 ∷ 0 ∷ 0 ∷ 0 ∷ 0 ∷ 0 ∷ 0 ∷ 0 ∷ 0 ∷ 0 ∷ 0
    ∷ 11 ∷ 0 ∷ 0 ∷ 1 ∷ 0 ∷ 0 ∷ 0 ∷ 0 ∷ 0 ∷ 0 ∷ 0 ∷ 0 ∷ 0 ∷ 0 ∷ 0 ∷ 0
    ∷ 11 ∷ 0 ∷ 0 ∷ 1 ∷ 0 ∷ 0 ∷ 0 ∷ 0 ∷ 0 ∷ 0 ∷ 0 ∷ 0 ∷ 0 ∷ 0 ∷ 0 ∷ 0
    ∷ 8 ∷ 0 ∷ 0 ∷ 0 ∷ 0 ∷ 0 ∷ 0 ∷ 0 ∷ 0 ∷ 0 ∷ 0 ∷ 0 ∷ 0 ∷ 0 ∷ 0 ∷ 0
    ∷ 9 ∷ 1 ∷ 0 ∷ 0 ∷ 0 ∷ 0 ∷ 0 ∷ 0 ∷ 0 ∷ 0 ∷ 0 ∷ 0 ∷ 0 ∷ 0 ∷ 0 ∷ 0
    ∷ 11 ∷ 0 ∷ 0 ∷ 1 ∷ 0 ∷ 0 ∷ 0 ∷ 0 ∷ 0 ∷ 0 ∷ 0 ∷ 0 ∷ 0 ∷ 0 ∷ 0 ∷ 0
    ∷ 13 ∷ 1 ∷ 0 ∷ 0 ∷ 0 ∷ 0 ∷ 0 ∷ 0 ∷ 0 ∷ 0 ∷ 0 ∷ 0 ∷ 0 ∷ 0 ∷ 0 ∷ 0
    ∷ 11 ∷ 0 ∷ 0 ∷ 0 ∷ 0 ∷ 0 ∷ 0 ∷ 0 ∷ 0 ∷ 0 ∷ 0 ∷ 0 ∷ 0 ∷ 0 ∷ 0 ∷ 0
    ∷ 11 ∷ 0 ∷ 0 ∷ 0 ∷ 0 ∷ 0 ∷ 0 ∷ 0 ∷ 0 ∷ 0 ∷ 0 ∷ 0 ∷ 0 ∷ 0 ∷ 0 ∷ 0
    ∷ 0x30 ∷ 0x01 ∷ 0x00 ∷ 0x00 ∷ 0x50 ∷ 0x41 ∷ 0x53 ∷ 0x53
    ∷ []

-- ---- where a reply goes, and when it comes

-- home 0 writes object 4 and reads it; its clock passes Q before the second reply is collected
abbrev found_records : List (List ℕ)
found_records =
    begins 10 50
    ∷ record_of_step (Step.Invoke 0 0 1 4 12500)
    ∷ record_of_step (Step.Deliver 0)
    ∷ record_of_step (Step.Deliver 0)
    ∷ record_of_step (Step.Invoke 0 0 0 4 0)
    ∷ record_of_step (Step.Deliver 0)
    ∷ record_of_step (Step.Tick 0 100)
    ∷ record_of_step (Step.Deliver 0)
    ∷ []

abbrev found_answers : List (List ℕ)
found_answers =
    accepted 0
    ∷ accepted 0
    ∷ accepted 0
    ∷ accepted 0
    ∷ accepted 0
    ∷ accepted 0
    ∷ accepted 105
    ∷ accepted 12500
    ∷ []

-- home 0 calls site 1, and the visit there calls site 2
abbrev away_records : List (List ℕ)
away_records =
    begins 100 150
    ∷ record_of_step (Step.Invoke 0 0 0 4 0)
    ∷ record_of_step (Step.Deliver 0)
    ∷ record_of_step (Step.Deliver 0)
    ∷ record_of_step (Step.Invoke 0 1 0 8 0)
    ∷ record_of_step (Step.Deliver 0)
    ∷ []

abbrev away_answers : List (List ℕ)
away_answers = accepted 0 ∷ accepted 0 ∷ accepted 0 ∷ accepted 0 ∷ accepted 0 ∷ accepted 0 ∷ []

-- of two calls to site 1 the first is lost
abbrev higher_records : List (List ℕ)
higher_records =
    begins 100 150
    ∷ record_of_step (Step.Invoke 0 0 0 4 0)
    ∷ record_of_step (Step.Invoke 0 0 0 5 0)
    ∷ record_of_step (Step.Drop 0)
    ∷ record_of_step (Step.Deliver 1)
    ∷ []

abbrev higher_answers : List (List ℕ)
higher_answers = accepted 0 ∷ accepted 0 ∷ accepted 1 ∷ accepted 0 ∷ accepted 0 ∷ []

-- ---- the table

abbrev pub cases : List Row
cases =
    -- begin Q=1 at clock 0: 8
    run (begins 1 50 ∷ []) (refused 8 ∷ []) []
    -- Q=2: accepted
    ∷ run (begins 2 50 ∷ []) (accepted 0 ∷ []) (clock 0 1 ∷ [])
    -- Q=R=2: accepted
    ∷ run (begins 2 2 ∷ []) (accepted 0 ∷ []) (clock 0 1 ∷ [])
    -- Q=3, R=2: 2
    ∷ run (begins 3 2 ∷ []) (refused 2 ∷ []) []
    -- R=1,000,000,001: 2
    ∷ run (begins 1 1000000001 ∷ []) (refused 2 ∷ []) []
    -- tick 0: 2
    ∷ run (record_of_step (Step.Tick 0 0) ∷ []) (refused 2 ∷ []) (clock 0 0 ∷ [])
    -- tick 1,000,000: value 1,000,000
    ∷ run (record_of_step (Step.Tick 0 1000000) ∷ []) (accepted 1000000 ∷ []) (clock 0 1000000 ∷ [])
    -- recover 0: 5
    ∷ run (record_of_step (Step.Recover 0) ∷ []) (refused 5 ∷ []) (clock 0 0 ∷ [])
    -- deliver 0: 3
    ∷ run (record_of_step (Step.Deliver 0) ∷ []) (refused 3 ∷ []) []
    -- sweep 0: value 0, clock 1
    ∷ run (record_of_step (Step.Sweep 0) ∷ []) (accepted 0 ∷ []) (clock 0 1 ∷ [])
    -- code 17: 1
    ∷ run ((17 ∷ replicate 15 0) ∷ []) (refused 1 ∷ []) []
    -- the bench listing, since request c: clocks 0 and 1 are 7 and 8, object 4 is 0, an answer and the write's call are in flight
    ∷ run
    bench_records
    bench_answers
    (clock 0 7 ∷ clock 1 8 ∷ width 4 0 ∷ mail 0 1 ∷ post 0 1 0 0 8 ∷ mail 1 1 ∷ post 1 1 1 1 5 ∷ mail 2 0 ∷ [])
    -- the same as a sheet, from its bytes to the bytes of its listing
    ∷ sheet bench_sheet bench_listing
    -- with each reply collected: clocks 0 and 1 are 11 and 15, object 4 is 12,500, and no message is left
    ∷ run bench_replies_records bench_replies_answers (clock 0 11 ∷ clock 1 15 ∷ width 4 12500 ∷ mail 0 0 ∷ mail 1 0 ∷ [])
    ∷ sheet bench_replies_sheet bench_replies_listing
    -- a write's reply has the value before it; a read's comes past Q, with what the read found
    ∷ run found_records found_answers (clock 0 106 ∷ clock 1 6 ∷ width 4 12500 ∷ mail 0 0 ∷ [])
    -- a reply goes to the site that called, home or not
    ∷ run away_records away_answers (clock 0 4 ∷ clock 1 4 ∷ clock 2 5 ∷ mail 0 1 ∷ post 0 2 1 0 5 ∷ [])
    -- and stands in its call's slot, where a lower one is empty too
    ∷ run higher_records higher_answers (clock 0 3 ∷ clock 1 4 ∷ mail 0 0 ∷ mail 1 1 ∷ post 1 1 0 0 4 ∷ [])
    ∷ []

-- every case is as the documents say
pub cases_hold : map found cases ≡ map wanted cases
unfolding found wanted
cases_hold = refl
