-- The second table of cases, commits: what a crew writes at several stations stands together, and another passage reads it.
-- The answers were worked out by hand from the two documents; a clock beside a line is that of the acting station after it. Assumes nothing.
use Rattle.std.specs.Prelude.{◌≡◌, refl, List, [], ◌∷◌, ◌++◌, map, Some, None}
use Rattle.trials.specs.Types.{Phase, Status, Step}
use Rattle.rules.specs.Rows.{Row, Line, ◌gives◌, ◌refused_by◌, lines, clock, width, holder, before, status, generation, round, visit, unvisited, prepared, sent, found, wanted}

-- home 3, slot 5: writes at stations 7, 2 and 3, of 1,000,000, 23,456 and 4,321 mm
abbrev pub crew_writes : List Line
crew_writes =
    Step.Begin 3 5 1000 1010 gives 5  -- clock 3: 1
    ∷ Step.Invoke 5 3 1 29 1000000 gives 0  -- 2
    ∷ Step.Invoke 5 3 1 9 23456 gives 1  -- 3
    ∷ Step.Invoke 5 3 1 13 4321 gives 2  -- 4
    ∷ Step.Deliver 2 gives 0  -- 5
    ∷ Step.Deliver 2 gives 0  -- 6
    ∷ Step.Deliver 1 gives 0  -- clock 2: 4
    ∷ Step.Deliver 1 gives 0  -- clock 3: 7
    ∷ Step.Deliver 0 gives 0  -- clock 7: 3
    ∷ Step.Deliver 0 gives 0  -- clock 3: 8
    ∷ []

-- the round waits for both stations, each called once: 12 until the second has answered
abbrev pub crew_commits : List Line
crew_commits =
    Step.Close 5 refused_by 5
    ∷ Step.Prepare 5 gives 1  -- clock 3: 9
    ∷ Step.Close 5 refused_by 12
    ∷ Step.Ask 5 2 gives 0  -- 10
    ∷ Step.Ask 5 7 gives 1  -- 11
    ∷ Step.Deliver 0 gives 0  -- clock 2: 11
    ∷ Step.Deliver 0 gives 0  -- clock 3: 12
    ∷ Step.Close 5 refused_by 12
    ∷ Step.Deliver 1 gives 0  -- clock 7: 12
    ∷ Step.Deliver 1 gives 0  -- clock 3: 13
    ∷ Step.Close 5 gives 3  -- 14
    ∷ Step.Tell 5 7 gives 0  -- 15
    ∷ Step.Tell 5 2 gives 1  -- 16
    ∷ []

-- home 6, slot 9: a read is refused by 10 until station 7 has its word, then it reads what was written
abbrev pub check_reads : List Line
check_reads =
    Step.Begin 6 9 500 600 gives 9  -- clock 6: 1
    ∷ Step.Invoke 9 6 0 29 0 gives 2  -- 2
    ∷ Step.Deliver 2 refused_by 10
    ∷ Step.Deliver 0 gives 0  -- clock 7: 16
    ∷ Step.Deliver 2 gives 0  -- 17
    ∷ Step.Deliver 2 gives 1000000  -- clock 6: 18
    ∷ Step.Deliver 1 gives 0  -- clock 2: 17
    ∷ Step.Invoke 9 6 0 9 0 gives 0  -- clock 6: 19
    ∷ Step.Deliver 0 gives 0  -- clock 2: 20
    ∷ Step.Deliver 0 gives 23456  -- clock 6: 21
    ∷ []

-- the old handle is refused by 3, while the slot is free and when it is used again; 21 is slot 5 in generation 1
abbrev pub slot_used_again : List Line
slot_used_again =
    Step.Retire 5 gives 0
    ∷ Step.Abort 5 refused_by 3
    ∷ Step.Begin 3 5 1000 1020 gives 21  -- clock 3: 17
    ∷ Step.Invoke 5 3 0 13 0 refused_by 3
    ∷ Step.Refresh 5 2000 2010 refused_by 3
    ∷ Step.Terminate 5 refused_by 3
    ∷ Step.Prepare 5 refused_by 3
    ∷ Step.Ask 5 2 refused_by 3
    ∷ Step.Close 5 refused_by 3
    ∷ Step.Tell 5 2 refused_by 3
    ∷ Step.Abort 5 refused_by 3
    ∷ Step.Retire 5 refused_by 3
    ∷ Step.Invoke 21 3 0 13 0 gives 0  -- 18
    ∷ Step.Deliver 0 gives 0  -- 19
    ∷ Step.Deliver 0 gives 4321  -- 20
    ∷ []

-- home 4, slot 15: a refresh of stations 4 and 5 is closed and told, and both are used after the old Q, 20, and the old R, 40
abbrev pub first_refresh : List Line
first_refresh =
    Step.Begin 4 15 20 40 gives 15  -- clock 4: 1
    ∷ Step.Invoke 15 4 1 22 2500 gives 0  -- 2
    ∷ Step.Deliver 0 gives 0  -- clock 5: 3
    ∷ Step.Deliver 0 gives 0  -- clock 4: 4
    ∷ Step.Refresh 15 60 90 gives 1  -- 5
    ∷ Step.Ask 15 5 gives 0  -- 6
    ∷ Step.Deliver 0 gives 0  -- clock 5: 7
    ∷ Step.Deliver 0 gives 0  -- clock 4: 8
    ∷ Step.Close 15 gives 2  -- 9
    ∷ Step.Tell 15 5 gives 0  -- 10
    ∷ Step.Tick 5 40 gives 47
    ∷ Step.Tick 4 40 gives 50
    -- station 5 has not been told yet
    ∷ Step.Invoke 15 5 0 30 0 refused_by 8
    ∷ Step.Deliver 0 gives 0  -- clock 5: 48
    -- a call from a station that is not home, to station 7
    ∷ Step.Invoke 15 5 0 30 0 gives 0  -- 49
    ∷ Step.Deliver 0 gives 0  -- clock 7: 50
    ∷ Step.Deliver 0 gives 0  -- clock 5: 51
    ∷ Step.Sweep 5 gives 0  -- 52
    ∷ []

-- round 2, over three stations; the word to station 7 is dropped, so its old Q, 60, stays
abbrev pub second_refresh : List Line
second_refresh =
    Step.Refresh 15 500 600 gives 2  -- clock 4: 51
    ∷ Step.Ask 15 7 gives 0  -- 52
    ∷ Step.Ask 15 5 gives 1  -- 53
    ∷ Step.Deliver 0 gives 0  -- clock 7: 53
    ∷ Step.Deliver 1 gives 0  -- clock 5: 54
    ∷ Step.Deliver 0 gives 0  -- clock 4: 54
    ∷ Step.Deliver 1 gives 0  -- 55
    ∷ Step.Close 15 gives 3  -- 56
    ∷ Step.Tell 15 7 gives 0  -- 57
    ∷ Step.Tell 15 5 gives 1  -- 58
    ∷ Step.Drop 0 gives 0
    ∷ Step.Deliver 1 gives 0  -- clock 5: 59
    ∷ Step.Tick 7 40 gives 93
    ∷ Step.Invoke 15 7 0 30 0 refused_by 8
    ∷ Step.Invoke 15 5 1 22 1234 gives 0  -- clock 5: 60
    ∷ Step.Deliver 0 gives 0  -- 61
    ∷ Step.Deliver 0 gives 2500  -- 62
    ∷ []

-- round 3: two calls to station 5, one from home and one from itself, and one to station 7, from station 5
abbrev pub refreshed_commit : List Line
refreshed_commit =
    Step.Prepare 15 gives 3  -- clock 4: 59
    ∷ Step.Ask 15 5 gives 0  -- 60
    ∷ Step.Ask 15 7 gives 1  -- 61
    ∷ Step.Deliver 0 gives 0  -- clock 5: 63
    ∷ Step.Deliver 1 gives 0  -- clock 7: 94
    ∷ Step.Deliver 0 gives 0  -- clock 4: 64
    ∷ Step.Deliver 1 gives 0  -- 95
    ∷ Step.Close 15 gives 3  -- 96
    ∷ []

-- home 7, slot 4: five calls to one station, delivered in another order than sent; the last delivered stands
-- each reply carries the width before its own write, and they come home in the order of their slots
abbrev pub five_calls : List Line
five_calls =
    Step.Begin 7 4 1000 1010 gives 4  -- clock 7: 1
    ∷ Step.Invoke 4 7 1 17 10000 gives 0  -- 2
    ∷ Step.Invoke 4 7 1 17 20000 gives 1  -- 3
    ∷ Step.Invoke 4 7 1 17 30000 gives 2  -- 4
    ∷ Step.Invoke 4 7 1 17 40000 gives 3  -- 5
    ∷ Step.Invoke 4 7 1 17 50000 gives 4  -- 6
    ∷ Step.Deliver 4 gives 0  -- clock 4: 7
    ∷ Step.Deliver 0 gives 0  -- 8
    ∷ Step.Deliver 2 gives 0  -- 9
    ∷ Step.Deliver 1 gives 0  -- 10
    ∷ Step.Deliver 3 gives 0  -- 11
    ∷ Step.Deliver 0 gives 50000  -- clock 7: 9
    ∷ Step.Deliver 1 gives 30000  -- 11
    ∷ Step.Deliver 2 gives 10000  -- 12
    ∷ Step.Deliver 3 gives 20000  -- 13
    ∷ Step.Deliver 4 gives 0  -- 14
    ∷ Step.Prepare 4 gives 1  -- 15
    ∷ Step.Ask 4 4 gives 0  -- 16
    ∷ Step.Deliver 0 gives 0  -- clock 4: 17
    ∷ Step.Deliver 0 gives 0  -- clock 7: 18
    ∷ Step.Close 4 gives 2  -- 19
    ∷ Step.Tell 4 4 gives 0  -- 20
    ∷ Step.Deliver 0 gives 0  -- clock 4: 21
    ∷ []

-- home 7, slot 13: each station calls the next one down, and station 0 calls home; the n-th step moves a clock to n, and the replies wait
abbrev pub ring_out : List Line
ring_out =
    Step.Begin 7 13 1000 1010 gives 13
    ∷ Step.Invoke 13 7 1 25 60006 gives 0
    ∷ Step.Deliver 0 gives 0
    ∷ Step.Invoke 13 6 1 21 50005 gives 1
    ∷ Step.Deliver 1 gives 0
    ∷ Step.Invoke 13 5 1 17 40004 gives 2
    ∷ Step.Deliver 2 gives 0
    ∷ Step.Invoke 13 4 1 13 30003 gives 3
    ∷ Step.Deliver 3 gives 0
    ∷ Step.Invoke 13 3 1 9 20002 gives 4
    ∷ Step.Deliver 4 gives 0
    ∷ Step.Invoke 13 2 1 5 10001 gives 5
    ∷ Step.Deliver 5 gives 0
    ∷ Step.Invoke 13 1 1 1 100 gives 6
    ∷ Step.Deliver 6 gives 0
    ∷ Step.Invoke 13 0 0 29 0 gives 7
    ∷ Step.Deliver 7 gives 0
    ∷ []

-- eight replies wait, and go back the way that the calls came
abbrev pub ring_back : List Line
ring_back =
    Step.Deliver 7 gives 0  -- clock 0: 18
    ∷ Step.Deliver 6 gives 0  -- clock 1: 16
    ∷ Step.Deliver 5 gives 0  -- clock 2: 14
    ∷ Step.Deliver 4 gives 0  -- clock 3: 12
    ∷ Step.Deliver 3 gives 0  -- clock 4: 10
    ∷ Step.Deliver 2 gives 0  -- clock 5: 8
    ∷ Step.Deliver 1 gives 0  -- clock 6: 6
    ∷ Step.Deliver 0 gives 0  -- clock 7: 18
    ∷ []

-- seven stations are asked; with one answer missing the round does not close
abbrev pub ring_asked : List Line
ring_asked =
    Step.Prepare 13 gives 1  -- clock 7: 19
    ∷ Step.Ask 13 0 gives 0  -- 20
    ∷ Step.Ask 13 1 gives 1  -- 21
    ∷ Step.Ask 13 2 gives 2  -- 22
    ∷ Step.Ask 13 3 gives 3  -- 23
    ∷ Step.Ask 13 4 gives 4  -- 24
    ∷ Step.Ask 13 5 gives 5  -- 25
    ∷ Step.Ask 13 6 gives 6  -- 26
    ∷ Step.Deliver 0 gives 0  -- clock 0: 21
    ∷ Step.Deliver 1 gives 0  -- clock 1: 22
    ∷ Step.Deliver 2 gives 0  -- clock 2: 23
    ∷ Step.Deliver 3 gives 0  -- clock 3: 24
    ∷ Step.Deliver 4 gives 0  -- clock 4: 25
    ∷ Step.Deliver 5 gives 0  -- clock 5: 26
    ∷ Step.Deliver 6 gives 0  -- clock 6: 27
    ∷ Step.Deliver 0 gives 0  -- clock 7: 27
    ∷ Step.Deliver 1 gives 0  -- 28
    ∷ Step.Deliver 2 gives 0  -- 29
    ∷ Step.Deliver 3 gives 0  -- 30
    ∷ Step.Deliver 4 gives 0  -- 31
    ∷ Step.Deliver 5 gives 0  -- 32
    ∷ Step.Close 13 refused_by 12
    ∷ Step.Deliver 6 gives 0  -- 33
    ∷ Step.Close 13 gives 8  -- 34
    ∷ []

abbrev pub ring_told : List Line
ring_told =
    Step.Tell 13 6 gives 0  -- clock 7: 35
    ∷ Step.Tell 13 5 gives 1  -- 36
    ∷ Step.Tell 13 4 gives 2  -- 37
    ∷ Step.Tell 13 3 gives 3  -- 38
    ∷ Step.Tell 13 2 gives 4  -- 39
    ∷ Step.Tell 13 1 gives 5  -- 40
    ∷ Step.Retire 13 refused_by 5
    ∷ Step.Tell 13 0 gives 6  -- 41
    ∷ Step.Deliver 0 gives 0  -- clock 6: 36
    ∷ Step.Deliver 1 gives 0  -- clock 5: 37
    ∷ Step.Deliver 2 gives 0  -- clock 4: 38
    ∷ Step.Deliver 3 gives 0  -- clock 3: 39
    ∷ Step.Deliver 4 gives 0  -- clock 2: 40
    ∷ Step.Deliver 5 gives 0  -- clock 1: 41
    ∷ Step.Deliver 6 gives 0  -- clock 0: 42
    ∷ Step.Retire 13 gives 0
    ∷ []

abbrev pub commit_rows : List Row
commit_rows =
    -- two writes at two stations and one at home are committed and read back; the slot is retired and used again
    lines (crew_writes ++ crew_commits ++ check_reads ++ slot_used_again)
    (clock 3 20 ∷ clock 2 20 ∷ clock 7 17 ∷ clock 6 21 ∷ width 29 1000000 ∷ holder 29 (Some 9) ∷ before 29 1000000 ∷ width 9 23456
    ∷ holder 9 (Some 9)
    ∷ width 13 4321
    ∷ holder 13 (Some 5)
    ∷ status 5 Status.Active
    ∷ generation 5 1
    ∷ status 9 Status.Active
    ∷ generation 9 0
    ∷ visit 3 5 1000 1020 0 1
    ∷ unvisited 2 5
    ∷ unvisited 7 5
    ∷ visit 7 9 500 600 0 1
    ∷ sent 6 9 (0 ∷ 0 ∷ 1 ∷ 0 ∷ 0 ∷ 0 ∷ 0 ∷ 1 ∷ [])
    ∷ [])
    -- two refreshes, used after the old times, then a commit in round 3
    ∷ lines (first_refresh ++ second_refresh ++ refreshed_commit)
    (clock 4 96 ∷ clock 5 63 ∷ clock 7 94 ∷ status 15 Status.Committed ∷ round 15 3 Phase.Two ∷ unvisited 4 15 ∷ visit 5 15 63 600 3 2
    ∷ prepared 5 15 1
    ∷ sent 5 15 (0 ∷ 0 ∷ 0 ∷ 0 ∷ 0 ∷ 1 ∷ 0 ∷ 1 ∷ [])
    ∷ visit 7 15 60 600 3 1
    ∷ prepared 7 15 1
    ∷ width 22 1234
    ∷ holder 22 (Some 15)
    ∷ before 22 0
    ∷ [])
    ∷ []

abbrev pub count_rows : List Row
count_rows =
    -- five calls to one station, and the commit closes
    lines five_calls
    (clock 4 21 ∷ clock 7 20 ∷ width 17 40000 ∷ holder 17 None ∷ before 17 0 ∷ status 4 Status.Committed ∷ unvisited 4 4 ∷ [])
    -- a passage over all eight stations, in which calls go on from station to station
    ∷ lines (ring_out ++ ring_back ++ ring_asked ++ ring_told)
    (clock 0 42 ∷ clock 1 41 ∷ clock 2 40 ∷ clock 3 39 ∷ clock 4 38 ∷ clock 5 37 ∷ clock 6 36 ∷ clock 7 41 ∷ width 1 100
    ∷ width 5 10001
    ∷ width 9 20002
    ∷ width 13 30003
    ∷ width 17 40004
    ∷ width 21 50005
    ∷ width 25 60006
    ∷ holder 1 None
    ∷ holder 25 None
    ∷ holder 29 None
    ∷ generation 13 1
    ∷ [])
    ∷ []

-- every commit is as the two documents say
pub commits_hold : map found commit_rows ≡ map wanted commit_rows
unfolding found wanted
commits_hold = refl

-- and every count of calls
pub counts_hold : map found count_rows ≡ map wanted count_rows
unfolding found wanted
counts_hold = refl
