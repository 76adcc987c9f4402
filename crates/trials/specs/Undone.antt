-- The second table of cases, what is undone: aborts and sweeps.
-- The answers were worked out by hand from the two documents; a clock beside a line is that of the acting station after it. Assumes nothing.
use Rattle.std.specs.Prelude.{ℕ, zero, suc, ◌≡◌, refl, List, [], ◌∷◌, ◌++◌, map, Some, None}
use Rattle.trials.specs.Types.{Phase, Status, Step}
use Rattle.rules.specs.Rows.{Row, Line, ◌gives◌, ◌refused_by◌, lines, clock, up, width, holder, before, status, generation, round, visit, unvisited, prepared, mail, found, wanted}

-- home 7, slot 0: object 31 is committed at 3,210 mm, by home alone
abbrev pub first_width : List Line
first_width =
    Step.Begin 7 0 100 200 gives 0  -- clock 7: 1
    ∷ Step.Invoke 0 7 1 31 3210 gives 0  -- 2
    ∷ Step.Deliver 0 gives 0  -- 3
    ∷ Step.Deliver 0 gives 0  -- 4
    ∷ Step.Prepare 0 gives 1  -- 5
    ∷ Step.Close 0 gives 1  -- 6
    ∷ Step.Retire 0 gives 0
    ∷ []

-- home 6, slot 4: it is written twice and the passage aborted; the larger Q, 15 at station 7, is the new release time
abbrev pub writes_undone : List Line
writes_undone =
    Step.Begin 6 4 100 110 gives 4  -- clock 6: 1
    ∷ Step.Invoke 4 6 1 31 15000 gives 0  -- 2
    ∷ Step.Deliver 0 gives 0  -- clock 7: 7
    ∷ Step.Deliver 0 gives 3210  -- clock 6: 8
    ∷ Step.Invoke 4 6 1 31 16000 gives 0  -- 9
    ∷ Step.Deliver 0 gives 0  -- clock 7: 10
    ∷ Step.Deliver 0 gives 15000  -- clock 6: 11
    ∷ Step.Abort 4 gives 0  -- 12
    ∷ Step.Abort 4 refused_by 5
    ∷ Step.Terminate 4 gives 1  -- 13
    ∷ Step.Ask 4 7 gives 0  -- 14
    ∷ Step.Deliver 0 gives 0  -- clock 7: 15
    ∷ Step.Deliver 0 gives 0  -- clock 6: 16
    ∷ Step.Close 4 gives 2  -- 17
    ∷ Step.Tell 4 7 gives 0  -- 18
    ∷ Step.Retire 4 refused_by 5
    ∷ []

-- home 7, slot 3: a read is refused by 10 until the sweep, then it reads 3,210 again
abbrev pub width_read_back : List Line
width_read_back =
    Step.Begin 7 3 100 200 gives 3  -- clock 7: 16
    ∷ Step.Invoke 3 7 0 31 0 gives 1  -- 17
    ∷ Step.Deliver 1 refused_by 10
    ∷ Step.Sweep 7 gives 0  -- 18
    ∷ Step.Deliver 0 gives 0  -- 19
    ∷ Step.Sweep 7 gives 1  -- 20
    ∷ Step.Deliver 1 gives 0  -- 21
    ∷ Step.Deliver 1 gives 3210  -- 22
    -- the home visit remains
    ∷ Step.Retire 4 refused_by 5
    ∷ []

-- home 5, slot 1: a promise given at station 2 outlives the release time and its home, until a terminate lets it off
abbrev pub promise_let_off : List Line
promise_let_off =
    Step.Begin 5 1 200 300 gives 1  -- clock 5: 1
    ∷ Step.Invoke 1 5 1 10 640 gives 0  -- 2
    ∷ Step.Deliver 0 gives 0  -- clock 2: 3
    ∷ Step.Deliver 0 gives 0  -- clock 5: 4
    ∷ Step.Prepare 1 gives 1  -- 5
    ∷ Step.Ask 1 2 gives 0  -- 6
    ∷ Step.Deliver 0 gives 0  -- clock 2: 7
    ∷ Step.Tick 2 400 gives 407
    ∷ Step.Sweep 2 gives 0  -- 408
    ∷ Step.Crash 5 gives 0  -- clock 5: 7
    ∷ Step.Deliver 0 refused_by 4
    -- a drop acts at no site
    ∷ Step.Drop 0 gives 0
    ∷ Step.Recover 5 gives 0  -- 8
    ∷ Step.Deliver 0 refused_by 3
    ∷ Step.Terminate 1 gives 2  -- 9
    ∷ Step.Ask 1 2 gives 0  -- 10
    ∷ Step.Deliver 0 gives 0  -- clock 2: 409
    ∷ Step.Sweep 2 gives 1  -- 410
    ∷ Step.Deliver 0 gives 0  -- clock 5: 410
    ∷ Step.Close 1 gives 2  -- 411
    ∷ Step.Tell 1 2 gives 0  -- 412
    -- the visit that is told is gone
    ∷ Step.Deliver 0 refused_by 6
    ∷ Step.Drop 0 gives 0
    ∷ Step.Sweep 5 gives 1  -- 413
    ∷ Step.Retire 1 gives 0
    ∷ []

-- station 6 is home of slots 0, 11, 12 and 13; slot 12 has given its promise, and slot 13 has time
abbrev pub four_visits : List Line
four_visits =
    Step.Begin 6 0 50 60 gives 0  -- clock 6: 1
    ∷ Step.Begin 6 11 50 70 gives 11  -- 2
    ∷ Step.Begin 6 12 50 60 gives 12  -- 3
    ∷ Step.Begin 6 13 1500000 2000000 gives 13  -- 4
    ∷ Step.Invoke 0 6 1 24 100 gives 0  -- 5
    ∷ Step.Deliver 0 gives 0  -- 6
    ∷ Step.Deliver 0 gives 0  -- 7
    ∷ Step.Invoke 11 6 1 25 200 gives 0  -- 8
    ∷ Step.Deliver 0 gives 0  -- 9
    ∷ Step.Deliver 0 gives 0  -- 10
    ∷ Step.Prepare 12 gives 1  -- 11
    ∷ []

-- one sweep takes two of them; all of it at clocks above 1,000,000, which a message carries to station 0
abbrev pub two_swept : List Line
two_swept =
    Step.Tick 6 47 gives 58
    ∷ Step.Sweep 6 gives 0  -- 59
    ∷ Step.Tick 6 1000000 gives 1000059
    ∷ Step.Sweep 6 gives 2  -- 1,000,060
    ∷ Step.Invoke 13 6 0 25 0 gives 0  -- 1,000,061
    ∷ Step.Deliver 0 gives 0  -- 1,000,062
    ∷ Step.Deliver 0 gives 0  -- 1,000,063
    ∷ Step.Invoke 13 6 0 3 0 gives 0  -- 1,000,064
    ∷ Step.Deliver 0 gives 0  -- clock 0: 1,000,065
    ∷ Step.Deliver 0 gives 0  -- clock 6: 1,000,066
    ∷ Step.Tick 6 999999 gives 2000065
    ∷ Step.Sweep 6 gives 1  -- 2,000,066
    ∷ Step.Abort 12 gives 0  -- 2,000,067
    ∷ Step.Sweep 6 gives 1  -- 2,000,068
    ∷ Step.Retire 0 gives 0
    ∷ Step.Retire 13 refused_by 5
    ∷ Step.Retire 12 gives 0
    ∷ []

-- home 2, slot 9: its visit at station 4 is swept; the passage stays active, and the round finds no visit there
abbrev pub swept_away : List Line
swept_away =
    Step.Begin 2 9 100 110 gives 9  -- clock 2: 1
    ∷ Step.Invoke 9 2 1 18 4444 gives 0  -- 2
    ∷ Step.Deliver 0 gives 0  -- clock 4: 3
    ∷ Step.Deliver 0 gives 0  -- clock 2: 4
    ∷ Step.Tick 4 200 gives 203
    ∷ Step.Sweep 4 gives 1  -- 204
    ∷ Step.Invoke 9 2 0 18 0 gives 0  -- clock 2: 5
    ∷ Step.Deliver 0 refused_by 8
    ∷ Step.Refresh 9 300 310 gives 1  -- 6
    ∷ Step.Ask 9 4 gives 1  -- 7
    ∷ Step.Deliver 1 refused_by 6
    ∷ []

-- home 6, slot 1: a close after the home visit was swept
abbrev pub home_swept : List Line
home_swept =
    Step.Begin 6 1 30 40 gives 1  -- clock 6: 1
    ∷ Step.Invoke 1 6 1 27 900 gives 0  -- 2
    ∷ Step.Deliver 0 gives 0  -- 3
    ∷ Step.Deliver 0 gives 0  -- 4
    ∷ Step.Abort 1 gives 0  -- 5
    ∷ Step.Terminate 1 gives 1  -- 6
    ∷ Step.Tick 6 40 gives 46
    ∷ Step.Sweep 6 gives 1  -- 47
    ∷ Step.Close 1 gives 1  -- 48
    ∷ Step.Terminate 1 refused_by 6
    ∷ Step.Invoke 1 6 0 27 0 refused_by 6
    ∷ Step.Crash 6 gives 0  -- 49
    -- a retire acts at no site
    ∷ Step.Retire 1 gives 0
    ∷ []

-- home 2, slot 14: a write at station 1, which is not asked before the release time has passed there
abbrev pub unasked : List Line
unasked =
    Step.Begin 2 14 10 20 gives 14  -- clock 2: 1
    ∷ Step.Invoke 14 2 1 6 650 gives 0  -- 2
    ∷ Step.Deliver 0 gives 0  -- clock 1: 3
    ∷ Step.Deliver 0 gives 0  -- clock 2: 4
    ∷ Step.Prepare 14 gives 1  -- 5
    ∷ []

abbrev pub swept_unasked : List Line
swept_unasked =
    Step.Tick 1 50 gives 53
    ∷ Step.Sweep 1 gives 1  -- clock 1: 54
    ∷ []

-- station 3 is home of slots 0, 1 and 2
abbrev pub three_swept : List Line
three_swept =
    Step.Begin 3 0 10 20 gives 0  -- clock 3: 1
    ∷ Step.Begin 3 1 10 25 gives 1  -- 2
    ∷ Step.Begin 3 2 12 30 gives 2  -- 3
    ∷ Step.Tick 3 50 gives 53
    ∷ Step.Sweep 3 gives 3  -- 54
    ∷ []

-- home 1, slot 15: home is swept while a refresh is in phase 1, and so the round is over
abbrev pub swept_in_round : List Line
swept_in_round =
    Step.Begin 1 15 60 70 gives 15  -- clock 1: 1
    ∷ Step.Refresh 15 80 90 gives 1  -- 2
    ∷ Step.Tick 1 100 gives 102
    ∷ Step.Sweep 1 gives 1  -- 103
    ∷ Step.Close 15 refused_by 5
    ∷ []

-- the first n passages, all at home 2
abbrev pub begins_up_to : ℕ → List Line
begins_up_to zero = []
begins_up_to (suc n) = begins_up_to n ++ (Step.Begin 2 n 60 70 gives n ∷ [])

-- all sixteen slots are at home 2, the last with a write there, and one sweep takes them all
abbrev pub sixteen_swept : List Line
sixteen_swept =
    begins_up_to 16  -- clock 2: 1 to 16
    ++ (Step.Invoke 15 2 1 11 1100 gives 0  -- 17
    ∷ Step.Deliver 0 gives 0  -- 18
    ∷ Step.Deliver 0 gives 0  -- 19
    ∷ Step.Tick 2 100 gives 119
    ∷ Step.Sweep 2 gives 16  -- 120
    ∷ Step.Retire 0 gives 0
    ∷ Step.Begin 2 0 200 210 gives 16  -- 121
    ∷ [])

-- home 6, slot 1: it is aborted, and its visit at station 3, which has not heard of it, calls on to station 0
abbrev pub called_unaware : List Line
called_unaware =
    Step.Begin 6 1 60 70 gives 1  -- clock 6: 1
    ∷ Step.Invoke 1 6 0 12 0 gives 0  -- 2
    ∷ Step.Deliver 0 gives 0  -- clock 3: 3
    ∷ Step.Deliver 0 gives 0  -- clock 6: 4
    ∷ Step.Abort 1 gives 0  -- 5
    ∷ Step.Invoke 1 3 1 0 450 gives 0  -- clock 3: 4
    ∷ Step.Deliver 0 gives 0  -- clock 0: 5
    ∷ Step.Deliver 0 gives 0  -- clock 3: 6
    ∷ []

-- the terminate waits for station 0 too, and then lets it be swept
abbrev pub unaware_swept : List Line
unaware_swept =
    Step.Terminate 1 gives 1  -- clock 6: 6
    ∷ Step.Ask 1 3 gives 0  -- 7
    ∷ Step.Deliver 0 gives 0  -- clock 3: 8
    ∷ Step.Deliver 0 gives 0  -- clock 6: 9
    ∷ Step.Close 1 refused_by 12
    ∷ Step.Ask 1 0 gives 0  -- 10
    ∷ Step.Deliver 0 gives 0  -- clock 0: 11
    ∷ Step.Deliver 0 gives 0  -- clock 6: 12
    ∷ Step.Close 1 gives 3  -- 13; the largest Q is 11, of station 0
    ∷ Step.Tell 1 0 gives 0  -- 14
    ∷ Step.Deliver 0 gives 0  -- clock 0: 15
    ∷ Step.Sweep 0 gives 1  -- 16
    ∷ []

abbrev pub undone_rows : List Row
undone_rows =
    -- an abort: two writes over a committed width are undone, and another passage reads that width
    lines
    (first_width ++ writes_undone ++ width_read_back)
    (clock 7 22 ∷ clock 6 18 ∷ width 31 3210 ∷ holder 31 (Some 3) ∷ before 31 3210 ∷ status 4 Status.Aborted
    ∷ round 4 1 Phase.Two
    ∷ visit 6 4 12 15 1 0
    ∷ unvisited 7 4
    ∷ status 3 Status.Active
    ∷ [])
    -- no sweep takes a prepared visit; a terminate takes the mark off
    ∷ lines promise_let_off
    (clock 2 410 ∷ clock 5 413 ∷ width 10 0 ∷ holder 10 None ∷ before 10 0 ∷ generation 1 1 ∷ mail 0 0 ∷ [])
    ∷ []

abbrev pub sweep_rows : List Row
sweep_rows =
    -- a sweep of two visits
    lines (four_visits ++ two_swept)
    (clock 6 2000068 ∷ clock 0 1000065 ∷ width 24 0 ∷ holder 24 None ∷ width 25 0 ∷ holder 25 None
    ∷ status 0 Status.Free
    ∷ generation 0 1
    ∷ status 11 Status.Aborted
    ∷ status 13 Status.Aborted
    ∷ visit 0 13 1500000 2000000 0 1
    ∷ holder 3 (Some 13)
    ∷ [])
    -- a sweep away from home
    ∷ lines swept_away (clock 2 7 ∷ clock 4 204 ∷ status 9 Status.Active ∷ width 18 0 ∷ unvisited 4 9 ∷ [])
    -- a sweep at home, before the close
    ∷ lines home_swept (clock 6 49 ∷ up 6 0 ∷ status 1 Status.Free ∷ generation 1 1 ∷ width 27 0 ∷ [])
    -- an unprepared visit of a committing passage
    ∷ lines (unasked ++ swept_unasked)
    (clock 1 54 ∷ clock 2 5 ∷ status 14 Status.Committing ∷ round 14 1 Phase.One ∷ unvisited 1 14 ∷ visit 2 14 5 20 1 0 ∷ prepared 2 14 1
    ∷ width 6 0
    ∷ holder 6 None
    ∷ [])
    -- and of one that is aborted after its prepare, at clock 6
    ∷ lines (unasked ++ (Step.Abort 14 gives 0 ∷ []) ++ swept_unasked)
    (clock 1 54 ∷ clock 2 6 ∷ status 14 Status.Aborted ∷ round 14 1 Phase.None ∷ unvisited 1 14 ∷ visit 2 14 5 20 1 0 ∷ prepared 2 14 0
    ∷ width 6 0
    ∷ holder 6 None
    ∷ [])
    -- a sweep of three visits
    ∷ lines three_swept
    (clock 3 54 ∷ status 0 Status.Aborted ∷ status 1 Status.Aborted ∷ status 2 Status.Aborted ∷ unvisited 3 0 ∷ unvisited 3 1 ∷ unvisited 3 2 ∷ [])
    ∷ []

abbrev pub release_rows : List Row
release_rows =
    -- a sweep at home ends the open round
    lines swept_in_round
    (clock 1 103 ∷ status 15 Status.Aborted ∷ round 15 1 Phase.None ∷ unvisited 1 15 ∷ [])
    -- a sweep of sixteen visits
    ∷ lines sixteen_swept
    (clock 2 121 ∷ status 0 Status.Active ∷ generation 0 1 ∷ status 1 Status.Aborted ∷ status 8 Status.Aborted ∷ status 15 Status.Aborted
    ∷ unvisited 2 1
    ∷ unvisited 2 15
    ∷ width 11 0
    ∷ holder 11 None
    ∷ [])
    -- a call of an aborted passage makes a visit, and its terminate finds it
    ∷ lines (called_unaware ++ unaware_swept)
    (clock 6 14 ∷ clock 3 8 ∷ clock 0 16 ∷ status 1 Status.Aborted ∷ round 1 1 Phase.Two ∷ visit 6 1 5 11 1 0 ∷ visit 3 1 8 70 1 1
    ∷ unvisited 0 1
    ∷ width 0 0
    ∷ holder 0 None
    ∷ [])
    ∷ []

-- every undoing is as the two documents say
pub undone_hold : map found undone_rows ≡ map wanted undone_rows
unfolding found wanted
undone_hold = refl

-- and every sweep
pub sweeps_hold : map found sweep_rows ≡ map wanted sweep_rows
unfolding found wanted
sweeps_hold = refl

-- and every release
pub releases_hold : map found release_rows ≡ map wanted release_rows
unfolding found wanted
releases_hold = refl
