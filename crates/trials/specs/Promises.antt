-- The second table of cases, promises: one that is given again, a call before one is given, and four widths that stand or fall together.
-- The answers were worked out by hand from the two documents; a clock beside a line is that of the acting station after it. Assumes nothing.
use Rattle.std.specs.Prelude.{◌≡◌, refl, List, [], ◌∷◌, ◌++◌, map, Some, None}
use Rattle.trials.specs.Types.{Phase, Status, Step}
use Rattle.rules.specs.Rows.{Row, Line, ◌gives◌, ◌refused_by◌, lines, clock, width, holder, before, status, round, visit, unvisited, prepared, sent, found, wanted}

-- home 5, slot 0: station 0 gives its promise twice, as its first answer is dropped; a terminate does not come between
abbrev pub promised_twice : List Line
promised_twice =
    Step.Begin 5 0 60 70 gives 0  -- clock 5: 1
    ∷ Step.Invoke 0 5 1 3 777 gives 0  -- 2
    ∷ Step.Deliver 0 gives 0  -- clock 0: 3
    ∷ Step.Deliver 0 gives 0  -- clock 5: 4
    ∷ Step.Prepare 0 gives 1  -- 5
    ∷ Step.Ask 0 0 gives 0  -- 6
    ∷ Step.Deliver 0 gives 0  -- clock 0: 7
    ∷ Step.Drop 0 gives 0
    ∷ Step.Terminate 0 refused_by 5
    ∷ Step.Prepare 0 gives 2  -- clock 5: 7
    ∷ Step.Ask 0 0 gives 0  -- 8
    ∷ Step.Deliver 0 gives 0  -- clock 0: 9
    ∷ Step.Deliver 0 gives 0  -- clock 5: 10
    ∷ Step.Close 0 gives 2  -- 11
    ∷ Step.Tell 0 0 gives 0  -- 12
    ∷ Step.Deliver 0 gives 0  -- clock 0: 13
    ∷ []

-- home 2, slot 9: station 4 has not been asked yet, so it calls on to station 5 while home commits, and its answer counts that call
abbrev pub call_before_asked : List Line
call_before_asked =
    Step.Begin 2 9 60 70 gives 9  -- clock 2: 1
    ∷ Step.Invoke 9 2 0 16 0 gives 0  -- 2
    ∷ Step.Deliver 0 gives 0  -- clock 4: 3
    ∷ Step.Deliver 0 gives 0  -- clock 2: 4
    ∷ Step.Prepare 9 gives 1  -- 5
    ∷ Step.Invoke 9 4 1 20 1700 gives 0  -- clock 4: 4
    ∷ Step.Deliver 0 gives 0  -- clock 5: 5
    ∷ Step.Deliver 0 gives 0  -- clock 4: 6
    ∷ Step.Ask 9 4 gives 0  -- clock 2: 6
    ∷ Step.Ask 9 5 gives 1  -- 7
    ∷ Step.Deliver 0 gives 0  -- clock 4: 7
    ∷ Step.Deliver 1 gives 0  -- clock 5: 8
    ∷ Step.Deliver 0 gives 0  -- clock 2: 8
    ∷ Step.Close 9 refused_by 12
    ∷ Step.Deliver 1 gives 0  -- 9
    ∷ Step.Close 9 gives 3  -- 10
    ∷ []

-- home 3, slot 4: all four widths of station 7 are written and committed
abbrev pub four_gates : List Line
four_gates =
    Step.Begin 3 4 60 70 gives 4  -- clock 3: 1
    ∷ Step.Invoke 4 3 1 28 2800 gives 0  -- 2
    ∷ Step.Invoke 4 3 1 29 2900 gives 1  -- 3
    ∷ Step.Invoke 4 3 1 30 3000 gives 2  -- 4
    ∷ Step.Invoke 4 3 1 31 3100 gives 3  -- 5
    ∷ Step.Deliver 3 gives 0  -- clock 7: 6
    ∷ Step.Deliver 3 gives 0  -- clock 3: 7
    ∷ Step.Deliver 2 gives 0  -- clock 7: 7
    ∷ Step.Deliver 2 gives 0  -- clock 3: 8
    ∷ Step.Deliver 1 gives 0  -- clock 7: 8
    ∷ Step.Deliver 1 gives 0  -- clock 3: 9
    ∷ Step.Deliver 0 gives 0  -- clock 7: 9
    ∷ Step.Deliver 0 gives 0  -- clock 3: 10
    ∷ Step.Prepare 4 gives 1  -- 11
    ∷ Step.Ask 4 7 gives 0  -- 12
    ∷ Step.Deliver 0 gives 0  -- clock 7: 13
    ∷ Step.Deliver 0 gives 0  -- clock 3: 14
    ∷ Step.Close 4 gives 2  -- 15
    ∷ Step.Tell 4 7 gives 0  -- 16
    ∷ Step.Deliver 0 gives 0  -- clock 7: 17
    ∷ []

-- home 7, slot 5: all four are written over, and one sweep restores them
abbrev pub four_restored : List Line
four_restored =
    Step.Begin 7 5 60 70 gives 5  -- clock 7: 18
    ∷ Step.Invoke 5 7 1 28 1 gives 0  -- 19
    ∷ Step.Invoke 5 7 1 29 2 gives 1  -- 20
    ∷ Step.Invoke 5 7 1 30 3 gives 2  -- 21
    ∷ Step.Invoke 5 7 1 31 4 gives 3  -- 22
    ∷ Step.Deliver 0 gives 0  -- 23
    ∷ Step.Deliver 0 gives 2800  -- 24
    ∷ Step.Deliver 1 gives 0  -- 25
    ∷ Step.Deliver 1 gives 2900  -- 26
    ∷ Step.Deliver 2 gives 0  -- 27
    ∷ Step.Deliver 2 gives 3000  -- 28
    ∷ Step.Deliver 3 gives 0  -- 29
    ∷ Step.Deliver 3 gives 3100  -- 30
    ∷ Step.Tick 7 100 gives 130
    ∷ Step.Sweep 7 gives 1  -- 131
    ∷ []

abbrev pub promise_rows : List Row
promise_rows =
    -- a promise is given again in the next round
    lines promised_twice
    (clock 5 12 ∷ clock 0 13 ∷ status 0 Status.Committed ∷ round 0 2 Phase.Two ∷ unvisited 5 0 ∷ unvisited 0 0 ∷ width 3 777
    ∷ holder 3 None
    ∷ before 3 0
    ∷ [])
    -- a call of a committing passage, from a visit that has given no promise yet
    ∷ lines call_before_asked
    (clock 2 10 ∷ clock 4 7 ∷ clock 5 8 ∷ status 9 Status.Committed ∷ visit 4 9 7 70 1 1 ∷ visit 5 9 8 70 1 1 ∷ prepared 5 9 1
    ∷ sent 4 9 (0 ∷ 0 ∷ 0 ∷ 0 ∷ 0 ∷ 1 ∷ 0 ∷ 0 ∷ [])
    ∷ width 20 1700
    ∷ holder 20 (Some 9)
    ∷ [])
    -- the four objects of one station, in one passage
    ∷ lines (four_gates ++ four_restored)
    (clock 3 16 ∷ clock 7 131 ∷ width 28 2800 ∷ width 29 2900 ∷ width 30 3000 ∷ width 31 3100 ∷ holder 28 None
    ∷ holder 29 None
    ∷ holder 30 None
    ∷ holder 31 None
    ∷ before 28 0
    ∷ before 31 0
    ∷ status 4 Status.Committed
    ∷ status 5 Status.Aborted
    ∷ [])
    ∷ []

-- every promise is as the two documents say
pub promises_hold : map found promise_rows ≡ map wanted promise_rows
unfolding found wanted
promises_hold = refl
