-- The second table of cases, rounds: over four to seven stations, told again, and opened again after the first was closed.
-- The answers were worked out by hand from the two documents; a clock beside a line is that of the acting station after it. Assumes nothing.
use Rattle.std.specs.Prelude.{◌≡◌, refl, List, [], ◌∷◌, ◌++◌, map, Some, None}
use Rattle.trials.specs.Types.{Phase, Status, Step}
use Rattle.rules.specs.Rows.{Row, Line, ◌gives◌, ◌refused_by◌, lines, clock, width, holder, before, status, round, visit, unvisited, prepared, sent, mail, found, wanted}

-- home 0, slot 6: nine calls to stations 0 to 4, of which each first reads 0 mm; the ninth is from station 4 to home
abbrev pub nine_calls : List Line
nine_calls =
    Step.Begin 0 6 1000 1010 gives 6  -- clock 0: 1
    ∷ Step.Invoke 6 0 0 0 0 gives 0  -- 2
    ∷ Step.Invoke 6 0 0 7 0 gives 1  -- 3
    ∷ Step.Invoke 6 0 0 11 0 gives 2  -- 4
    ∷ Step.Invoke 6 0 0 15 0 gives 3  -- 5
    ∷ Step.Invoke 6 0 0 16 0 gives 4  -- 6
    ∷ Step.Invoke 6 0 1 6 600 gives 5  -- 7
    ∷ Step.Invoke 6 0 1 14 1400 gives 6  -- 8
    ∷ Step.Invoke 6 0 1 16 1600 gives 7  -- 9
    ∷ Step.Deliver 0 gives 0  -- 10
    ∷ Step.Deliver 0 gives 0  -- 11
    ∷ Step.Deliver 1 gives 0  -- clock 1: 4
    ∷ Step.Deliver 1 gives 0  -- clock 0: 12
    ∷ Step.Deliver 2 gives 0  -- clock 2: 5
    ∷ Step.Deliver 2 gives 0  -- clock 0: 13
    ∷ Step.Deliver 3 gives 0  -- clock 3: 6
    ∷ Step.Deliver 3 gives 0  -- clock 0: 14
    ∷ Step.Deliver 4 gives 0  -- clock 4: 7
    ∷ Step.Deliver 4 gives 0  -- clock 0: 15
    ∷ Step.Deliver 5 gives 0  -- clock 1: 8
    ∷ Step.Deliver 5 gives 0  -- clock 0: 16
    ∷ Step.Deliver 6 gives 0  -- clock 3: 9
    ∷ Step.Deliver 6 gives 0  -- clock 0: 17
    ∷ Step.Deliver 7 gives 0  -- clock 4: 10
    ∷ Step.Deliver 7 gives 0  -- clock 0: 18
    ∷ Step.Invoke 6 4 1 0 100 gives 0  -- clock 4: 11
    ∷ Step.Deliver 0 gives 0  -- clock 0: 19
    ∷ Step.Deliver 0 gives 0  -- clock 4: 20
    ∷ []

-- a refresh is closed with five stations, home included
abbrev pub five_refreshed : List Line
five_refreshed =
    Step.Refresh 6 2000 2010 gives 1  -- clock 0: 20
    ∷ Step.Ask 6 1 gives 0  -- 21
    ∷ Step.Ask 6 2 gives 1  -- 22
    ∷ Step.Ask 6 3 gives 2  -- 23
    ∷ Step.Ask 6 4 gives 3  -- 24
    ∷ Step.Deliver 0 gives 0  -- clock 1: 22
    ∷ Step.Deliver 1 gives 0  -- clock 2: 23
    ∷ Step.Deliver 2 gives 0  -- clock 3: 24
    ∷ Step.Deliver 3 gives 0  -- clock 4: 25
    ∷ Step.Deliver 0 gives 0  -- clock 0: 25
    ∷ Step.Deliver 1 gives 0  -- 26
    ∷ Step.Deliver 2 gives 0  -- 27
    ∷ Step.Deliver 3 gives 0  -- 28
    ∷ Step.Close 6 gives 5  -- 29
    ∷ []

-- and so is the commit
abbrev pub five_committed : List Line
five_committed =
    Step.Prepare 6 gives 2  -- clock 0: 30
    ∷ Step.Ask 6 1 gives 0  -- 31
    ∷ Step.Ask 6 2 gives 1  -- 32
    ∷ Step.Ask 6 3 gives 2  -- 33
    ∷ Step.Ask 6 4 gives 3  -- 34
    ∷ Step.Deliver 0 gives 0  -- clock 1: 32
    ∷ Step.Deliver 1 gives 0  -- clock 2: 33
    ∷ Step.Deliver 2 gives 0  -- clock 3: 34
    ∷ Step.Deliver 3 gives 0  -- clock 4: 35
    ∷ Step.Deliver 0 gives 0  -- clock 0: 35
    ∷ Step.Deliver 1 gives 0  -- 36
    ∷ Step.Deliver 2 gives 0  -- 37
    ∷ Step.Deliver 3 gives 0  -- 38
    ∷ Step.Close 6 gives 5  -- 39
    ∷ []

-- home 0, slot 2: the word to station 1 is dropped and sent again
abbrev pub told_again : List Line
told_again =
    Step.Begin 0 2 100 200 gives 2  -- clock 0: 1
    ∷ Step.Invoke 2 0 1 0 300 gives 0  -- 2
    ∷ Step.Invoke 2 0 1 6 700 gives 1  -- 3
    ∷ Step.Deliver 0 gives 0  -- 4
    ∷ Step.Deliver 0 gives 0  -- 5
    ∷ Step.Deliver 1 gives 0  -- clock 1: 4
    ∷ Step.Deliver 1 gives 0  -- clock 0: 6
    ∷ Step.Prepare 2 gives 1  -- 7
    ∷ Step.Ask 2 1 gives 0  -- 8
    ∷ Step.Deliver 0 gives 0  -- clock 1: 9
    ∷ Step.Deliver 0 gives 0  -- clock 0: 10
    ∷ Step.Close 2 gives 2  -- 11
    ∷ Step.Tell 2 1 gives 0  -- 12
    ∷ Step.Drop 0 gives 0
    ∷ Step.Tell 2 1 gives 0  -- 13
    ∷ Step.Deliver 0 gives 0  -- clock 1: 14
    ∷ []

-- home 7, slot 8: calls to stations 7, 6, 5 and 1, of which each first reads 0 mm; station 6 gives its promise, and the passage is aborted
abbrev pub four_called : List Line
four_called =
    Step.Begin 7 8 100 150 gives 8  -- clock 7: 1
    ∷ Step.Invoke 8 7 0 28 0 gives 0  -- 2
    ∷ Step.Invoke 8 7 0 24 0 gives 1  -- 3
    ∷ Step.Invoke 8 7 0 23 0 gives 2  -- 4
    ∷ Step.Invoke 8 7 0 4 0 gives 3  -- 5
    ∷ Step.Deliver 0 gives 0  -- 6
    ∷ Step.Deliver 0 gives 0  -- 7
    ∷ Step.Deliver 1 gives 0  -- clock 6: 4
    ∷ Step.Deliver 1 gives 0  -- clock 7: 8
    ∷ Step.Deliver 2 gives 0  -- clock 5: 5
    ∷ Step.Deliver 2 gives 0  -- clock 7: 9
    ∷ Step.Deliver 3 gives 0  -- clock 1: 6
    ∷ Step.Deliver 3 gives 0  -- clock 7: 10
    ∷ Step.Prepare 8 gives 1  -- 11
    ∷ Step.Ask 8 6 gives 0  -- 12
    ∷ Step.Deliver 0 gives 0  -- clock 6: 13
    ∷ Step.Drop 0 gives 0
    ∷ Step.Abort 8 gives 0  -- clock 7: 13
    -- a visit away from home does not know of the abort
    ∷ Step.Invoke 8 5 1 23 2300 gives 0  -- clock 5: 6
    ∷ Step.Deliver 0 gives 0  -- 7
    ∷ Step.Deliver 0 gives 0  -- 8
    ∷ []

-- the terminate is closed with four stations; at station 6 the mark went off at 16, before R, so a sweep after R takes the visit
abbrev pub four_terminated : List Line
four_terminated =
    Step.Terminate 8 gives 2  -- clock 7: 14
    ∷ Step.Ask 8 6 gives 0  -- 15
    ∷ Step.Ask 8 5 gives 1  -- 16
    ∷ Step.Ask 8 1 gives 2  -- 17
    ∷ Step.Deliver 0 gives 0  -- clock 6: 16
    ∷ Step.Deliver 1 gives 0  -- clock 5: 17
    ∷ Step.Deliver 2 gives 0  -- clock 1: 18
    ∷ Step.Deliver 0 gives 0  -- clock 7: 18
    ∷ Step.Deliver 1 gives 0  -- 19
    ∷ Step.Deliver 2 gives 0  -- 20
    ∷ Step.Close 8 gives 4  -- 21; the largest Q is 18, of station 1
    ∷ Step.Tick 6 200 gives 216
    ∷ Step.Sweep 6 gives 1  -- 217
    ∷ []

-- a second terminate after the close, and a third while that is open; its answer comes home after the home visit, whose R is 18, was swept
abbrev pub terminated_again : List Line
terminated_again =
    Step.Terminate 8 gives 3  -- clock 7: 22
    ∷ Step.Terminate 8 gives 4  -- 23
    ∷ Step.Ask 8 5 gives 0  -- 24
    ∷ Step.Deliver 0 gives 0  -- clock 5: 25
    ∷ Step.Sweep 7 gives 1  -- clock 7: 25
    ∷ Step.Deliver 0 gives 0  -- 26
    -- stations 6 and 1 have not answered this round
    ∷ Step.Close 8 refused_by 12
    ∷ []

-- home 5, slot 1: calls to stations 0 to 4, and a refresh is closed with six answers
abbrev pub six_refreshed : List Line
six_refreshed =
    Step.Begin 5 1 1000 1010 gives 1  -- clock 5: 1
    ∷ Step.Invoke 1 5 0 0 0 gives 0  -- 2
    ∷ Step.Invoke 1 5 0 5 0 gives 1  -- 3
    ∷ Step.Invoke 1 5 0 10 0 gives 2  -- 4
    ∷ Step.Invoke 1 5 0 15 0 gives 3  -- 5
    ∷ Step.Invoke 1 5 0 18 0 gives 4  -- 6
    ∷ Step.Deliver 0 gives 0  -- clock 0: 3
    ∷ Step.Deliver 0 gives 0  -- clock 5: 7
    ∷ Step.Deliver 1 gives 0  -- clock 1: 4
    ∷ Step.Deliver 1 gives 0  -- clock 5: 8
    ∷ Step.Deliver 2 gives 0  -- clock 2: 5
    ∷ Step.Deliver 2 gives 0  -- clock 5: 9
    ∷ Step.Deliver 3 gives 0  -- clock 3: 6
    ∷ Step.Deliver 3 gives 0  -- clock 5: 10
    ∷ Step.Deliver 4 gives 0  -- clock 4: 7
    ∷ Step.Deliver 4 gives 0  -- clock 5: 11
    ∷ Step.Refresh 1 2000 2010 gives 1  -- 12
    ∷ Step.Ask 1 0 gives 0  -- 13
    ∷ Step.Ask 1 1 gives 1  -- 14
    ∷ Step.Ask 1 2 gives 2  -- 15
    ∷ Step.Ask 1 3 gives 3  -- 16
    ∷ Step.Ask 1 4 gives 4  -- 17
    ∷ Step.Deliver 0 gives 0  -- clock 0: 14
    ∷ Step.Deliver 1 gives 0  -- clock 1: 15
    ∷ Step.Deliver 2 gives 0  -- clock 2: 16
    ∷ Step.Deliver 3 gives 0  -- clock 3: 17
    ∷ Step.Deliver 4 gives 0  -- clock 4: 18
    ∷ Step.Deliver 0 gives 0  -- clock 5: 18
    ∷ Step.Deliver 1 gives 0  -- 19
    ∷ Step.Deliver 2 gives 0  -- 20
    ∷ Step.Deliver 3 gives 0  -- 21
    ∷ Step.Deliver 4 gives 0  -- 22
    ∷ Step.Close 1 gives 6  -- 23
    ∷ []

-- then station 7 is called too, and the commit is closed with seven
abbrev pub seven_committed : List Line
seven_committed =
    Step.Invoke 1 5 1 30 3030 gives 0  -- clock 5: 24
    ∷ Step.Deliver 0 gives 0  -- clock 7: 25
    ∷ Step.Deliver 0 gives 0  -- clock 5: 26
    ∷ Step.Prepare 1 gives 2  -- 27
    ∷ Step.Ask 1 0 gives 0  -- 28
    ∷ Step.Ask 1 1 gives 1  -- 29
    ∷ Step.Ask 1 2 gives 2  -- 30
    ∷ Step.Ask 1 3 gives 3  -- 31
    ∷ Step.Ask 1 4 gives 4  -- 32
    ∷ Step.Ask 1 7 gives 5  -- 33
    ∷ Step.Deliver 0 gives 0  -- clock 0: 29
    ∷ Step.Deliver 1 gives 0  -- clock 1: 30
    ∷ Step.Deliver 2 gives 0  -- clock 2: 31
    ∷ Step.Deliver 3 gives 0  -- clock 3: 32
    ∷ Step.Deliver 4 gives 0  -- clock 4: 33
    ∷ Step.Deliver 5 gives 0  -- clock 7: 34
    ∷ Step.Deliver 0 gives 0  -- clock 5: 34
    ∷ Step.Deliver 1 gives 0  -- 35
    ∷ Step.Deliver 2 gives 0  -- 36
    ∷ Step.Deliver 3 gives 0  -- 37
    ∷ Step.Deliver 4 gives 0  -- 38
    ∷ Step.Close 1 refused_by 12
    ∷ Step.Deliver 5 gives 0  -- 39
    ∷ Step.Close 1 gives 7  -- 40
    ∷ []

abbrev pub round_rows : List Row
round_rows =
    -- nine calls to five stations: a refresh and a commit
    lines (nine_calls ++ five_refreshed ++ five_committed)
    (clock 0 39 ∷ clock 1 32 ∷ clock 2 33 ∷ clock 3 34 ∷ clock 4 35 ∷ status 6 Status.Committed ∷ round 6 2 Phase.Two ∷ unvisited 0 6
    ∷ visit 1 6 32 2010 2 2
    ∷ visit 2 6 33 2010 2 1
    ∷ visit 4 6 35 2010 2 2
    ∷ prepared 4 6 1
    ∷ sent 4 6 (1 ∷ 0 ∷ 0 ∷ 0 ∷ 0 ∷ 0 ∷ 0 ∷ 0 ∷ [])
    ∷ width 0 100
    ∷ holder 0 None
    ∷ width 6 600
    ∷ width 14 1400
    ∷ width 16 1600
    ∷ holder 16 (Some 6)
    ∷ before 16 0
    ∷ [])
    -- a station is told twice
    ∷ lines told_again
    (clock 0 13 ∷ clock 1 14 ∷ status 2 Status.Committed ∷ unvisited 1 2 ∷ width 0 300 ∷ holder 0 None ∷ width 6 700
    ∷ holder 6 None
    ∷ before 6 0
    ∷ mail 0 0
    ∷ [])
    ∷ []

abbrev pub terminate_rows : List Row
terminate_rows =
    -- an aborted passage over four stations, terminated three times
    lines (four_called ++ four_terminated ++ terminated_again)
    (clock 7 26 ∷ clock 6 217 ∷ clock 5 25 ∷ clock 1 18 ∷ status 8 Status.Aborted ∷ round 8 4 Phase.One ∷ unvisited 7 8 ∷ unvisited 6 8
    ∷ visit 5 8 17 150 4 2
    ∷ visit 1 8 18 150 2 1
    ∷ holder 24 None
    ∷ holder 28 None
    ∷ width 23 2300
    ∷ holder 23 (Some 8)
    ∷ before 23 0
    ∷ mail 0 0
    ∷ [])
    ∷ []

abbrev pub answer_rows : List Row
answer_rows =
    -- a passage over six stations, and then over seven
    lines (six_refreshed ++ seven_committed)
    (clock 5 40 ∷ clock 0 29 ∷ clock 4 33 ∷ clock 7 34 ∷ status 1 Status.Committed ∷ round 1 2 Phase.Two ∷ unvisited 5 1
    ∷ visit 0 1 29 2010 2 1
    ∷ visit 4 1 33 2010 2 1
    ∷ visit 7 1 34 2010 2 1
    ∷ prepared 7 1 1
    ∷ width 30 3030
    ∷ [])
    ∷ []

-- every round is as the two documents say
pub rounds_hold : map found round_rows ≡ map wanted round_rows
unfolding found wanted
rounds_hold = refl

-- and every terminate
pub terminates_hold : map found terminate_rows ≡ map wanted terminate_rows
unfolding found wanted
terminates_hold = refl

-- and every number of answers
pub answers_hold : map found answer_rows ≡ map wanted answer_rows
unfolding found wanted
answers_hold = refl
