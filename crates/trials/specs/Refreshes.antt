-- The second table of cases, refreshes: in a slot that is used again, with calls since the round was opened, and after Q.
-- The answers were worked out by hand from the two documents; a clock beside a line is that of the acting station after it. Assumes nothing.
use Rattle.std.specs.Prelude.{◌≡◌, refl, List, [], ◌∷◌, ◌++◌, map}
use Rattle.trials.specs.Types.{Phase, Status, Step}
use Rattle.rules.specs.Rows.{Row, Line, ◌gives◌, ◌refused_by◌, lines, clock, status, round, visit, unvisited, prepared, sent, mail, found, wanted}

-- home 4, slot 11: a slot that is used again counts its rounds from 1; 27 is slot 11 in generation 1
abbrev pub rounds_anew : List Line
rounds_anew =
    Step.Begin 4 11 60 70 gives 11  -- clock 4: 1
    ∷ Step.Prepare 11 gives 1  -- 2
    ∷ Step.Close 11 gives 1  -- 3
    ∷ Step.Retire 11 gives 0
    ∷ Step.Begin 4 11 60 70 gives 27  -- 4
    ∷ Step.Refresh 27 80 90 gives 1  -- 5
    ∷ []

-- home 6, slot 3: a call after the round was opened; home is counted as it was then, and the new visit is of the round already
abbrev pub called_since : List Line
called_since =
    Step.Begin 6 3 60 70 gives 3  -- clock 6: 1
    ∷ Step.Refresh 3 80 90 gives 1  -- 2
    ∷ Step.Invoke 3 6 0 21 0 gives 0  -- 3
    ∷ Step.Deliver 0 gives 0  -- clock 5: 4
    ∷ Step.Deliver 0 gives 0  -- clock 6: 5
    ∷ Step.Ask 3 5 gives 0  -- 6
    ∷ Step.Deliver 0 refused_by 9
    ∷ Step.Close 3 gives 1  -- 7
    -- phase 2 asks nobody
    ∷ Step.Ask 3 2 refused_by 5
    ∷ []

-- home 1, slot 12: station 3 has received a call of station 7, which does not answer, so it has one more than was sent
abbrev pub one_too_many : List Line
one_too_many =
    Step.Begin 1 12 60 70 gives 12  -- clock 1: 1
    ∷ Step.Invoke 12 1 0 14 0 gives 0  -- 2
    ∷ Step.Deliver 0 gives 0  -- clock 3: 3
    ∷ Step.Deliver 0 gives 0  -- clock 1: 4
    ∷ Step.Refresh 12 80 90 gives 1  -- 5
    ∷ Step.Invoke 12 1 0 30 0 gives 0  -- 6
    ∷ Step.Deliver 0 gives 0  -- clock 7: 7
    ∷ Step.Deliver 0 gives 0  -- clock 1: 8
    ∷ Step.Invoke 12 7 0 14 0 gives 0  -- clock 7: 8
    ∷ Step.Deliver 0 gives 0  -- clock 3: 9
    ∷ Step.Deliver 0 gives 0  -- clock 7: 10
    ∷ Step.Ask 12 3 gives 0  -- clock 1: 9
    ∷ Step.Deliver 0 gives 0  -- clock 3: 10
    ∷ Step.Deliver 0 gives 0  -- clock 1: 11
    ∷ Step.Close 12 refused_by 12
    ∷ []

-- home 2, slot 7: the Q of both visits, 10, passes at ticks and sweeps, and a refresh still sets it, to 300
abbrev pub late_refresh : List Line
late_refresh =
    Step.Begin 2 7 10 200 gives 7  -- clock 2: 1
    ∷ Step.Invoke 7 2 0 26 0 gives 0  -- 2
    ∷ Step.Deliver 0 gives 0  -- clock 6: 3
    ∷ Step.Deliver 0 gives 0  -- clock 2: 4
    ∷ Step.Tick 2 20 gives 24
    ∷ Step.Tick 6 20 gives 23
    ∷ Step.Sweep 2 gives 0  -- clock 2: 25
    ∷ Step.Sweep 6 gives 0  -- clock 6: 24
    ∷ Step.Refresh 7 300 310 gives 1  -- clock 2: 26
    ∷ Step.Ask 7 6 gives 0  -- 27
    ∷ Step.Deliver 0 gives 0  -- clock 6: 28
    ∷ Step.Deliver 0 gives 0  -- clock 2: 29
    ∷ Step.Close 7 gives 2  -- 30
    ∷ Step.Tell 7 6 gives 0  -- 31
    ∷ Step.Deliver 0 gives 0  -- clock 6: 32
    ∷ []

-- a refresh with an earlier Q, 50, is told and lowers nothing: a call at 139
abbrev pub earlier_quiet : List Line
earlier_quiet =
    Step.Refresh 7 50 310 gives 2  -- clock 2: 32
    ∷ Step.Ask 7 6 gives 0  -- 33
    ∷ Step.Deliver 0 gives 0  -- clock 6: 34
    ∷ Step.Deliver 0 gives 0  -- clock 2: 35
    ∷ Step.Close 7 gives 2  -- 36
    ∷ Step.Tell 7 6 gives 0  -- 37
    ∷ Step.Deliver 0 gives 0  -- clock 6: 38
    ∷ Step.Tick 6 100 gives 138
    ∷ Step.Invoke 7 6 0 27 0 gives 0  -- 139
    ∷ Step.Deliver 0 gives 0  -- 140
    ∷ Step.Deliver 0 gives 0  -- 141
    ∷ []

-- and a commit after that Q has passed too
abbrev pub late_commit : List Line
late_commit =
    Step.Tick 2 400 gives 437
    ∷ Step.Prepare 7 gives 3  -- clock 2: 438
    ∷ Step.Ask 7 6 gives 0  -- 439
    ∷ Step.Deliver 0 gives 0  -- clock 6: 440
    ∷ Step.Deliver 0 gives 0  -- clock 2: 441
    ∷ Step.Close 7 gives 2  -- 442
    ∷ []

abbrev pub refresh_rows : List Row
refresh_rows =
    -- the first round of a slot that is used again
    lines rounds_anew
    (clock 4 5 ∷ status 11 Status.Active ∷ round 11 1 Phase.One ∷ visit 4 11 60 90 1 0 ∷ [])
    -- a call while a round is open
    ∷ lines called_since
    (clock 6 7 ∷ clock 5 4 ∷ round 3 1 Phase.Two ∷ visit 6 3 80 90 1 0 ∷ visit 5 3 60 90 1 1
    ∷ sent 6 3 (0 ∷ 0 ∷ 0 ∷ 0 ∷ 0 ∷ 1 ∷ 0 ∷ 0 ∷ [])
    ∷ mail 0 1
    ∷ [])
    -- more calls received than sent
    ∷ lines one_too_many
    (clock 1 11 ∷ clock 3 10 ∷ clock 7 10 ∷ round 12 1 Phase.One ∷ visit 3 12 60 90 1 2 ∷ visit 7 12 60 90 1 1
    ∷ sent 7 12 (0 ∷ 0 ∷ 0 ∷ 1 ∷ 0 ∷ 0 ∷ 0 ∷ 0 ∷ [])
    ∷ [])
    -- two refreshes and a commit, of which none asks for a Q that is still to come
    ∷ lines (late_refresh ++ earlier_quiet ++ late_commit)
    (clock 2 442 ∷ clock 6 440 ∷ status 7 Status.Committed ∷ round 7 3 Phase.Two ∷ unvisited 2 7 ∷ visit 6 7 300 310 3 2 ∷ prepared 6 7 1 ∷ [])
    ∷ []

-- every refresh is as the two documents say
pub refreshes_hold : map found refresh_rows ≡ map wanted refresh_rows
unfolding found wanted
refreshes_hold = refl
