-- The second table of cases, crashes: a station that is down, and a visit that is dead.
-- The answers were worked out by hand from the two documents; a clock beside a line is that of the acting station after it. Assumes nothing.
use Rattle.std.specs.Prelude.{◌≡◌, refl, true, false, List, [], ◌∷◌, ◌++◌, map, Some, None}
use Rattle.rules.specs.Tables.{start, free_slot, put_passage, put_visit}
use Rattle.rules.specs.Parts.{with_home, with_status, quieted, new_visit}
use Rattle.trials.specs.Types.{Phase, Status, Tables, Step}
use Rattle.rules.specs.Rows.{Row, Line, ◌gives◌, ◌refused_by◌, lines_on, lines, clock, up, width, holder, status, generation, round, visit, unvisited, prepared, dead, mail, found, wanted}

-- home 2, slot 6: station 6 goes down; 4 until it is up again, then its visit is dead, to calls and to every round but a terminate
abbrev pub station_down : List Line
station_down =
    Step.Begin 2 6 300 400 gives 6  -- clock 2: 1
    ∷ Step.Invoke 6 2 1 25 7777 gives 0  -- 2
    ∷ Step.Deliver 0 gives 0  -- clock 6: 3
    ∷ Step.Deliver 0 gives 0  -- clock 2: 4
    ∷ Step.Invoke 6 2 0 27 0 gives 0  -- 5
    ∷ Step.Crash 6 gives 0  -- clock 6: 4
    ∷ Step.Deliver 0 refused_by 4
    ∷ Step.Tick 6 5 refused_by 4
    ∷ Step.Sweep 6 refused_by 4
    ∷ Step.Crash 6 refused_by 4
    ∷ Step.Begin 6 1 300 400 refused_by 4
    ∷ Step.Invoke 6 6 0 25 0 refused_by 4
    ∷ Step.Refresh 6 500 600 gives 1  -- clock 2: 6
    ∷ Step.Ask 6 6 gives 1  -- 7
    ∷ Step.Deliver 1 refused_by 4
    ∷ Step.Recover 6 gives 0  -- clock 6: 5
    ∷ Step.Recover 6 refused_by 5
    ∷ []

abbrev pub visit_dead : List Line
visit_dead =
    Step.Deliver 0 refused_by 8
    ∷ Step.Deliver 1 refused_by 8
    ∷ Step.Prepare 6 gives 2  -- clock 2: 8
    ∷ Step.Ask 6 6 gives 2  -- 9
    ∷ Step.Deliver 2 refused_by 8
    ∷ Step.Close 6 refused_by 12
    ∷ Step.Abort 6 gives 0  -- 10
    ∷ Step.Terminate 6 gives 3  -- 11
    ∷ Step.Ask 6 6 gives 3  -- 12
    ∷ Step.Deliver 3 gives 0  -- clock 6: 13
    ∷ Step.Deliver 3 gives 0  -- clock 2: 14
    -- of the two calls one was never received
    ∷ Step.Close 6 refused_by 12
    ∷ []

-- home 3, slot 2: a station that goes down between a refresh's two phases does not take the second, so its Q is not raised
abbrev pub refresh_too_late : List Line
refresh_too_late =
    Step.Begin 3 2 50 60 gives 2  -- clock 3: 1
    ∷ Step.Invoke 2 3 0 19 0 gives 0  -- 2
    ∷ Step.Deliver 0 gives 0  -- clock 4: 3
    ∷ Step.Deliver 0 gives 0  -- clock 3: 4
    ∷ Step.Refresh 2 150 160 gives 1  -- 5
    ∷ Step.Ask 2 4 gives 0  -- 6
    ∷ Step.Deliver 0 gives 0  -- clock 4: 7
    ∷ Step.Deliver 0 gives 0  -- clock 3: 8
    ∷ Step.Close 2 gives 2  -- 9
    ∷ Step.Tell 2 4 gives 0  -- 10
    ∷ Step.Crash 4 gives 0  -- clock 4: 8
    ∷ Step.Recover 4 gives 0  -- 9
    ∷ Step.Deliver 0 refused_by 8
    ∷ Step.Invoke 2 4 0 19 0 refused_by 8
    ∷ []

-- station 5 is home of slot 2, which is committing, and has given slot 3, of home 1, its promise; then it goes down
abbrev pub home_down : List Line
home_down =
    Step.Begin 5 2 300 400 gives 2  -- clock 5: 1
    ∷ Step.Begin 1 3 300 400 gives 3  -- clock 1: 1
    ∷ Step.Invoke 3 1 1 20 11111 gives 0  -- 2
    ∷ Step.Deliver 0 gives 0  -- clock 5: 3
    ∷ Step.Deliver 0 gives 0  -- clock 1: 4
    ∷ Step.Prepare 3 gives 1  -- 5
    ∷ Step.Ask 3 5 gives 0  -- 6
    ∷ Step.Deliver 0 gives 0  -- clock 5: 7
    ∷ Step.Prepare 2 gives 1  -- 8
    ∷ Step.Crash 5 gives 0  -- 9
    ∷ []

-- slot 2 can only be terminated, and slot 3 commits
abbrev pub home_up : List Line
home_up =
    Step.Refresh 2 500 600 refused_by 4
    ∷ Step.Terminate 2 refused_by 4
    ∷ Step.Prepare 2 refused_by 4
    ∷ Step.Ask 2 1 refused_by 4
    ∷ Step.Close 2 refused_by 4
    ∷ Step.Tell 2 1 refused_by 4
    ∷ Step.Abort 2 refused_by 4
    ∷ Step.Deliver 0 gives 0  -- clock 1: 8
    ∷ Step.Close 3 gives 2  -- 9
    ∷ Step.Tell 3 5 gives 0  -- 10
    ∷ Step.Deliver 0 refused_by 4
    ∷ Step.Recover 5 gives 0  -- clock 5: 10
    ∷ Step.Close 2 refused_by 5
    ∷ Step.Invoke 2 5 0 20 0 refused_by 8
    ∷ Step.Terminate 2 gives 2  -- 11
    ∷ Step.Deliver 0 gives 0  -- 12
    ∷ Step.Retire 3 gives 0
    ∷ Step.Close 2 gives 1  -- 13
    ∷ Step.Sweep 5 gives 1  -- 14
    ∷ Step.Retire 2 gives 0
    ∷ []

-- handed in: slot 3 is active at home 2 with a dead visit there whose Q is still to come, and a live one at station 4
abbrev pub dead_in_time : Tables
dead_in_time =
    put_visit
    (put_visit
    (put_passage start 3 (with_home (with_status (free_slot 0) Status.Active) 2))
    2
    3
    (quieted (new_visit 500 600 0) 500 false true))
    4
    3
    (new_visit 500 600 0)

-- a call neither leaves a dead visit nor reaches it, for the mark alone
abbrev pub dead_in_time_calls : List Line
dead_in_time_calls =
    Step.Invoke 3 2 0 8 0 refused_by 8
    ∷ Step.Invoke 3 4 0 9 0 gives 0  -- clock 4: 1
    ∷ Step.Deliver 0 refused_by 8
    ∷ []

-- home 0, slot 3: it is aborted, and then station 1, where it has a visit, goes down
abbrev pub away_down : List Line
away_down =
    Step.Begin 0 3 100 200 gives 3  -- clock 0: 1
    ∷ Step.Invoke 3 0 0 4 0 gives 0  -- 2
    ∷ Step.Deliver 0 gives 0  -- clock 1: 3
    ∷ Step.Deliver 0 gives 0  -- clock 0: 4
    ∷ Step.Abort 3 gives 0  -- 5
    ∷ Step.Crash 1 gives 0  -- clock 1: 4
    ∷ Step.Recover 1 gives 0  -- 5
    ∷ Step.Invoke 3 1 0 8 0 refused_by 8
    ∷ []

-- home 0, slot 1: home goes down while a refresh is in phase 2
abbrev pub refresh_down : List Line
refresh_down =
    Step.Begin 0 1 100 200 gives 1  -- clock 0: 1
    ∷ Step.Refresh 1 300 310 gives 1  -- 2
    ∷ Step.Close 1 gives 1  -- 3
    ∷ Step.Crash 0 gives 0  -- 4
    ∷ Step.Recover 0 gives 0  -- 5
    ∷ Step.Prepare 1 refused_by 5
    ∷ []

-- home 3, slot 10: an abort while a refresh is in phase 2, and then home goes down; the release time is still to come
abbrev pub aborted_down : List Line
aborted_down =
    Step.Begin 3 10 100 200 gives 10  -- clock 3: 1
    ∷ Step.Refresh 10 300 310 gives 1  -- 2
    ∷ Step.Close 10 gives 1  -- 3
    ∷ Step.Abort 10 gives 0  -- 4
    ∷ Step.Crash 3 gives 0  -- 5
    ∷ Step.Recover 3 gives 0  -- 6
    ∷ Step.Sweep 3 gives 0  -- 7
    ∷ []

-- home 2, slot 5: home goes down after the close of a commit, and tells station 1 when it is up again
abbrev pub closed_down : List Line
closed_down =
    Step.Begin 2 5 100 200 gives 5  -- clock 2: 1
    ∷ Step.Invoke 5 2 1 7 770 gives 0  -- 2
    ∷ Step.Deliver 0 gives 0  -- clock 1: 3
    ∷ Step.Deliver 0 gives 0  -- clock 2: 4
    ∷ Step.Prepare 5 gives 1  -- 5
    ∷ Step.Ask 5 1 gives 0  -- 6
    ∷ Step.Deliver 0 gives 0  -- clock 1: 7
    ∷ Step.Deliver 0 gives 0  -- clock 2: 8
    ∷ Step.Close 5 gives 2  -- 9
    ∷ Step.Crash 2 gives 0  -- 10
    ∷ Step.Recover 2 gives 0  -- 11
    ∷ Step.Tell 5 1 gives 0  -- 12
    ∷ Step.Deliver 0 gives 0  -- clock 1: 13
    ∷ []

-- home 7, slot 10: home goes down while the terminate of an aborted passage is open, and closes it when it is up again
abbrev pub terminate_goes_on : List Line
terminate_goes_on =
    Step.Begin 7 10 60 70 gives 10  -- clock 7: 1
    ∷ Step.Abort 10 gives 0  -- 2
    ∷ Step.Terminate 10 gives 1  -- 3
    ∷ Step.Crash 7 gives 0  -- 4
    ∷ Step.Recover 7 gives 0  -- 5
    ∷ Step.Close 10 gives 1  -- 6
    ∷ []

-- home 4, slot 6: a call arrives while home is down, and its station calls back toward home, where the visit is dead; the reply waits in slot 0
abbrev pub called_while_down : List Line
called_while_down =
    Step.Begin 4 6 60 70 gives 6  -- clock 4: 1
    ∷ Step.Invoke 6 4 1 31 310 gives 0  -- 2
    ∷ Step.Crash 4 gives 0  -- 3
    ∷ Step.Deliver 0 gives 0  -- clock 7: 3
    ∷ Step.Deliver 0 refused_by 4
    ∷ Step.Invoke 6 7 0 18 0 gives 1  -- 4
    ∷ Step.Deliver 1 refused_by 4
    ∷ Step.Recover 4 gives 0  -- clock 4: 4
    ∷ Step.Deliver 1 refused_by 8
    -- a reply asks for no living visit
    ∷ Step.Deliver 0 gives 0  -- 5
    ∷ []

-- home 1, slot 5: a terminate's word reaches a dead visit at station 6, and lets it be swept; the reply waits through all of it in slot 0
abbrev pub dead_is_told : List Line
dead_is_told =
    Step.Begin 1 5 60 70 gives 5  -- clock 1: 1
    ∷ Step.Invoke 5 1 1 24 2400 gives 0  -- 2
    ∷ Step.Deliver 0 gives 0  -- clock 6: 3
    ∷ Step.Crash 6 gives 0  -- 4
    ∷ Step.Recover 6 gives 0  -- 5
    ∷ Step.Abort 5 gives 0  -- clock 1: 3
    ∷ Step.Terminate 5 gives 1  -- 4
    ∷ Step.Ask 5 6 gives 1  -- 5
    ∷ Step.Deliver 1 gives 0  -- clock 6: 6
    ∷ Step.Deliver 1 gives 0  -- clock 1: 7
    ∷ Step.Close 5 gives 2  -- 8; the largest Q is 4, of the crash
    ∷ Step.Tell 5 6 gives 1  -- 9
    ∷ Step.Deliver 1 gives 0  -- clock 6: 10
    ∷ Step.Sweep 6 gives 1  -- 11
    ∷ Step.Deliver 0 gives 0  -- clock 1: 10
    ∷ []

abbrev pub crash_rows : List Row
crash_rows =
    -- a crash: what stands while the station is down, and then
    lines (station_down ++ visit_dead)
    (clock 2 14 ∷ clock 6 13 ∷ up 6 1 ∷ visit 6 6 4 400 3 1 ∷ dead 6 6 1 ∷ prepared 6 6 0 ∷ visit 2 6 8 600 3 0 ∷ dead 2 6 0
    ∷ prepared 2 6 0
    ∷ width 25 7777
    ∷ holder 25 (Some 6)
    ∷ status 6 Status.Aborted
    ∷ round 6 3 Phase.One
    ∷ mail 0 1
    ∷ mail 3 0
    ∷ [])
    -- a dead visit takes no phase 2 of a refresh
    ∷ lines refresh_too_late (clock 3 10 ∷ clock 4 9 ∷ visit 4 2 8 160 1 1 ∷ dead 4 2 1 ∷ visit 3 2 150 160 1 0 ∷ mail 0 1 ∷ [])
    -- a home goes down: its own passage is aborted, a promise to another one stands
    ∷ lines home_down
    (clock 5 9 ∷ up 5 0 ∷ status 2 Status.Aborted ∷ round 2 1 Phase.None ∷ visit 5 2 8 400 1 0 ∷ prepared 5 2 0 ∷ dead 5 2 1
    ∷ visit 5 3 7 400 1 1
    ∷ prepared 5 3 1
    ∷ dead 5 3 0
    ∷ status 3 Status.Committing
    ∷ [])
    -- and comes up again
    ∷ lines (home_down ++ home_up)
    (clock 5 14 ∷ clock 1 10 ∷ up 5 1 ∷ width 20 11111 ∷ holder 20 None ∷ status 2 Status.Free ∷ generation 2 1
    ∷ generation 3 1
    ∷ unvisited 5 2
    ∷ unvisited 5 3
    ∷ [])
    -- a dead visit before its Q
    ∷ lines_on dead_in_time dead_in_time_calls (clock 2 0 ∷ clock 4 1 ∷ visit 2 3 500 600 0 0 ∷ dead 2 3 1 ∷ mail 0 1 ∷ [])
    -- a crash away from home of an aborted passage
    ∷ lines away_down
    (clock 0 5 ∷ clock 1 5 ∷ up 1 1 ∷ status 3 Status.Aborted ∷ visit 1 3 4 200 0 1 ∷ dead 1 3 1 ∷ visit 0 3 5 200 0 0 ∷ dead 0 3 0 ∷ mail 0 0 ∷ [])
    -- a crash of home in phase 2 of a refresh
    ∷ lines refresh_down (clock 0 5 ∷ status 1 Status.Aborted ∷ round 1 1 Phase.None ∷ visit 0 1 4 310 1 0 ∷ dead 0 1 1 ∷ [])
    -- an abort in phase 2 of a refresh, and a crash of home after it
    ∷ lines aborted_down (clock 3 7 ∷ status 10 Status.Aborted ∷ round 10 1 Phase.None ∷ visit 3 10 4 310 1 0 ∷ dead 3 10 1 ∷ [])
    -- a crash of home after the close of a commit
    ∷ lines closed_down
    (clock 2 12 ∷ clock 1 13 ∷ status 5 Status.Committed ∷ round 5 1 Phase.Two ∷ unvisited 2 5 ∷ unvisited 1 5 ∷ width 7 770
    ∷ holder 7 None
    ∷ [])
    ∷ []

abbrev pub outage_rows : List Row
outage_rows =
    -- a crash of home leaves the round of a passage that is aborted already
    lines terminate_goes_on
    (clock 7 6 ∷ up 7 1 ∷ status 10 Status.Aborted ∷ round 10 1 Phase.Two ∷ visit 7 10 2 2 1 0 ∷ dead 7 10 1 ∷ [])
    -- calls from a home that is down, and toward it
    ∷ lines called_while_down
    (clock 4 5 ∷ clock 7 4 ∷ status 6 Status.Aborted ∷ visit 4 6 3 70 0 0 ∷ dead 4 6 1 ∷ visit 7 6 60 70 0 1 ∷ dead 7 6 0 ∷ width 31 310
    ∷ holder 31 (Some 6)
    ∷ mail 0 0
    ∷ mail 1 1
    ∷ [])
    -- a dead visit is told of a terminate
    ∷ lines dead_is_told
    (clock 1 10 ∷ clock 6 11 ∷ status 5 Status.Aborted ∷ round 5 1 Phase.Two ∷ visit 1 5 3 4 1 0 ∷ unvisited 6 5 ∷ width 24 0
    ∷ holder 24 None
    ∷ mail 0 0
    ∷ mail 1 0
    ∷ [])
    ∷ []

-- every crash is as the two documents say
pub crashes_hold : map found crash_rows ≡ map wanted crash_rows
unfolding found wanted
crashes_hold = refl

-- and every outage
pub outages_hold : map found outage_rows ≡ map wanted outage_rows
unfolding found wanted
outages_hold = refl
