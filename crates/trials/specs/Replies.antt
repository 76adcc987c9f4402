-- The second table of cases, replies: what a delivered call leaves in its slot, where that goes, and what it gives there.
-- The answers were worked out by hand from the two documents; a clock beside a line is that of the acting station after it. Assumes nothing.
use Rattle.std.specs.Prelude.{ℕ, zero, suc, false, ◌≡◌, refl, List, [], ◌∷◌, ◌++◌, map, Some, None}
use Rattle.rules.specs.Tables.{start, put_site}
use Rattle.rules.specs.Rows.{Row, Line, ◌gives◌, ◌refused_by◌, lines_on, lines, clock, up, width, holder, before, status, generation, round, visit, unvisited, dead, sent, mail, post, found, wanted}
use Rattle.trials.specs.Types.{Phase, Status, Tables, Step}
use Rattle.trials.specs.Mail.{calls_up_to}
use Rattle.trials.specs.Refusals.{start_at}
use Rattle.trials.specs.Handed.{reply_on}

-- ---- what a reply is, and where it goes

-- home 2, slot 11 in generation 1: a call to station 5, whose clock is ahead
abbrev pub call_out : List Line
call_out =
    Step.Begin 2 11 60 70 gives 11  -- clock 2: 1
    ∷ Step.Prepare 11 gives 1  -- 2
    ∷ Step.Close 11 gives 1  -- 3
    ∷ Step.Retire 11 gives 0
    ∷ Step.Begin 2 11 60 70 gives 27  -- 4
    ∷ Step.Invoke 27 2 1 21 8800 gives 0  -- 5
    ∷ Step.Tick 5 30 gives 30
    ∷ []

-- it is delivered
abbrev pub call_in : List Line
call_in =
    Step.Deliver 0 gives 0  -- clock 5: 31
    ∷ []

-- and its reply is collected, once
abbrev pub reply_home : List Line
reply_home =
    Step.Deliver 0 gives 0  -- clock 2: 32
    ∷ Step.Deliver 0 refused_by 3
    ∷ []

-- home 1, slot 6: two writes of object 14 and two reads; each reply carries the width before its own call, 0, 7,100, 7,100 and 1,000,000
abbrev pub widths_back : List Line
widths_back =
    Step.Begin 1 6 60 70 gives 6  -- clock 1: 1
    ∷ Step.Invoke 6 1 1 14 7100 gives 0  -- 2
    ∷ Step.Deliver 0 gives 0  -- clock 3: 3
    ∷ Step.Deliver 0 gives 0  -- clock 1: 4
    ∷ Step.Invoke 6 1 0 14 0 gives 0  -- 5
    ∷ Step.Deliver 0 gives 0  -- clock 3: 6
    ∷ Step.Deliver 0 gives 7100  -- clock 1: 7
    ∷ Step.Invoke 6 1 1 14 1000000 gives 0  -- 8
    ∷ Step.Deliver 0 gives 0  -- clock 3: 9
    -- not 0, which it was when the passage took it, and not 1,000,000
    ∷ Step.Deliver 0 gives 7100  -- clock 1: 10
    ∷ Step.Invoke 6 1 0 14 0 gives 0  -- 11
    ∷ Step.Deliver 0 gives 0  -- clock 3: 12
    ∷ Step.Deliver 0 gives 1000000  -- clock 1: 13
    ∷ []

-- home 0, slot 2: of two calls the first is dropped, and the reply of the second stays in slot 1
abbrev pub own_slot : List Line
own_slot =
    Step.Begin 0 2 60 70 gives 2  -- clock 0: 1
    ∷ Step.Invoke 2 0 0 31 0 gives 0  -- 2
    ∷ Step.Invoke 2 0 1 31 400 gives 1  -- 3
    ∷ Step.Drop 0 gives 0
    ∷ Step.Deliver 1 gives 0  -- clock 7: 4
    ∷ []

-- a new call takes slot 0
abbrev pub other_slot : List Line
other_slot =
    Step.Invoke 2 0 0 31 0 gives 0  -- clock 0: 4
    ∷ Step.Deliver 0 gives 0  -- clock 7: 5
    ∷ Step.Deliver 1 gives 0  -- clock 0: 5
    ∷ Step.Deliver 0 gives 400  -- 6
    ∷ []

-- home 6, slot 9: both calls and both replies within station 6
abbrev pub one_station : List Line
one_station =
    Step.Begin 6 9 60 70 gives 9  -- clock 6: 1
    ∷ Step.Invoke 9 6 1 27 5050 gives 0  -- 2
    ∷ Step.Deliver 0 gives 0  -- 3
    ∷ Step.Invoke 9 6 0 27 0 gives 1  -- 4
    ∷ Step.Deliver 1 gives 0  -- 5
    ∷ []

abbrev pub one_station_home : List Line
one_station_home =
    Step.Deliver 1 gives 5050  -- clock 6: 6
    ∷ Step.Deliver 0 gives 0  -- 7
    ∷ []

-- home 4, slot 10: station 5 calls station 1, and the replies go to station 5, not home
abbrev pub not_home : List Line
not_home =
    Step.Begin 4 10 60 70 gives 10  -- clock 4: 1
    ∷ Step.Invoke 10 4 0 20 0 gives 0  -- 2
    ∷ Step.Deliver 0 gives 0  -- clock 5: 3
    ∷ Step.Deliver 0 gives 0  -- clock 4: 4
    ∷ Step.Invoke 10 5 1 7 6600 gives 0  -- clock 5: 4
    ∷ Step.Deliver 0 gives 0  -- clock 1: 5
    ∷ Step.Invoke 10 5 0 7 0 gives 1  -- clock 5: 5
    ∷ Step.Deliver 1 gives 0  -- clock 1: 6
    ∷ []

abbrev pub not_home_back : List Line
not_home_back =
    Step.Deliver 1 gives 6600  -- clock 5: 7
    ∷ Step.Deliver 0 gives 0  -- 8
    ∷ []

-- ---- what has changed since the call was delivered

-- home 3, slot 7, Q 10: the replies come home at 9 and at 10, where a call no longer goes out
abbrev pub past_quiet : List Line
past_quiet =
    Step.Begin 3 7 10 20 gives 7  -- clock 3: 1
    ∷ Step.Invoke 7 3 1 8 800 gives 0  -- 2
    ∷ Step.Invoke 7 3 0 8 0 gives 1  -- 3
    ∷ Step.Deliver 0 gives 0  -- clock 2: 3
    ∷ Step.Deliver 1 gives 0  -- 4
    ∷ Step.Tick 3 5 gives 8
    ∷ Step.Deliver 0 gives 0  -- clock 3: 9
    ∷ Step.Invoke 7 3 0 8 0 refused_by 8
    ∷ Step.Deliver 1 gives 800  -- 10
    ∷ []

-- home 1, slot 13: aborted, and swept at both stations; the width is 0 again, and the reply still carries what the read found
abbrev pub swept_since : List Line
swept_since =
    Step.Begin 1 13 60 70 gives 13  -- clock 1: 1
    ∷ Step.Invoke 13 1 1 18 4400 gives 0  -- 2
    ∷ Step.Invoke 13 1 0 18 0 gives 1  -- 3
    ∷ Step.Deliver 0 gives 0  -- clock 4: 3
    ∷ Step.Deliver 1 gives 0  -- 4
    ∷ Step.Abort 13 gives 0  -- clock 1: 4
    ∷ Step.Deliver 0 gives 0  -- 5
    ∷ Step.Tick 1 100 gives 105
    ∷ Step.Sweep 1 gives 1  -- 106
    ∷ Step.Tick 4 100 gives 104
    ∷ Step.Sweep 4 gives 1  -- clock 4: 105
    -- the reply is a message of it
    ∷ Step.Retire 13 refused_by 5
    -- no visit is there, and none is made
    ∷ Step.Deliver 1 gives 4400  -- clock 1: 107
    ∷ []

-- home 0, slot 4: one reply comes in phase 1 of the commit, one after it is told, and one is dropped
abbrev pub committed_since : List Line
committed_since =
    Step.Begin 0 4 60 70 gives 4  -- clock 0: 1
    ∷ Step.Invoke 4 0 1 30 3000 gives 0  -- 2
    ∷ Step.Invoke 4 0 0 30 0 gives 1  -- 3
    ∷ Step.Invoke 4 0 0 30 0 gives 2  -- 4
    ∷ Step.Deliver 0 gives 0  -- clock 7: 3
    ∷ Step.Deliver 1 gives 0  -- 4
    ∷ Step.Deliver 2 gives 0  -- 5
    ∷ Step.Prepare 4 gives 1  -- clock 0: 5
    -- home's Q is 5
    ∷ Step.Deliver 1 gives 3000  -- 6
    ∷ Step.Ask 4 7 gives 1  -- 7
    ∷ Step.Deliver 1 gives 0  -- clock 7: 8
    ∷ Step.Deliver 1 gives 0  -- clock 0: 9
    ∷ Step.Close 4 gives 2  -- 10
    ∷ Step.Tell 4 7 gives 1  -- 11
    ∷ Step.Deliver 1 gives 0  -- clock 7: 12
    -- two replies remain, and no visit
    ∷ Step.Retire 4 refused_by 5
    ∷ Step.Deliver 2 gives 3000  -- clock 0: 12
    ∷ Step.Retire 4 refused_by 5
    ∷ Step.Drop 0 gives 0
    ∷ Step.Retire 4 gives 0
    ∷ []

-- home 5, slot 12: both replies are lost, and the commit closes
abbrev pub lost_replies : List Line
lost_replies =
    Step.Begin 5 12 60 70 gives 12  -- clock 5: 1
    ∷ Step.Invoke 12 5 1 11 1100 gives 0  -- 2
    ∷ Step.Invoke 12 5 1 26 2600 gives 1  -- 3
    ∷ Step.Deliver 0 gives 0  -- clock 2: 3
    ∷ Step.Deliver 1 gives 0  -- clock 6: 4
    ∷ Step.Drop 0 gives 0
    ∷ Step.Drop 1 gives 0
    ∷ Step.Drop 1 refused_by 3
    ∷ Step.Prepare 12 gives 1  -- clock 5: 4
    ∷ Step.Ask 12 2 gives 0  -- 5
    ∷ Step.Ask 12 6 gives 1  -- 6
    ∷ Step.Deliver 0 gives 0  -- clock 2: 6
    ∷ Step.Deliver 1 gives 0  -- clock 6: 7
    ∷ Step.Deliver 0 gives 0  -- clock 5: 7
    ∷ Step.Deliver 1 gives 0  -- 8
    ∷ Step.Close 12 gives 3  -- 9
    ∷ []

-- home 3, slot 1: two replies are in flight when home goes down, and then the station that they come from
abbrev pub caller_down : List Line
caller_down =
    Step.Begin 3 1 60 70 gives 1  -- clock 3: 1
    ∷ Step.Invoke 1 3 1 5 5500 gives 0  -- 2
    ∷ Step.Invoke 1 3 0 5 0 gives 1  -- 3
    ∷ Step.Deliver 0 gives 0  -- clock 1: 3
    ∷ Step.Deliver 1 gives 0  -- 4
    ∷ Step.Crash 3 gives 0  -- clock 3: 4
    ∷ Step.Deliver 1 refused_by 4
    ∷ Step.Crash 1 gives 0  -- clock 1: 5
    ∷ []

-- home is up again, where the visit is dead, and the other station is still down
abbrev pub caller_up : List Line
caller_up =
    Step.Recover 3 gives 0  -- clock 3: 5
    ∷ Step.Deliver 1 gives 5500  -- 6
    ∷ Step.Deliver 0 gives 0  -- 7
    ∷ Step.Invoke 1 3 0 5 0 refused_by 8
    ∷ []

-- ---- the last clock, and a full message table

-- the start, with station 0 down and its clock at the last
abbrev pub down_at_last : Tables
down_at_last = put_site start 0 (record { clock = 2000000000; up = false })

-- the first n message slots are delivered, each with value 0
abbrev pub delivers_up_to : ℕ → List Line
delivers_up_to zero = []
delivers_up_to (suc n) = delivers_up_to n ++ (Step.Deliver n gives 0 ∷ [])

-- home 5, slot 14: 32 calls to station 0 are delivered and no reply is collected; 11 until one is collected or dropped
abbrev pub full_of_replies : List Line
full_of_replies =
    (Step.Begin 5 14 1000 1010 gives 14 ∷ [])  -- clock 5: 1
    ++ calls_up_to (Step.Invoke 14 5 0 1 0) 32  -- 2 to 33
    ++ delivers_up_to 32  -- clock 0: 3 to 34
    ++ (Step.Invoke 14 5 0 1 0 refused_by 11 ∷ Step.Refresh 14 2000 2010 gives 1  -- clock 5: 34
    ∷ Step.Ask 14 0 refused_by 11
    ∷ Step.Deliver 8 gives 0  -- 35
    ∷ Step.Invoke 14 5 1 1 70 gives 8  -- 36
    ∷ Step.Invoke 14 5 0 1 0 refused_by 11
    ∷ Step.Drop 20 gives 0
    ∷ Step.Ask 14 0 gives 20  -- 37
    ∷ [])

abbrev pub reply_rows : List Row
reply_rows =
    -- a call goes out from station 2 to station 5, stamped 5
    lines call_out (clock 2 5 ∷ clock 5 30 ∷ mail 0 1 ∷ post 0 2 5 27 5 ∷ [])
    -- delivered, its slot holds the reply: the stations the other way round, the same handle, stamped with the clock of station 5
    ∷ lines (call_out ++ call_in)
    (clock 2 5 ∷ clock 5 31 ∷ mail 0 1 ∷ post 0 5 2 27 31 ∷ mail 1 0 ∷ visit 5 11 60 70 0 1 ∷ width 21 8800 ∷ [])
    -- collected, the slot is all 0, and at station 2 the clock alone has moved
    ∷ lines (call_out ++ call_in ++ reply_home)
    (clock 2 32 ∷ clock 5 31 ∷ mail 0 0 ∷ post 0 0 0 0 0 ∷ visit 2 11 60 70 0 0 ∷ sent 2 11 (0 ∷ 0 ∷ 0 ∷ 0 ∷ 0 ∷ 1 ∷ 0 ∷ 0 ∷ [])
    ∷ visit 5 11 60 70 0 1
    ∷ sent 5 11 (0 ∷ 0 ∷ 0 ∷ 0 ∷ 0 ∷ 0 ∷ 0 ∷ 0 ∷ [])
    ∷ [])
    -- what a reply carries, of a read and of a write
    ∷ lines widths_back
    (clock 1 13 ∷ clock 3 12 ∷ width 14 1000000 ∷ holder 14 (Some 6) ∷ before 14 0 ∷ visit 1 6 60 70 0 0 ∷ visit 3 6 60 70 0 4
    ∷ sent 1 6 (0 ∷ 0 ∷ 0 ∷ 4 ∷ 0 ∷ 0 ∷ 0 ∷ 0 ∷ [])
    ∷ sent 3 6 (0 ∷ 0 ∷ 0 ∷ 0 ∷ 0 ∷ 0 ∷ 0 ∷ 0 ∷ [])
    ∷ round 6 0 Phase.None
    ∷ mail 0 0
    ∷ [])
    -- a reply keeps the slot of its call, though a lower one is empty
    ∷ lines own_slot (clock 0 3 ∷ clock 7 4 ∷ mail 0 0 ∷ mail 1 1 ∷ post 1 7 0 2 4 ∷ mail 2 0 ∷ [])
    ∷ lines (own_slot ++ other_slot) (clock 0 6 ∷ clock 7 5 ∷ visit 7 2 60 70 0 2 ∷ mail 0 0 ∷ mail 1 0 ∷ [])
    -- replies within one station
    ∷ lines one_station (clock 6 5 ∷ mail 0 1 ∷ post 0 6 6 9 3 ∷ mail 1 1 ∷ post 1 6 6 9 5 ∷ visit 6 9 60 70 0 2 ∷ [])
    ∷ lines (one_station ++ one_station_home)
    (clock 6 7 ∷ mail 0 0 ∷ mail 1 0 ∷ visit 6 9 60 70 0 2 ∷ sent 6 9 (0 ∷ 0 ∷ 0 ∷ 0 ∷ 0 ∷ 0 ∷ 2 ∷ 0 ∷ []) ∷ [])
    -- replies to a caller that is not home, whose clock stays
    ∷ lines not_home (clock 4 4 ∷ clock 5 5 ∷ clock 1 6 ∷ mail 0 1 ∷ post 0 1 5 10 5 ∷ mail 1 1 ∷ post 1 1 5 10 6 ∷ [])
    ∷ lines (not_home ++ not_home_back) (clock 4 4 ∷ clock 5 8 ∷ clock 1 6 ∷ mail 0 0 ∷ mail 1 0 ∷ visit 5 10 60 70 0 1 ∷ visit 1 10 60 70 0 2 ∷ [])
    ∷ []

abbrev pub late_reply_rows : List Row
late_reply_rows =
    -- at Q
    lines
    past_quiet
    (clock 3 10 ∷ clock 2 4 ∷ visit 3 7 10 20 0 0 ∷ mail 0 0 ∷ mail 1 0 ∷ [])
    -- after an abort, with no visit left
    ∷ lines swept_since
    (clock 1 107 ∷ clock 4 105 ∷ status 13 Status.Aborted ∷ unvisited 1 13 ∷ unvisited 4 13 ∷ width 18 0 ∷ holder 18 None
    ∷ mail 0 0
    ∷ mail 1 0
    ∷ [])
    -- while a commit is open, and after it
    ∷ lines committed_since
    (clock 0 12 ∷ clock 7 12 ∷ status 4 Status.Free ∷ generation 4 1 ∷ unvisited 0 4 ∷ unvisited 7 4 ∷ width 30 3000 ∷ holder 30 None
    ∷ mail 0 0
    ∷ mail 1 0
    ∷ mail 2 0
    ∷ [])
    -- a lost reply stops no round
    ∷ lines lost_replies
    (clock 5 9 ∷ clock 2 6 ∷ clock 6 7 ∷ status 12 Status.Committed ∷ round 12 1 Phase.Two ∷ unvisited 5 12 ∷ width 11 1100 ∷ width 26 2600
    ∷ mail 0 0
    ∷ mail 1 0
    ∷ [])
    -- a crash leaves replies in flight, at either end
    ∷ lines caller_down
    (clock 3 4 ∷ clock 1 5 ∷ up 3 0 ∷ up 1 0 ∷ mail 0 1 ∷ post 0 1 3 1 3 ∷ mail 1 1 ∷ post 1 1 3 1 4 ∷ [])
    -- and each gives its value when the caller is up again
    ∷ lines (caller_down ++ caller_up)
    (clock 3 7 ∷ clock 1 5 ∷ up 3 1 ∷ up 1 0 ∷ status 1 Status.Aborted ∷ visit 3 1 4 70 0 0 ∷ dead 3 1 1 ∷ visit 1 1 5 70 0 2 ∷ dead 1 1 1
    ∷ mail 0 0
    ∷ mail 1 0
    ∷ [])
    ∷ []

abbrev pub reply_limit_rows : List Row
reply_limit_rows =
    -- handed in, for a passage slot that is free: no passage is looked at
    lines_on
    (reply_on start 4095 0 1000000)
    (Step.Deliver 30 gives 1000000 ∷ Step.Deliver 30 refused_by 3 ∷ [])
    (clock 0 1 ∷ status 15 Status.Free ∷ unvisited 0 15 ∷ mail 30 0 ∷ [])
    -- 7, by the clock, and one below
    ∷ lines_on (reply_on (start_at 0 1999999999) 0 0 777) (Step.Deliver 30 gives 777 ∷ []) (clock 0 2000000000 ∷ mail 30 0 ∷ [])
    ∷ lines_on (reply_on (start_at 0 2000000000) 0 0 777) (Step.Deliver 30 refused_by 7 ∷ []) (clock 0 2000000000 ∷ mail 30 1 ∷ [])
    -- 7, by the stamp, and one below
    ∷ lines_on (reply_on start 0 1999999999 777) (Step.Deliver 30 gives 777 ∷ []) (clock 0 2000000000 ∷ mail 30 0 ∷ [])
    ∷ lines_on (reply_on start 0 2000000000 777) (Step.Deliver 30 refused_by 7 ∷ []) (clock 0 0 ∷ mail 30 1 ∷ post 30 7 0 0 2000000000 ∷ [])
    -- a drop looks at no clock
    ∷ lines_on (reply_on (start_at 0 2000000000) 0 2000000000 777) (Step.Drop 30 gives 0 ∷ []) (clock 0 2000000000 ∷ mail 30 0 ∷ [])
    -- 4 before 7
    ∷ lines_on (reply_on down_at_last 0 2000000000 777) (Step.Deliver 30 refused_by 4 ∷ []) (up 0 0 ∷ mail 30 1 ∷ [])
    -- 32 replies
    ∷ lines full_of_replies
    (clock 5 37 ∷ clock 0 34 ∷ sent 5 14 (33 ∷ 0 ∷ 0 ∷ 0 ∷ 0 ∷ 0 ∷ 0 ∷ 0 ∷ []) ∷ visit 0 14 1000 1010 0 32 ∷ post 8 5 0 14 36 ∷ post 20 5 0 14 37
    ∷ mail 31 1
    ∷ post 31 0 5 14 34
    ∷ [])
    ∷ []

-- every reply is as the two documents say
pub replies_hold : map found reply_rows ≡ map wanted reply_rows
unfolding found wanted
replies_hold = refl

-- and every one that comes late
pub late_replies_hold : map found late_reply_rows ≡ map wanted late_reply_rows
unfolding found wanted
late_replies_hold = refl

-- and the last clock, and the last message slot
pub reply_limits_hold : map found reply_limit_rows ≡ map wanted reply_limit_rows
unfolding found wanted
reply_limits_hold = refl
