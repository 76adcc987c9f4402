-- The second table of cases, mail: what comes late, what waits, and a full message table.
-- The answers were worked out by hand from the two documents; a clock beside a line is that of the acting station after it. Assumes nothing.
use Rattle.std.specs.Prelude.{ℕ, zero, suc, ◌≡◌, refl, List, [], ◌∷◌, ◌++◌, map}
use Rattle.trials.specs.Types.{Phase, Status, Step}
use Rattle.rules.specs.Rows.{Row, Line, ◌gives◌, ◌refused_by◌, lines, clock, width, status, round, visit, sent, mail, found, wanted}

-- home 4, slot 8: of two calls to station 6 one is delivered after the answer, so only the next round closes
abbrev pub late_call : List Line
late_call =
    Step.Begin 4 8 100 200 gives 8  -- clock 4: 1
    ∷ Step.Invoke 8 4 1 26 5005 gives 0  -- 2
    ∷ Step.Invoke 8 4 0 26 0 gives 1  -- 3
    ∷ Step.Deliver 0 gives 0  -- clock 6: 3
    ∷ Step.Deliver 0 gives 0  -- clock 4: 4
    ∷ Step.Refresh 8 300 400 gives 1  -- 5
    ∷ Step.Ask 8 6 gives 0  -- 6
    ∷ Step.Deliver 0 gives 0  -- clock 6: 7
    ∷ Step.Deliver 0 gives 0  -- clock 4: 8
    ∷ Step.Close 8 refused_by 12
    ∷ Step.Deliver 1 gives 0  -- clock 6: 8
    ∷ Step.Deliver 1 gives 5005  -- clock 4: 9
    ∷ Step.Close 8 refused_by 12
    ∷ Step.Ask 8 6 gives 0  -- 10
    -- the station has answered this round
    ∷ Step.Deliver 0 refused_by 9
    -- earlier times than the last: the later ones stay
    ∷ Step.Refresh 8 90 350 gives 2  -- 11
    ∷ Step.Ask 8 6 gives 1  -- 12
    ∷ Step.Deliver 1 gives 0  -- clock 6: 13
    ∷ Step.Deliver 0 refused_by 9
    ∷ Step.Deliver 1 gives 0  -- clock 4: 14
    ∷ Step.Close 8 gives 2  -- 15
    ∷ Step.Drop 0 gives 0
    ∷ []

-- home 1, slot 10: an answer of the round before, a word of the round before, and a word after a terminate, each refused by 9
abbrev pub late_round : List Line
late_round =
    Step.Begin 1 10 100 200 gives 10  -- clock 1: 1
    ∷ Step.Invoke 10 1 0 12 0 gives 0  -- 2
    ∷ Step.Deliver 0 gives 0  -- clock 3: 3
    ∷ Step.Deliver 0 gives 0  -- clock 1: 4
    ∷ Step.Refresh 10 150 250 gives 1  -- 5
    ∷ Step.Ask 10 3 gives 0  -- 6
    ∷ Step.Deliver 0 gives 0  -- clock 3: 7
    ∷ Step.Refresh 10 160 260 gives 2  -- clock 1: 7
    ∷ Step.Deliver 0 refused_by 9
    ∷ Step.Drop 0 gives 0
    ∷ Step.Ask 10 3 gives 0  -- 8
    ∷ Step.Deliver 0 gives 0  -- clock 3: 9
    ∷ Step.Deliver 0 gives 0  -- clock 1: 10
    ∷ Step.Close 10 gives 2  -- 11
    ∷ Step.Tell 10 3 gives 0  -- 12
    ∷ Step.Refresh 10 170 270 gives 3  -- 13
    ∷ Step.Ask 10 3 gives 1  -- 14
    ∷ Step.Deliver 1 gives 0  -- clock 3: 15
    ∷ Step.Deliver 0 refused_by 9
    ∷ Step.Abort 10 gives 0  -- clock 1: 15
    -- the round has its number, and is in no phase
    ∷ Step.Deliver 1 refused_by 9
    ∷ Step.Terminate 10 gives 4  -- 16
    ∷ Step.Ask 10 3 gives 2  -- 17
    ∷ Step.Deliver 2 gives 0  -- clock 3: 18
    ∷ Step.Deliver 0 refused_by 9
    ∷ []

-- this call n times, each in the next message slot
abbrev pub calls_up_to : Step → ℕ → List Line
calls_up_to call zero = []
calls_up_to call (suc n) = calls_up_to call n ++ (call gives n ∷ [])

-- home 5, slot 14: 32 calls to station 0 fill the table; a 33rd and a round's message are refused by 11 until a slot is empty
abbrev pub full_table : List Line
full_table =
    (Step.Begin 5 14 1000 1010 gives 14 ∷ [])  -- clock 5: 1
    ++ calls_up_to (Step.Invoke 14 5 0 1 0) 32  -- 2 to 33
    ++ (Step.Invoke 14 5 0 1 0 refused_by 11 ∷ Step.Refresh 14 2000 2010 gives 1  -- 34
    ∷ Step.Ask 14 0 refused_by 11
    ∷ Step.Deliver 31 gives 0  -- clock 0: 34
    -- the reply keeps the slot
    ∷ Step.Ask 14 0 refused_by 11
    ∷ Step.Deliver 31 gives 0  -- clock 5: 35
    ∷ Step.Ask 14 0 gives 31  -- 36
    ∷ Step.Drop 17 gives 0
    ∷ Step.Invoke 14 5 1 1 9999 gives 17  -- 37
    ∷ Step.Deliver 17 gives 0  -- clock 0: 38
    ∷ Step.Deliver 17 gives 0  -- clock 5: 39
    ∷ [])

-- home 5, slot 14: a refresh closes, 32 calls fill the table, and its word is refused by 11 until one of them is dropped
abbrev pub full_telling : List Line
full_telling =
    (Step.Begin 5 14 1000 1010 gives 14  -- clock 5: 1
    ∷ Step.Invoke 14 5 0 1 0 gives 0  -- 2
    ∷ Step.Deliver 0 gives 0  -- clock 0: 3
    ∷ Step.Deliver 0 gives 0  -- clock 5: 4
    ∷ Step.Refresh 14 1000 1010 gives 1  -- 5
    ∷ Step.Ask 14 0 gives 0  -- 6
    ∷ Step.Deliver 0 gives 0  -- clock 0: 7
    ∷ Step.Deliver 0 gives 0  -- clock 5: 8
    ∷ Step.Close 14 gives 2  -- 9
    ∷ [])
    ++ calls_up_to (Step.Invoke 14 5 0 1 0) 32  -- 10 to 41
    ++ (Step.Tell 14 0 refused_by 11 ∷ Step.Drop 31 gives 0 ∷ Step.Tell 14 0 gives 31  -- 42
    ∷ [])

-- home 4, slot 9: a question, an answer and a word above clock 1,000,000 carry it from station to station
abbrev pub late_clock : List Line
late_clock =
    Step.Begin 4 9 3000000 3000010 gives 9  -- clock 4: 1
    ∷ Step.Invoke 9 4 0 11 0 gives 0  -- 2
    ∷ Step.Deliver 0 gives 0  -- clock 2: 3
    ∷ Step.Deliver 0 gives 0  -- clock 4: 4
    ∷ Step.Tick 4 1000000 gives 1000004
    ∷ Step.Refresh 9 4000000 4000010 gives 1  -- clock 4: 1,000,005
    ∷ Step.Ask 9 2 gives 0  -- 1,000,006
    ∷ Step.Deliver 0 gives 0  -- clock 2: 1,000,007
    ∷ Step.Tick 2 1 gives 1000008
    ∷ Step.Deliver 0 gives 0  -- clock 4: 1,000,008
    ∷ Step.Close 9 gives 2  -- 1,000,009
    ∷ Step.Tell 9 2 gives 0  -- 1,000,010
    ∷ Step.Deliver 0 gives 0  -- clock 2: 1,000,011
    ∷ Step.Tick 2 1 gives 1000012
    ∷ []

-- home 3, slot 8: a call waits in message slot 0 while ticks, sweeps, a crash and other messages pass, and arrives as it was sent
abbrev pub call_waits : List Line
call_waits =
    Step.Begin 3 8 60 70 gives 8  -- clock 3: 1
    ∷ Step.Invoke 8 3 1 6 30000 gives 0  -- 2
    ∷ Step.Tick 3 1 gives 3
    ∷ Step.Tick 1 1 gives 1
    ∷ Step.Tick 2 1 gives 1
    ∷ Step.Sweep 3 gives 0  -- 4
    ∷ Step.Sweep 0 gives 0  -- clock 0: 1
    ∷ Step.Crash 5 gives 0  -- clock 5: 1
    ∷ Step.Recover 5 gives 0  -- 2
    ∷ Step.Begin 5 4 60 70 gives 4  -- 3
    ∷ Step.Invoke 8 3 0 13 0 gives 1  -- clock 3: 5
    ∷ Step.Deliver 1 gives 0  -- 6
    ∷ Step.Deliver 1 gives 0  -- 7
    ∷ Step.Invoke 4 5 1 9 900 gives 1  -- clock 5: 4
    ∷ Step.Drop 1 gives 0
    ∷ Step.Abort 4 gives 0  -- 5
    ∷ Step.Deliver 0 gives 0  -- clock 1: 3
    -- the stamp was 2
    ∷ Step.Tick 1 1 gives 4
    ∷ Step.Deliver 0 gives 0  -- clock 3: 8
    ∷ Step.Invoke 8 3 0 6 0 gives 0  -- 9
    ∷ Step.Deliver 0 gives 0  -- clock 1: 10
    ∷ Step.Deliver 0 gives 30000  -- clock 3: 11
    ∷ []

-- home 3, slot 2: a commit is asked, told and retired while twenty calls of slot 14 wait
abbrev pub twenty_wait : List Line
twenty_wait =
    (Step.Begin 5 14 1000 1010 gives 14 ∷ [])  -- clock 5: 1
    ++ calls_up_to (Step.Invoke 14 5 0 1 0) 20  -- 2 to 21
    ++ (Step.Begin 3 2 60 70 gives 2  -- clock 3: 1
    ∷ Step.Invoke 2 3 1 8 880 gives 20  -- 2
    ∷ Step.Deliver 20 gives 0  -- clock 2: 3
    ∷ Step.Deliver 20 gives 0  -- clock 3: 4
    ∷ Step.Prepare 2 gives 1  -- 5
    ∷ Step.Ask 2 2 gives 20  -- 6
    ∷ Step.Deliver 20 gives 0  -- clock 2: 7
    ∷ Step.Deliver 20 gives 0  -- clock 3: 8
    ∷ Step.Close 2 gives 2  -- 9
    ∷ Step.Tell 2 2 gives 20  -- 10
    -- the word is a message of it
    ∷ Step.Retire 2 refused_by 5
    ∷ Step.Deliver 20 gives 0  -- clock 2: 11
    ∷ Step.Retire 2 gives 0
    ∷ [])

abbrev pub mail_rows : List Row
mail_rows =
    -- two calls to one station, one delivered late
    lines
    late_call
    (clock 4 15 ∷ clock 6 13 ∷ visit 4 8 100 400 2 0 ∷ visit 6 8 100 400 2 2
    ∷ sent 4 8 (0 ∷ 0 ∷ 0 ∷ 0 ∷ 0 ∷ 0 ∷ 2 ∷ 0 ∷ [])
    ∷ round 8 2 Phase.Two
    ∷ width 26 5005
    ∷ mail 0 0
    ∷ [])
    -- what is of another round than the open one
    ∷ lines late_round
    (clock 1 17 ∷ clock 3 18 ∷ visit 3 10 18 270 4 1 ∷ round 10 4 Phase.One ∷ status 10 Status.Aborted ∷ mail 0 1 ∷ [])
    -- message 32 and 33
    ∷ lines full_table
    (clock 5 39 ∷ clock 0 38 ∷ sent 5 14 (33 ∷ 0 ∷ 0 ∷ 0 ∷ 0 ∷ 0 ∷ 0 ∷ 0 ∷ []) ∷ visit 0 14 1000 1010 0 2
    ∷ visit 5 14 1000 2010 1 0
    ∷ width 1 9999
    ∷ mail 17 0
    ∷ mail 31 1
    ∷ [])
    ∷ lines full_telling (clock 5 42 ∷ clock 0 7 ∷ sent 5 14 (33 ∷ 0 ∷ 0 ∷ 0 ∷ 0 ∷ 0 ∷ 0 ∷ 0 ∷ []) ∷ round 14 1 Phase.Two ∷ mail 30 1 ∷ mail 31 1 ∷ [])
    -- a round above clock 1,000,000
    ∷ lines late_clock (clock 4 1000010 ∷ clock 2 1000012 ∷ visit 2 9 4000000 4000010 1 1 ∷ visit 4 9 4000000 4000010 1 0 ∷ mail 0 0 ∷ [])
    ∷ []

abbrev pub waiting_rows : List Row
waiting_rows =
    -- what waits is left alone
    lines call_waits
    (clock 3 11 ∷ clock 1 10 ∷ clock 5 5 ∷ clock 2 1 ∷ clock 0 1 ∷ visit 1 8 60 70 0 2 ∷ sent 3 8 (0 ∷ 2 ∷ 0 ∷ 1 ∷ 0 ∷ 0 ∷ 0 ∷ 0 ∷ []) ∷ width 6 30000
    ∷ width 9 0
    ∷ mail 0 0
    ∷ [])
    -- what waits is in nobody's way
    ∷ lines twenty_wait
    (clock 5 21 ∷ clock 3 10 ∷ clock 2 11 ∷ status 2 Status.Free ∷ status 14 Status.Active ∷ width 8 880 ∷ mail 0 1 ∷ mail 19 1 ∷ mail 20 0 ∷ [])
    ∷ []

-- every message is as the two documents say
pub mails_hold : map found mail_rows ≡ map wanted mail_rows
unfolding found wanted
mails_hold = refl

-- and every message that waits
pub waits_hold : map found waiting_rows ≡ map wanted waiting_rows
unfolding found wanted
waits_hold = refl
