-- The second table of cases, refusals: a field that no step has, a field out of range, a wrong state, the last clock, call and round.
-- The answers were worked out by hand from documents 01 and 02; a clock beside a line is that of the acting station after it. Assumes nothing.
use Rattle.std.specs.Prelude.{ℕ, true, false, ◌≡◌, refl, List, [], ◌∷◌, ◌++◌, map, replicate, set, Some, None}
use Rattle.rules.specs.Tables.{start, no_counts, no_round, put_site, put_passage, put_visit}
use Rattle.rules.specs.Rows.{Row, Line, ◌gives◌, ◌refused_by◌, run, accepted, refused, lines_on, lines, clock, holder, status, generation, round, visit, unvisited, sent, mail, post, found, wanted}
use Rattle.trials.specs.Types.{Kind, Phase, Status, Tables, Step}
use Rattle.trials.specs.Mail.{calls_up_to}

-- ---- 1, byte by byte: "code unknown, or an unnamed field isn't 0"

-- sixteen bytes, of which the last eight are 0
abbrev pub bytes : ℕ → ℕ → ℕ → ℕ → ℕ → ℕ → ℕ → ℕ → List ℕ
bytes code a b c h i y z = code ∷ a ∷ b ∷ c ∷ h ∷ i ∷ y ∷ z ∷ replicate 8 0

-- sweep of station 3 with a stray byte in each unnamed field, then with none; before it, two codes that are unknown
abbrev pub stray_bytes : List (List ℕ)
stray_bytes =
    bytes 0 3 0 0 0 0 0 0 ∷ bytes 255 3 0 0 0 0 0 0 ∷ bytes 13 3 1 0 0 0 0 0 ∷ bytes 13 3 0 1 0 0 0 0
    ∷ bytes 13 3 0 0 1 0 0 0
    ∷ bytes 13 3 0 0 0 1 0 0
    ∷ bytes 13 3 0 0 0 0 1 0
    ∷ bytes 13 3 0 0 0 0 0 1
    ∷ (13 ∷ 3 ∷ (replicate 6 0 ++ (1 ∷ replicate 7 0)))
    ∷ (13 ∷ 3 ∷ (replicate 13 0 ++ (1 ∷ [])))
    ∷ bytes 13 3 0 0 0 0 0 0
    ∷ []

-- ---- 2, each with a number one too high, or a read with a value; then the highest that is in range

abbrev pub wide_fields : List Line
wide_fields =
    Step.Tick 8 1 refused_by 2
    ∷ Step.Tick 3 1000001 refused_by 2
    ∷ Step.Begin 8 15 100 200 refused_by 2
    ∷ Step.Begin 3 16 100 200 refused_by 2
    ∷ Step.Begin 3 15 999999990 1000000001 refused_by 2
    ∷ Step.Begin 3 15 999999990 1000000000 gives 15  -- clock 3: 1
    ∷ Step.Invoke 15 3 2 31 0 refused_by 2
    ∷ Step.Invoke 15 3 0 32 0 refused_by 2
    ∷ Step.Invoke 15 3 0 31 1 refused_by 2
    ∷ Step.Invoke 15 3 1 31 1000001 refused_by 2
    ∷ Step.Invoke 15 8 0 31 0 refused_by 2
    ∷ Step.Invoke 4096 3 0 31 0 refused_by 2
    ∷ Step.Refresh 15 300 299 refused_by 2
    ∷ Step.Refresh 15 300 1000000001 refused_by 2
    ∷ Step.Prepare 4096 refused_by 2
    ∷ Step.Abort 4096 refused_by 2
    ∷ Step.Abort 4095 refused_by 3
    ∷ Step.Retire 4096 refused_by 2
    ∷ Step.Ask 15 8 refused_by 2
    ∷ Step.Tell 15 8 refused_by 2
    ∷ Step.Deliver 32 refused_by 2
    ∷ Step.Drop 32 refused_by 2
    ∷ Step.Drop 31 refused_by 3
    ∷ Step.Sweep 8 refused_by 2
    ∷ Step.Crash 8 refused_by 2
    ∷ Step.Recover 8 refused_by 2
    ∷ Step.Tick 7 1000000 gives 1000000
    ∷ []

-- ---- 2 for handle 4,096, whose slot is 0 and in use, and 3 for handle 4,095, whose slot is 15 and free

abbrev pub wide_handles : List Line
wide_handles =
    Step.Begin 1 0 60 70 gives 0  -- clock 1: 1
    ∷ Step.Invoke 4096 1 0 9 0 refused_by 2
    ∷ Step.Refresh 4096 80 90 refused_by 2
    ∷ Step.Terminate 4096 refused_by 2
    ∷ Step.Prepare 4096 refused_by 2
    ∷ Step.Ask 4096 2 refused_by 2
    ∷ Step.Close 4096 refused_by 2
    ∷ Step.Tell 4096 2 refused_by 2
    ∷ Step.Abort 4096 refused_by 2
    ∷ Step.Retire 4096 refused_by 2
    ∷ Step.Abort 65535 refused_by 2
    ∷ Step.Invoke 4095 1 0 9 0 refused_by 3
    ∷ Step.Refresh 4095 80 90 refused_by 3
    ∷ Step.Terminate 4095 refused_by 3
    ∷ Step.Prepare 4095 refused_by 3
    ∷ Step.Ask 4095 2 refused_by 3
    ∷ Step.Close 4095 refused_by 3
    ∷ Step.Tell 4095 2 refused_by 3
    ∷ Step.Abort 4095 refused_by 3
    ∷ Step.Retire 4095 refused_by 3
    ∷ []

-- ---- 5, home 6, slot 7: active, committing, committed

abbrev pub wrong_states : List Line
wrong_states =
    Step.Begin 6 7 100 200 gives 7  -- clock 6: 1
    ∷ Step.Begin 2 7 100 200 refused_by 5
    ∷ Step.Ask 7 2 refused_by 5
    ∷ Step.Close 7 refused_by 5
    ∷ Step.Tell 7 2 refused_by 5
    ∷ Step.Terminate 7 refused_by 5
    ∷ Step.Retire 7 refused_by 5
    ∷ Step.Prepare 7 gives 1  -- 2
    ∷ Step.Refresh 7 300 400 refused_by 5
    ∷ Step.Terminate 7 refused_by 5
    ∷ Step.Retire 7 refused_by 5
    ∷ Step.Ask 7 6 refused_by 5
    ∷ Step.Tell 7 2 refused_by 5
    -- a prepare may follow a prepare
    ∷ Step.Prepare 7 gives 2  -- 3
    ∷ Step.Close 7 gives 1  -- 4
    ∷ Step.Refresh 7 300 400 refused_by 5
    ∷ Step.Terminate 7 refused_by 5
    ∷ Step.Ask 7 2 refused_by 5
    ∷ Step.Prepare 7 refused_by 5
    ∷ Step.Abort 7 refused_by 5
    ∷ Step.Close 7 refused_by 5
    ∷ Step.Tell 7 6 refused_by 5
    ∷ Step.Tell 7 2 refused_by 5
    ∷ Step.Retire 7 gives 0
    ∷ []

-- ---- 5, home 4, slot 13, aborted in phase 1 of a refresh: in phase none, and in phase 2 of its terminate

abbrev pub aborted_states : List Line
aborted_states =
    Step.Begin 4 13 60 70 gives 13  -- clock 4: 1
    ∷ Step.Invoke 13 4 0 23 0 gives 0  -- 2
    ∷ Step.Deliver 0 gives 0  -- clock 5: 3
    ∷ Step.Deliver 0 gives 0  -- clock 4: 4
    ∷ Step.Refresh 13 80 90 gives 1  -- 5
    ∷ Step.Ask 13 5 gives 0  -- 6
    ∷ Step.Deliver 0 gives 0  -- clock 5: 7
    ∷ Step.Deliver 0 gives 0  -- clock 4: 8
    -- station 5 has answered, and the round is not closed
    ∷ Step.Tell 13 5 refused_by 5
    ∷ Step.Abort 13 gives 0  -- 9
    ∷ Step.Begin 4 13 60 70 refused_by 5
    ∷ Step.Refresh 13 90 100 refused_by 5
    ∷ Step.Prepare 13 refused_by 5
    ∷ Step.Ask 13 5 refused_by 5
    ∷ Step.Close 13 refused_by 5
    ∷ Step.Tell 13 5 refused_by 5
    ∷ Step.Abort 13 refused_by 5
    ∷ Step.Retire 13 refused_by 5
    -- home's Q is 9, that of station 5 is 60
    ∷ Step.Invoke 13 4 0 23 0 refused_by 8
    ∷ Step.Invoke 13 5 0 22 0 gives 0  -- clock 5: 8
    ∷ Step.Deliver 0 gives 0  -- 9
    ∷ Step.Deliver 0 gives 0  -- 10
    ∷ Step.Terminate 13 gives 2  -- clock 4: 10
    ∷ Step.Tell 13 5 refused_by 5
    ∷ Step.Ask 13 4 refused_by 5
    ∷ Step.Ask 13 5 gives 0  -- 11
    ∷ Step.Deliver 0 gives 0  -- clock 5: 12
    ∷ Step.Deliver 0 gives 0  -- clock 4: 13
    ∷ Step.Close 13 gives 2  -- 14; the largest Q is 12, of station 5
    ∷ Step.Refresh 13 90 100 refused_by 5
    ∷ Step.Prepare 13 refused_by 5
    ∷ Step.Ask 13 5 refused_by 5
    ∷ Step.Close 13 refused_by 5
    ∷ Step.Tell 13 3 refused_by 5
    ∷ Step.Abort 13 refused_by 5
    ∷ Step.Retire 13 refused_by 5
    ∷ []

-- ---- 8, home 5, slot 3, Q 10 and R 20: a call goes out and comes in at 9 and not at 10, its reply at 10 too, a sweep releases at 20 and not at 19

abbrev pub on_time : List Line
on_time =
    Step.Begin 5 3 10 20 gives 3  -- clock 5: 1
    ∷ Step.Tick 5 6 gives 7
    ∷ Step.Invoke 3 5 0 2 0 gives 0  -- 8
    ∷ Step.Invoke 3 5 0 2 0 gives 1  -- 9
    ∷ Step.Invoke 3 5 0 2 0 refused_by 8
    ∷ Step.Deliver 0 gives 0  -- clock 0: 9
    ∷ Step.Deliver 1 refused_by 8
    ∷ Step.Deliver 0 gives 0  -- clock 5: 10
    ∷ Step.Tick 5 8 gives 18
    ∷ Step.Sweep 5 gives 0  -- 19
    ∷ Step.Sweep 5 gives 1  -- 20
    ∷ Step.Tick 0 20 gives 29
    ∷ Step.Sweep 0 gives 1  -- clock 0: 30
    -- a message of it remains
    ∷ Step.Retire 3 refused_by 5
    ∷ Step.Drop 1 gives 0
    ∷ Step.Retire 3 gives 0
    ∷ []

-- ---- which of two: 8 before 10, of home 2, slot 4, for an object that home 1, slot 3, holds; 4 before 5

abbrev pub which_first : List Line
which_first =
    Step.Begin 1 3 100 200 gives 3  -- clock 1: 1
    ∷ Step.Begin 2 4 10 20 gives 4  -- clock 2: 1
    ∷ Step.Invoke 3 1 1 15 1500 gives 0  -- clock 1: 2
    ∷ Step.Invoke 4 2 0 15 0 gives 1  -- clock 2: 2
    ∷ Step.Deliver 0 gives 0  -- clock 3: 3
    ∷ Step.Deliver 0 gives 0  -- clock 1: 4
    ∷ Step.Deliver 1 refused_by 10
    ∷ Step.Tick 3 6 gives 9
    -- held and late: the call would come in at 10
    ∷ Step.Deliver 1 refused_by 8
    ∷ Step.Crash 0 gives 0  -- clock 0: 1
    -- down, and slot 3 is in use
    ∷ Step.Begin 0 3 100 200 refused_by 4
    ∷ []

-- ---- 7, 13, 14 and 5, on tables that are handed in

-- the start, with another clock at a station
abbrev pub start_at : ℕ → ℕ → Tables
start_at s n = put_site start s (record { clock = n; up = true })

abbrev pub last_clock : List Line
last_clock =
    Step.Tick 4 1 gives 1999999999
    ∷ Step.Tick 4 2 refused_by 7
    -- 2,000,000,000 is in range, and no Q is above it
    ∷ Step.Begin 4 0 999999990 1000000000 refused_by 8
    ∷ Step.Sweep 4 gives 0  -- clock 4: 2,000,000,000
    ∷ Step.Sweep 4 refused_by 7
    ∷ Step.Crash 4 refused_by 7
    ∷ Step.Begin 4 0 999999990 1000000000 refused_by 7
    ∷ Step.Begin 3 0 100 200 gives 0  -- clock 3: 1
    ∷ Step.Invoke 0 3 0 17 0 gives 0  -- 2
    ∷ Step.Deliver 0 refused_by 7
    ∷ []

-- an active passage in slot 3, home 2, with this number as its round, its calls sent to station 7 and its calls received
abbrev pub counts_at : ℕ → Tables
counts_at n =
    put_visit
    (put_passage
    start
    3
    (record {
      status = Status.Active;
      home = 2;
      round =
          record {
            number = n;
            kind = Kind.Refresh 500 600;
            phase = Phase.None;
            answered = 0;
            figures = no_round.figures;
          };
      generation = 0;
    }))
    2
    3
    (record {
      there = true;
      quiesce = 500;
      release = 600;
      round = n;
      prepared = false;
      dead = false;
      sent = set no_counts 7 n;
      received = n;
    })

abbrev pub last_count : List Line
last_count =
    Step.Invoke 3 2 0 28 0 gives 0  -- clock 2: 1
    ∷ Step.Invoke 3 2 0 28 0 refused_by 13
    ∷ Step.Invoke 3 2 0 8 0 gives 1  -- 2
    ∷ Step.Invoke 3 2 0 8 0 gives 2  -- 3
    ∷ Step.Deliver 1 gives 0  -- 4
    ∷ Step.Deliver 1 gives 0  -- 5
    ∷ Step.Deliver 2 refused_by 13
    ∷ Step.Deliver 0 gives 0  -- clock 7: 2
    ∷ Step.Deliver 0 gives 0  -- clock 2: 6
    -- the visit at station 7 has sent none
    ∷ Step.Invoke 3 7 0 28 0 gives 0  -- clock 7: 3
    ∷ Step.Refresh 3 700 800 gives 1000  -- clock 2: 7
    ∷ Step.Refresh 3 700 800 refused_by 14
    ∷ Step.Prepare 3 refused_by 14
    -- active, in round 1,000
    ∷ Step.Terminate 3 refused_by 5
    ∷ Step.Abort 3 gives 0  -- 8
    ∷ Step.Terminate 3 refused_by 14
    ∷ []

-- handed in with 1,000 calls sent: while the table is full that is what is named, and a late call is named before both
abbrev pub full_first : List Line
full_first =
    calls_up_to (Step.Invoke 3 2 0 1 0) 32  -- clock 2: 1 to 32
    ++ (Step.Invoke 3 2 0 28 0 refused_by 11 ∷ Step.Drop 31 gives 0 ∷ Step.Invoke 3 2 0 28 0 refused_by 13
    ∷ Step.Invoke 3 2 0 1 0 gives 31  -- 33
    ∷ Step.Tick 2 1000 gives 1033
    ∷ Step.Invoke 3 2 0 28 0 refused_by 8
    ∷ Step.Drop 31 gives 0
    ∷ Step.Invoke 3 2 0 28 0 refused_by 8
    ∷ [])

-- handed in with 1,000 calls received: an object that passage 4 holds is named first, and a late call before both
abbrev pub held_first : List Line
held_first =
    Step.Begin 2 4 500 600 gives 4  -- clock 2: 1
    ∷ Step.Invoke 4 2 0 8 0 gives 0  -- 2
    ∷ Step.Deliver 0 gives 0  -- 3
    ∷ Step.Deliver 0 gives 0  -- 4
    ∷ Step.Invoke 3 2 0 8 0 gives 0  -- 5
    ∷ Step.Deliver 0 refused_by 10
    ∷ Step.Invoke 3 2 0 9 0 gives 1  -- 6
    ∷ Step.Deliver 1 refused_by 13
    ∷ Step.Tick 2 1000 gives 1006
    ∷ Step.Deliver 0 refused_by 8
    ∷ Step.Deliver 1 refused_by 8
    ∷ []

-- slot 9 is committed at home 4, in generation 255: handle 9 + 16 × 255
abbrev pub last_generation : Tables
last_generation =
    put_passage start 9 (record { status = Status.Committed; home = 4; round = no_round; generation = 255 })

-- slot 9 at home 4, in generation 3, with nothing of it left: handle 9 + 16 × 3
abbrev pub nothing_left : Status → Tables
nothing_left status =
    put_passage start 9 (record { status = status; home = 4; round = no_round; generation = 3 })

abbrev pub refusal_rows : List Row
refusal_rows =
    -- 1 leaves the tables, so the sweep of a clock at 0 moves it to 1
    run stray_bytes (replicate 10 (refused 1) ++ (accepted 0 ∷ [])) (clock 3 1 ∷ [])
    -- 2
    ∷ lines wide_fields (clock 3 1 ∷ clock 7 1000000 ∷ visit 3 15 999999990 1000000000 0 0 ∷ [])
    ∷ lines wide_handles (clock 1 1 ∷ status 0 Status.Active ∷ generation 0 0 ∷ round 0 0 Phase.None ∷ mail 0 0 ∷ [])
    -- 5
    ∷ lines wrong_states (clock 6 4 ∷ status 7 Status.Free ∷ generation 7 1 ∷ [])
    ∷ lines aborted_states
    (clock 4 14 ∷ clock 5 12 ∷ status 13 Status.Aborted ∷ round 13 2 Phase.Two ∷ visit 4 13 9 12 2 0 ∷ visit 5 13 12 90 2 2 ∷ mail 0 0 ∷ [])
    -- 8
    ∷ lines on_time (clock 5 20 ∷ clock 0 30 ∷ status 3 Status.Free ∷ generation 3 1 ∷ [])
    -- 8 and 10, 4 and 5
    ∷ lines which_first (clock 3 9 ∷ clock 1 4 ∷ clock 0 1 ∷ holder 15 (Some 3) ∷ unvisited 3 4 ∷ mail 0 0 ∷ mail 1 1 ∷ post 1 2 3 4 2 ∷ [])
    -- generation 255 is followed by 0
    ∷ lines_on
    last_generation
    (Step.Retire 9 refused_by 3 ∷ Step.Retire 4089 gives 0 ∷ Step.Begin 4 9 100 200 gives 9 ∷ Step.Abort 4089 refused_by 3 ∷ [])
    (clock 4 1 ∷ generation 9 0 ∷ [])
    -- a retire, for the status alone
    ∷ lines_on (nothing_left Status.Active) (Step.Retire 57 refused_by 5 ∷ []) (generation 9 3 ∷ [])
    ∷ lines_on (nothing_left Status.Committing) (Step.Retire 57 refused_by 5 ∷ []) (generation 9 3 ∷ [])
    ∷ lines_on (nothing_left Status.Aborted) (Step.Retire 57 gives 0 ∷ []) (generation 9 4 ∷ [])
    ∷ []

abbrev pub limit_rows : List Row
limit_rows =
    -- 7
    lines_on (start_at 4 1999999998) last_clock (clock 4 2000000000 ∷ clock 3 2 ∷ [])
    -- 13 and 14
    ∷ lines_on (counts_at 999) last_count
    (clock 2 8 ∷ clock 7 3 ∷ visit 2 3 8 800 1000 1000 ∷ sent 2 3 (0 ∷ 0 ∷ 2 ∷ 0 ∷ 0 ∷ 0 ∷ 0 ∷ 1000 ∷ []) ∷ mail 2 1 ∷ [])
    ∷ lines_on (counts_at 999) (Step.Prepare 3 gives 1000 ∷ Step.Prepare 3 refused_by 14 ∷ []) (clock 2 1 ∷ round 3 1000 Phase.One ∷ [])
    ∷ lines_on
    (counts_at 999)
    (Step.Abort 3 gives 0 ∷ Step.Terminate 3 gives 1000 ∷ Step.Terminate 3 refused_by 14 ∷ [])
    (clock 2 2 ∷ round 3 1000 Phase.One ∷ [])
    -- 11 before 13
    ∷ lines_on (counts_at 1000) full_first (clock 2 1033 ∷ sent 2 3 (33 ∷ 0 ∷ 0 ∷ 0 ∷ 0 ∷ 0 ∷ 0 ∷ 1000 ∷ []) ∷ mail 30 1 ∷ mail 31 0 ∷ [])
    -- 10 before 13
    ∷ lines_on (counts_at 1000) held_first
    (clock 2 1006 ∷ visit 2 3 500 600 1000 1000 ∷ holder 8 (Some 4) ∷ holder 9 None ∷ mail 0 1 ∷ mail 1 1 ∷ [])
    ∷ []

-- every refusal is as documents 01 and 02 say
pub refusals_hold : map found refusal_rows ≡ map wanted refusal_rows
unfolding found wanted
refusals_hold = refl

pub limits_hold : map found limit_rows ≡ map wanted limit_rows
unfolding found wanted
limits_hold = refl
