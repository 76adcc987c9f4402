-- The second table of cases, tables that are handed in out of range: 20, before all else. The number stands at the end of its table, or next to it.
-- The answers were worked out by hand from the two documents. Assumes nothing.
use Rattle.std.specs.Prelude.{ℕ, true, false, ◌≡◌, refl, List, [], ◌∷◌, map, replicate, set, Some, None}
use Rattle.rules.specs.Tables.{start, no_counts, no_round, put_passage, put_visit, put_message}
use Rattle.rules.specs.Parts.{plain_message}
use Rattle.rules.specs.Record.{record_of_step}
use Rattle.rules.specs.Rows.{Row, ◌gives◌, ◌refused_by◌, run_on, refused, lines_on, clock, mail, found, wanted}
use Rattle.trials.specs.Types.{Holder, Kind, Phase, Status, Body, Tables, Step}
use Rattle.trials.specs.Refusals.{start_at}

-- ---- these tables, with something else in one place

-- object 31: its width, its holder, the value before
abbrev pub object_on : Tables → ℕ → Holder → ℕ → Tables
object_on t value holder before =
    record {
      sites = t.sites;
      objects = set t.objects 31 (record { value = value; holder = holder; before = before });
      passages = t.passages;
      visits = t.visits;
      messages = t.messages;
    }

-- slot 15: its home and its round
abbrev pub round_on : Tables → ℕ → ℕ → Kind → Phase → Tables
round_on t home number kind phase =
    put_passage
    t
    15
    (record {
      status = Status.Active;
      home = home;
      round = record { number = number; kind = kind; phase = phase; answered = 0; figures = no_round.figures };
      generation = 0;
    })

-- slot 14: the figures of station 7 that it keeps, calls sent to station 7, calls received, Q
abbrev pub figures_on : Tables → ℕ → ℕ → ℕ → Tables
figures_on t sent received quiesce =
    put_passage
    t
    14
    (record {
      status = Status.Active;
      home = 0;
      round =
          record {
            number = 1;
            kind = Kind.Prepare;
            phase = Phase.One;
            answered = 128;
            figures =
                set no_round.figures 7 (record { sent = set no_counts 7 sent; received = received; quiesce = quiesce });
          };
      generation = 0;
    })

-- the visit of slot 15 at station 7: Q, R, round, calls sent to station 7, calls received
abbrev pub visit_on : Tables → ℕ → ℕ → ℕ → ℕ → ℕ → Tables
visit_on t quiesce release number sent received =
    put_visit
    t
    7
    15
    (record {
      there = true;
      quiesce = quiesce;
      release = release;
      round = number;
      prepared = false;
      dead = false;
      sent = set no_counts 7 sent;
      received = received;
    })

-- message slot 31, an answer: its handle, its stamp, calls sent to station 7, Q
abbrev pub answer_on : Tables → ℕ → ℕ → ℕ → ℕ → Tables
answer_on t handle stamp sent quiesce =
    put_message
    t
    31
    (record {
      body = Body.Answer 1 0 quiesce;
      source = 7;
      destination = 0;
      handle = handle;
      stamp = stamp;
      sent = set no_counts 7 sent;
    })

-- message slot 30, a reply from station 7 to station 0: its handle, its stamp, its value
abbrev pub reply_on : Tables → ℕ → ℕ → ℕ → Tables
reply_on t handle stamp value = put_message t 30 (plain_message (Body.Reply value) 7 0 handle stamp)

-- ---- rows of one step

-- a tick of station 3 is refused by 20, and its clock stays
abbrev pub out_of_range : Tables → Row
out_of_range t = lines_on t (Step.Tick 3 5 refused_by 20 ∷ []) (clock 3 0 ∷ [])

-- and here it is taken
abbrev pub within_range : Tables → Row
within_range t = lines_on t (Step.Tick 3 5 gives 5 ∷ []) (clock 3 5 ∷ [])

-- everything at its highest
abbrev pub all_highest : Tables
all_highest =
    reply_on
    (answer_on
    (visit_on
    (figures_on
    (round_on
    (object_on (start_at 7 2000000000) 1000000 (Some 15) 1000000)
    7
    1000
    (Kind.Refresh 999999990 1000000000)
    Phase.Two)
    1000
    1000
    1000000000)
    999999990
    1000000000
    1000
    1000
    1000)
    4095
    2000000000
    1000
    1000000000)
    4095
    2000000000
    1000000

abbrev pub handed_rows : List Row
handed_rows =
    -- a width of 1,000,001, with a step, and with a record that would be refused by 1
    run_on
    (object_on start 1000001 None 0)
    (record_of_step (Step.Tick 3 5) ∷ replicate 16 0 ∷ [])
    (refused 20 ∷ refused 20 ∷ [])
    (clock 3 0 ∷ [])
    ∷ within_range (object_on start 1000000 None 0)
    -- a value before, and a holder
    ∷ out_of_range (object_on start 0 (Some 3) 1000001)
    ∷ out_of_range (object_on start 0 (Some 16) 0)
    -- a clock of 2,000,000,001
    ∷ out_of_range (start_at 7 2000000001)
    -- kind none in phase 1, and in phase 2
    ∷ out_of_range (round_on start 0 0 Kind.None Phase.One)
    ∷ out_of_range (round_on start 0 0 Kind.None Phase.Two)
    -- a home, a round number, the times of a refresh
    ∷ out_of_range (round_on start 8 1 Kind.Prepare Phase.One)
    ∷ out_of_range (round_on start 0 1001 Kind.Prepare Phase.One)
    ∷ out_of_range (round_on start 0 1 (Kind.Refresh 1000000001 1000000000) Phase.One)
    ∷ out_of_range (round_on start 0 1 (Kind.Refresh 999999990 1000000001) Phase.One)
    -- figures that are kept
    ∷ out_of_range (figures_on start 1001 0 0)
    ∷ out_of_range (figures_on start 0 1001 0)
    ∷ out_of_range (figures_on start 0 0 1000000001)
    -- a visit
    ∷ out_of_range (visit_on start 1000000001 1000000000 0 0 0)
    ∷ out_of_range (visit_on start 999999990 1000000001 0 0 0)
    ∷ out_of_range (visit_on start 100 200 1001 0 0)
    ∷ out_of_range (visit_on start 100 200 0 1001 0)
    ∷ out_of_range (visit_on start 100 200 0 0 1001)
    -- a message
    ∷ out_of_range (answer_on start 4096 0 0 0)
    ∷ out_of_range (answer_on start 0 2000000001 0 0)
    ∷ out_of_range (answer_on start 0 0 1001 0)
    ∷ out_of_range (answer_on start 0 0 0 1000000001)
    -- a reply
    ∷ out_of_range (reply_on start 4096 0 0)
    ∷ out_of_range (reply_on start 0 2000000001 0)
    ∷ out_of_range (reply_on start 0 0 1000001)
    -- no step takes it away
    ∷ lines_on (reply_on start 0 0 1000001) (Step.Deliver 30 refused_by 20 ∷ Step.Drop 30 refused_by 20 ∷ []) (clock 0 0 ∷ mail 30 1 ∷ [])
    ∷ within_range (reply_on start 0 0 1000000)
    -- the highest of each
    ∷ within_range all_highest
    ∷ []

-- every range is as the two documents say
pub handed_hold : map found handed_rows ≡ map wanted handed_rows
unfolding found wanted
handed_hold = refl
