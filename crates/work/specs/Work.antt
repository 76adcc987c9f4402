-- A record's work, turn by turn: the first turn is the step's own, turn k + 1 of a sweep or a crash is that of slot k. Assumes nothing.
use Rattle.std.specs.Prelude.{ℕ, zero, suc, ◌-◌, cond, eqb, Err, Some, None}
use Rattle.rules.specs.declared.tables.Tables.{Tables}
use Rattle.rules.specs.declared.tables.Message.{Message}
use Rattle.rules.specs.declared.steps.Step.{Step}
use Rattle.rules.specs.Types.{Reading}
use Rattle.rules.specs.Types.{Answer}
use Rattle.rules.specs.declared.outcomes.Decision.{Decision}
use Rattle.rules.specs.declared.looking.Found.{Found}
use Rattle.rules.specs.declared.looking.Look.{Look}
use Rattle.rules.specs.declared.looking.MailAt.{MailAt}
use Rattle.rules.specs.declared.outcomes.Outcome.{Outcome}
use Rattle.rules.specs.declared.looking.Places.{Places}
use Rattle.rules.specs.declared.outcomes.Refusal.{Refusal}
use Rattle.rules.specs.declared.looking.Seen.{Seen}
use Rattle.rules.specs.declared.looking.SiteAt.{SiteAt}
use Rattle.rules.specs.declared.looking.SlotAt.{SlotAt}
use Rattle.rules.specs.declared.looking.Trip.{Trip}
use Rattle.rules.specs.Tables.{message_at, no_message}
use Rattle.rules.specs.Machine.{looks, looks_site, look_of, decide_of, stored_slot, stored, head_of, trip_site, turn_seen, turn_answer, turn_of}

-- ---- where a turn looks

-- a record that stands for no step looks at site 0, and leaves what it sees
abbrev pub reading_look : Reading → Look
reading_look None = looks_site 0 Trip.Nowhere
reading_look (Some step) = look_of step

abbrev pub slot_look : Trip → ℕ → Look
slot_look trip slot = looks MailAt.Nowhere (SlotAt.Given slot) (SiteAt.Given (trip_site trip)) Trip.Nowhere

abbrev pub turn_look : Look → ℕ → Look
turn_look look turn = cond (eqb turn 0) look (slot_look look.trip (turn - 1))

-- ---- how many message slots are looked over before the first turn

-- a new message takes the lowest empty slot, and a retire asks what remains; no other step asks for anything of the kind
abbrev pub step_scan : Step → ℕ
step_scan (Step.Tick site n) = 0
step_scan (Step.Begin home slot q r) = 0
step_scan (Step.Invoke h site write object value) = 32
step_scan (Step.Refresh h q r) = 0
step_scan (Step.Terminate h) = 0
step_scan (Step.Prepare h) = 0
step_scan (Step.Ask h site) = 32
step_scan (Step.Close h) = 0
step_scan (Step.Tell h site) = 32
step_scan (Step.Abort h) = 0
step_scan (Step.Deliver m) = 0
step_scan (Step.Drop m) = 0
step_scan (Step.Sweep site) = 0
step_scan (Step.Crash site) = 0
step_scan (Step.Recover site) = 0
step_scan (Step.Retire h) = 32

abbrev pub scan_count : Reading → ℕ
scan_count None = 0
scan_count (Some step) = step_scan step

-- ---- what a turn decides

abbrev pub reading_done : Reading → Found → Seen → Decision
reading_done None found seen = record { answer = Err Refusal.NoStep; left = seen }
reading_done (Some step) found seen = decide_of step found seen

abbrev pub slot_done : Trip → ℕ → Answer → Seen → Decision
slot_done trip slot before seen =
    record { answer = turn_answer trip before seen; left = turn_seen trip slot seen }

abbrev pub turn_done : Reading → Trip → ℕ → Found → Answer → Seen → Decision
turn_done reading trip turn found before seen =
    cond (eqb turn 0) (reading_done reading found seen) (slot_done trip (turn - 1) before seen)

-- ---- the message of a turn, and what a turn stores

-- the first turn sees the message at its place; the turn of a slot reads none
abbrev pub turn_message : ℕ → Tables → ℕ → Message
turn_message turn t place = cond (eqb turn 0) (message_at t place) no_message

-- the first turn stores all that it leaves; the turn of a slot stores all but the message
abbrev pub turn_stored : ℕ → Tables → Places → Seen → Tables
turn_stored turn t at left = cond (eqb turn 0) (stored t at left) (stored_slot t at left)

-- ---- the work on whole tables

abbrev pub reading_head : Tables → Reading → Outcome
reading_head t None = record { answer = Err Refusal.NoStep; tables = t }
reading_head t (Some step) = head_of t step

abbrev pub work_turn : Tables → Reading → ℕ → Outcome → Outcome
work_turn t reading zero o = reading_head t reading
work_turn t reading (suc slot) o = turn_of (reading_look reading).trip slot o

-- before the first turn there is no answer yet; what stands there does not matter
unfoldable pub work_up_to : Tables → Reading → ℕ → Outcome
work_up_to t reading zero = record { answer = Err Refusal.NoStep; tables = t }
work_up_to t reading (suc n) = work_turn t reading n (work_up_to t reading n)
