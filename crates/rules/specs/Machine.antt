-- A step on the tables: look at the few records that it names, decide from them, store what is left; then number 20 before all. Assumes nothing.
use Rattle.std.specs.Prelude.{ℕ, zero, suc, ◌+◌, ◌%◌, min, Bool, cond, ◌&&◌, ◌||◌, not, eqb, Ok, Err}
use Rattle.rules.specs.Types.{Passage, Body, Message, Tables, Step, Refusal, Answer, MailAt, SlotAt, SiteAt, Trip, Look, Places, Found, Seen, Decision, Outcome}
use Rattle.rules.specs.Limits.{message_most}
use Rattle.rules.specs.Loops.{one_if, some_up_to, first_up_to}
use Rattle.rules.specs.Tables.{no_message, site_at, passage_at, visit_at, message_at, bank_at, put_site, put_passage, put_visit, put_message, put_bank, object_site, slot_of}
use Rattle.rules.specs.Ranges.{in_range}
use Rattle.rules.specs.Answers.{is_accepted}
use Rattle.rules.specs.Parts.{is_empty}
use Rattle.rules.specs.Seen.{left_message}
use Rattle.rules.specs.Stations.{tick_of, sweep_of, is_swept, swept_slot, crash_of, crashed_slot, recover_of}
use Rattle.rules.specs.Passages.{begin_of, abort_of, retire_of}
use Rattle.rules.specs.Rounds.{refresh_of, terminate_of, prepare_of, ask_of, close_of, tell_of}
use Rattle.rules.specs.Calls.{invoke_of, deliver_of, drop_of}

-- ---- where each step looks: its message slot, its passage slot, its site, and whether it goes through a site's slots.
-- "Steps for a handle act at its home, except invoke and retire; deliver acts at the message's destination."
-- "Drop and retire act at no site": they leave the site that they look at as it is.

abbrev pub looks : MailAt → SlotAt → SiteAt → Trip → Look
looks mail slot site trip = record { mail = mail; slot = slot; site = site; trip = trip }

-- "Steps for a handle act at its home"
abbrev pub looks_home : MailAt → ℕ → Look
looks_home mail h = looks mail (SlotAt.Given h) SiteAt.Home Trip.Nowhere

-- a step of one site alone
abbrev pub looks_site : ℕ → Trip → Look
looks_site site trip = looks MailAt.Nowhere (SlotAt.Given 0) (SiteAt.Given site) trip

abbrev pub look_of : Step → Look
look_of (Step.Tick site n) = looks_site site Trip.Nowhere
look_of (Step.Begin home slot q r) = looks MailAt.Nowhere (SlotAt.Given slot) (SiteAt.Given home) Trip.Nowhere
look_of (Step.Invoke h site write object value) = looks MailAt.Empty (SlotAt.Given h) (SiteAt.Given site) Trip.Nowhere
look_of (Step.Refresh h q r) = looks_home MailAt.Nowhere h
look_of (Step.Terminate h) = looks_home MailAt.Nowhere h
look_of (Step.Prepare h) = looks_home MailAt.Nowhere h
look_of (Step.Ask h site) = looks_home MailAt.Empty h
look_of (Step.Close h) = looks_home MailAt.Nowhere h
look_of (Step.Tell h site) = looks_home MailAt.Empty h
look_of (Step.Abort h) = looks_home MailAt.Nowhere h
look_of (Step.Deliver m) = looks (MailAt.Given m) SlotAt.Mail SiteAt.Mail Trip.Nowhere
look_of (Step.Drop m) = looks (MailAt.Given m) SlotAt.Mail SiteAt.Mail Trip.Nowhere
look_of (Step.Sweep site) = looks_site site (Trip.Sweep site)
look_of (Step.Crash site) = looks_site site (Trip.Crash site)
look_of (Step.Recover site) = looks_site site Trip.Nowhere
look_of (Step.Retire h) = looks_home MailAt.Nowhere h

-- ---- looking. A remainder makes each place one that exists: a field out of range is refused by 2 before what was seen matters.

-- "A new message takes the lowest empty one"; 32 where there is none
unfoldable pub lowest_empty : Tables → ℕ
lowest_empty t = first_up_to (λ m. is_empty (message_at t m).body) 32

-- the message slot, where e is the lowest empty one
abbrev pub mail_place : MailAt → ℕ → ℕ
mail_place MailAt.Nowhere e = 0
mail_place (MailAt.Given m) e = m % 32
mail_place MailAt.Empty e = min e message_most

abbrev pub slot_place : SlotAt → Message → ℕ
slot_place (SlotAt.Given h) m = slot_of h
slot_place SlotAt.Mail m = slot_of m.handle

abbrev pub site_place : SiteAt → Message → Passage → ℕ
site_place (SiteAt.Given s) m p = s % 8
site_place SiteAt.Home m p = p.home % 8
site_place SiteAt.Mail m p = m.destination % 8

-- a call's object stands at its own site
abbrev pub body_bank : Body → ℕ → ℕ
body_bank Body.Empty s = s
body_bank (Body.Call c) s = object_site c.object % 8
body_bank (Body.PhaseOne n a) s = s
body_bank (Body.PhaseTwo n d) s = s
body_bank (Body.Answer n received q) s = s
body_bank (Body.Reply value) s = s

-- the site whose four objects are looked at: that of a delivered call's object, else the site itself
abbrev pub bank_place : SiteAt → Message → ℕ → ℕ
bank_place (SiteAt.Given a) m s = s
bank_place SiteAt.Home m s = s
bank_place SiteAt.Mail m s = body_bank m.body s

-- first the message, then the passage, then the site
abbrev pub places_for : Look → ℕ → Message → Passage → Places
places_for look place m p =
    record {
      site = site_place look.site m p;
      slot = slot_place look.slot m;
      bank = bank_place look.site m (site_place look.site m p);
      message = place;
    }

unfoldable pub places_of : Tables → Look → Places
places_of t look =
    let place : ℕ = mail_place look.mail (lowest_empty t) in
    let m : Message = message_at t place in
    places_for look place m (passage_at t (slot_place look.slot m))

-- all but the message: no message slot is read, and an empty message stands in its place
abbrev pub slot_seen : Tables → Places → Seen
slot_seen t at =
    record {
      site = site_at t at.site;
      passage = passage_at t at.slot;
      visit = visit_at t at.site at.slot;
      message = no_message;
      objects = bank_at t at.bank;
    }

abbrev pub seen_of : Tables → Places → Seen
seen_of t at = left_message (slot_seen t at) (message_at t at.message)

-- "a visit or message of it remains": a message is of the passage whose slot its handle names
abbrev pub is_message_of : ℕ → Message → Bool
is_message_of p m = not (is_empty m.body) && eqb (slot_of m.handle) p

unfoldable pub remains : Tables → ℕ → Bool
remains t p =
    some_up_to (λ s. (visit_at t s p).there) 8 || some_up_to (λ m. is_message_of p (message_at t m)) 32

-- the place of a new message, and whether anything of the passage slot remains
abbrev pub found_of : Tables → Places → Found
found_of t at = record { place = at.message; remains = remains t at.slot }

-- ---- deciding

unfoldable pub decide_of : Step → Found → Seen → Decision
decide_of (Step.Tick site n) found seen = tick_of site n seen
decide_of (Step.Begin home slot q r) found seen = begin_of home slot q r seen
decide_of (Step.Invoke h site write object value) found seen = invoke_of h site write object value found.place seen
decide_of (Step.Refresh h q r) found seen = refresh_of h q r seen
decide_of (Step.Terminate h) found seen = terminate_of h seen
decide_of (Step.Prepare h) found seen = prepare_of h seen
decide_of (Step.Ask h site) found seen = ask_of h site found.place seen
decide_of (Step.Close h) found seen = close_of h seen
decide_of (Step.Tell h site) found seen = tell_of h site found.place seen
decide_of (Step.Abort h) found seen = abort_of h seen
decide_of (Step.Deliver m) found seen = deliver_of m seen
decide_of (Step.Drop m) found seen = drop_of m seen
decide_of (Step.Sweep site) found seen = sweep_of site seen
decide_of (Step.Crash site) found seen = crash_of site seen
decide_of (Step.Recover site) found seen = recover_of site seen
decide_of (Step.Retire h) found seen = retire_of h found.remains seen

-- ---- storing

-- all but the message
abbrev pub stored_slot : Tables → Places → Seen → Tables
stored_slot t at left =
    put_bank
    (put_visit
    (put_passage (put_site t at.site left.site) at.slot left.passage)
    at.site
    at.slot
    left.visit)
    at.bank
    left.objects

unfoldable pub stored : Tables → Places → Seen → Tables
stored t at left = put_message (stored_slot t at left) at.message left.message

-- a step's own records; for a sweep or a crash this is the clock
unfoldable pub head_of : Tables → Step → Outcome
head_of t step =
    let at : Places = places_of t (look_of step) in
    let d : Decision = decide_of step (found_of t at) (seen_of t at) in
    record { answer = d.answer; tables = stored t at d.left }

-- ---- the sixteen slots of a sweep and of a crash

-- where one slot of a site's sweep or crash is looked at; no message is, so the place of one does not matter
abbrev pub slot_places : ℕ → ℕ → Places
slot_places site slot =
    record { site = site % 8; slot = slot; bank = site % 8; message = 0 }

-- the site that a trip goes through; a step that makes none has no turn
abbrev pub trip_site : Trip → ℕ
trip_site Trip.Nowhere = 0
trip_site (Trip.Sweep site) = site
trip_site (Trip.Crash site) = site

abbrev pub trip_places : Trip → ℕ → Places
trip_places trip slot = slot_places (trip_site trip) slot

-- what a turn leaves of what it saw
abbrev pub turn_seen : Trip → ℕ → Seen → Seen
turn_seen Trip.Nowhere slot seen = seen
turn_seen (Trip.Sweep site) slot seen = swept_slot site slot seen
turn_seen (Trip.Crash site) slot seen = crashed_slot site slot seen

-- "Value: visits removed"
abbrev pub count_one : Answer → Bool → Answer
count_one (Ok v) b = Ok (v + one_if b)
count_one (Err r) b = Err r

-- the answer after a turn
abbrev pub turn_answer : Trip → Answer → Seen → Answer
turn_answer Trip.Nowhere answer seen = answer
turn_answer (Trip.Sweep site) answer seen = count_one answer (is_swept seen)
turn_answer (Trip.Crash site) answer seen = answer

-- one turn: look, change, store; no message is read, and none is stored
unfoldable pub turn_of : Trip → ℕ → Outcome → Outcome
turn_of trip slot o =
    let at : Places = trip_places trip slot in
    let seen : Seen = slot_seen o.tables at in
    record {
      answer = turn_answer trip o.answer seen;
      tables = stored_slot o.tables at (turn_seen trip slot seen);
    }

unfoldable pub turns_up_to : Trip → Outcome → ℕ → Outcome
turns_up_to trip o zero = o
turns_up_to trip o (suc n) = turn_of trip n (turns_up_to trip o n)

-- how many slots are gone through once the head has this answer: sixteen for an accepted sweep or crash, else none
abbrev pub turn_count : Trip → Answer → ℕ
turn_count Trip.Nowhere answer = 0
turn_count (Trip.Sweep site) answer = cond (is_accepted answer) 16 0
turn_count (Trip.Crash site) answer = cond (is_accepted answer) 16 0

-- ---- the step

-- a step on tables that are in range
unfoldable pub step_in_range_of : Tables → Step → Outcome
step_in_range_of t step =
    let head : Outcome = head_of t step in
    turns_up_to (look_of step).trip head (turn_count (look_of step).trip head.answer)

-- refused by 20: "all tables stay"
abbrev pub refused_all : Tables → Outcome
refused_all t = record { answer = Err Refusal.OutOfRange; tables = t }

-- "20 tried first"
abbrev pub unless_out_of_range : Tables → Outcome → Outcome
unless_out_of_range t done = cond (in_range t) done (refused_all t)

unfoldable pub step_of : Tables → Step → Outcome
step_of t step = unless_out_of_range t (step_in_range_of t step)
