-- The small changes of single records that the rules are made of: clocks, visits, objects, rounds, passages, messages. Assumes nothing.
use Rattle.std.specs.Prelude.{ℕ, ◌+◌, ◌/◌, ◌%◌, ◌^◌, min, max, Bool, true, false, cond, not, List, [], ◌∷◌, eqb, get_or, set, replicate, Some, None}
use Rattle.std.specs.Int.Bits.{bit_or}
use Rattle.rules.specs.Types.{Site, Holder, Object, Figures, Kind, Phase, Round, Status, Passage, Visit, Call, Asked, Told, Body, Message}
use Rattle.rules.specs.Loops.{one_if, every_up_to, sum_up_to, most_up_to}
use Rattle.rules.specs.Tables.{past_object, past_figures, no_counts, no_figures, no_visit}

-- ---- clocks: "A step that is accepted at a site first moves its clock"

abbrev pub clock_to : Site → ℕ → Site
clock_to s c = record { clock = c; up = s.up }

abbrev pub with_up : Site → Bool → Site
with_up s up = record { clock = s.clock; up = up }

-- "any other by 1"
abbrev pub next_clock : Site → ℕ
next_clock s = s.clock + 1

-- "a delivery to 1 + max(clock, message stamp)"
abbrev pub delivery_clock : Site → Message → ℕ
delivery_clock s m = max s.clock m.stamp + 1

-- ---- statuses

abbrev pub is_free : Status → Bool
is_free Status.Free = true
is_free Status.Active = false
is_free Status.Committing = false
is_free Status.Aborted = false
is_free Status.Committed = false

abbrev pub is_active : Status → Bool
is_active Status.Free = false
is_active Status.Active = true
is_active Status.Committing = false
is_active Status.Aborted = false
is_active Status.Committed = false

-- "active or committing"
abbrev pub is_running : Status → Bool
is_running Status.Free = false
is_running Status.Active = true
is_running Status.Committing = true
is_running Status.Aborted = false
is_running Status.Committed = false

abbrev pub is_aborted : Status → Bool
is_aborted Status.Free = false
is_aborted Status.Active = false
is_aborted Status.Committing = false
is_aborted Status.Aborted = true
is_aborted Status.Committed = false

-- "aborted or committed"
abbrev pub is_over : Status → Bool
is_over Status.Free = false
is_over Status.Active = false
is_over Status.Committing = false
is_over Status.Aborted = true
is_over Status.Committed = true

-- ---- phases

abbrev pub is_phase_one : Phase → Bool
is_phase_one Phase.None = false
is_phase_one Phase.One = true
is_phase_one Phase.Two = false

abbrev pub is_phase_two : Phase → Bool
is_phase_two Phase.None = false
is_phase_two Phase.One = false
is_phase_two Phase.Two = true

-- ---- passages

abbrev pub with_status : Passage → Status → Passage
with_status p s = record { status = s; home = p.home; round = p.round; generation = p.generation }

abbrev pub with_home : Passage → ℕ → Passage
with_home p home = record { status = p.status; home = home; round = p.round; generation = p.generation }

abbrev pub with_round : Passage → Round → Passage
with_round p r = record { status = p.status; home = p.home; round = r; generation = p.generation }

abbrev pub with_phase : Round → Phase → Round
with_phase r ph =
    record {
      number = r.number;
      kind = r.kind;
      phase = ph;
      answered = r.answered;
      figures = r.figures;
    }

-- "status aborted, round phase none"
abbrev pub aborted_passage : Passage → Passage
aborted_passage p = with_round (with_status p Status.Aborted) (with_phase p.round Phase.None)

-- ---- visits

-- "Where a rule changes a visit that isn't there .., that part does nothing"
abbrev pub where_there : Visit → Visit → Visit
where_there v changed = cond v.there changed v

-- "Q := min(Q, clock)", with these marks
abbrev pub quieted : Visit → ℕ → Bool → Bool → Visit
quieted v clock prepared dead =
    record {
      there = v.there;
      quiesce = min v.quiesce clock;
      release = v.release;
      round = v.round;
      prepared = prepared;
      dead = dead;
      sent = v.sent;
      received = v.received;
    }

abbrev pub with_times : Visit → ℕ → ℕ → Visit
with_times v q r =
    record {
      there = v.there;
      quiesce = q;
      release = r;
      round = v.round;
      prepared = v.prepared;
      dead = v.dead;
      sent = v.sent;
      received = v.received;
    }

-- "The visit takes the round number"
abbrev pub with_number : Visit → ℕ → Visit
with_number v n =
    record {
      there = v.there;
      quiesce = v.quiesce;
      release = v.release;
      round = n;
      prepared = v.prepared;
      dead = v.dead;
      sent = v.sent;
      received = v.received;
    }

-- a new visit: these times and round, no calls, no marks
abbrev pub new_visit : ℕ → ℕ → ℕ → Visit
new_visit q r n =
    record {
      there = true;
      quiesce = q;
      release = r;
      round = n;
      prepared = false;
      dead = false;
      sent = no_counts;
      received = 0;
    }

-- "The visit counts one call sent to the object's site"
abbrev pub count_sent : Visit → ℕ → Visit
count_sent v d =
    record {
      there = v.there;
      quiesce = v.quiesce;
      release = v.release;
      round = v.round;
      prepared = v.prepared;
      dead = v.dead;
      sent = set v.sent d (get_or v.sent d 0 + 1);
      received = v.received;
    }

-- "Received grows by 1"
abbrev pub count_received : Visit → Visit
count_received v =
    record {
      there = v.there;
      quiesce = v.quiesce;
      release = v.release;
      round = v.round;
      prepared = v.prepared;
      dead = v.dead;
      sent = v.sent;
      received = v.received + 1;
    }

-- ---- objects

abbrev pub is_unheld : Object → Bool
is_unheld o = elim o.holder [ None ↦ true | Some k ↦ false ]

abbrev pub is_slot : ℕ → Holder → Bool
is_slot p None = false
is_slot p (Some k) = eqb k p

abbrev pub is_held_by : ℕ → Object → Bool
is_held_by p o = is_slot p o.holder

-- "object held by another passage"
abbrev pub is_held_by_other : ℕ → Object → Bool
is_held_by_other p o = elim o.holder [ None ↦ false | Some k ↦ not (eqb k p) ]

-- "The object is taken if unheld": a held one keeps the value before its first taking
abbrev pub taken : ℕ → Object → Object
taken p o =
    cond (is_unheld o) (record { value = o.value; holder = Some p; before = o.value }) o

-- "then read or written"
abbrev pub operated : Call → Object → Object
operated c o =
    cond c.write (record { value = c.value; holder = o.holder; before = o.before }) o

-- "the value before the holder took it, 0 once freed"
abbrev pub unheld : ℕ → Object
unheld value = record { value = value; holder = None; before = 0 }

-- "its objects are freed and keep their values"
abbrev pub freed : ℕ → Object → Object
freed p o = cond (is_held_by p o) (unheld o.value) o

-- "restores and frees its objects"
abbrev pub restored : ℕ → Object → Object
restored p o = cond (is_held_by p o) (unheld o.before) o

-- a change of each of a site's four objects
abbrev pub each_of : (Object → Object) → List Object → List Object
each_of f os =
    f (get_or os 0 past_object) ∷ f (get_or os 1 past_object) ∷ f (get_or os 2 past_object)
    ∷ f (get_or os 3 past_object)
    ∷ []

-- ---- rounds and figures

abbrev pub figures_of : Visit → Figures
figures_of v = record { sent = v.sent; received = v.received; quiesce = v.quiesce }

abbrev pub figures_at : Round → ℕ → Figures
figures_at r s = get_or r.figures s past_figures

-- bit s of the answered mask
abbrev pub has_answered : Round → ℕ → Bool
has_answered r s = eqb (r.answered / 2 ^ s % 2) 1

-- "each answer under its source over any there"
abbrev pub with_answer : Round → ℕ → Figures → Round
with_answer r s f =
    record {
      number = r.number;
      kind = r.kind;
      phase = r.phase;
      answered = bit_or r.answered (2 ^ s);
      figures = set r.figures s f;
    }

-- "Each opens a round, number one higher, phase 1"; what was kept of the round before goes
abbrev pub opened_round : Round → Kind → Round
opened_round r k =
    record {
      number = r.number + 1;
      kind = k;
      phase = Phase.One;
      answered = 0;
      figures = replicate 8 no_figures;
    }

-- what an answering site gives to a sum, 0 for one that hasn't answered
abbrev pub if_answered : Round → ℕ → ℕ → ℕ
if_answered r s n = cond (has_answered r s) n 0

-- "the calls sent to d summed over the answering sites"
unfoldable pub sent_to : Round → ℕ → ℕ
sent_to r d = sum_up_to (λ s. if_answered r s (get_or (figures_at r s).sent d 0)) 8

-- "d's received calls, 0 if d hasn't answered"
abbrev pub received_at : Round → ℕ → ℕ
received_at r d = if_answered r d (figures_at r d).received

-- "Closed means: for every site d, the calls sent to d .. equal d's received calls"
unfoldable pub is_closed : Round → Bool
is_closed r = every_up_to (λ d. eqb (sent_to r d) (received_at r d)) 8

-- "M the largest Q among the answers and home's as its phase 1 part left it": home's figures are kept as an answer
unfoldable pub largest_quiesce : Round → ℕ
largest_quiesce r = most_up_to (λ s. if_answered r s (figures_at r s).quiesce) 8

-- "sites that have answered, home included"
unfoldable pub answer_count : Round → ℕ
answer_count r = sum_up_to (λ s. one_if (has_answered r s)) 8

-- what a phase 1 message of a round asks. Kind none in phase 1 is refused by 20
abbrev pub asked_of : Kind → Asked
asked_of Kind.None = Asked.Terminate
asked_of (Kind.Refresh q r) = Asked.Refresh r
asked_of Kind.Terminate = Asked.Terminate
asked_of Kind.Prepare = Asked.Prepare

-- what a phase 2 message of a round tells, for its M. Kind none in phase 2 is refused by 20
abbrev pub told_of : Kind → ℕ → Told
told_of Kind.None m = Told.Terminate m
told_of (Kind.Refresh q r) m = Told.Refresh q
told_of Kind.Terminate m = Told.Terminate m
told_of Kind.Prepare m = Told.Prepare

-- ---- "Phase 1. Refresh: R := max(R, new R). Terminate: Q := min(Q, clock), prepared off. Prepare: Q := min(Q, clock), prepared on
-- .. The visit takes the round number."

abbrev pub asked_visit : Asked → ℕ → ℕ → Visit → Visit
asked_visit (Asked.Refresh r) n clock v = with_number (with_times v v.quiesce (max v.release r)) n
asked_visit Asked.Terminate n clock v = with_number (quieted v clock false v.dead) n
asked_visit Asked.Prepare n clock v = with_number (quieted v clock true v.dead) n

-- "at home, status committing"
abbrev pub asked_status : Asked → Status → Status
asked_status (Asked.Refresh r) s = s
asked_status Asked.Terminate s = s
asked_status Asked.Prepare s = Status.Committing

-- ---- "Phase 2. Refresh: Q := max(Q, new Q). Terminate: R := min(R, M) .. Prepare: the visit goes, its objects are freed and keep their values"

abbrev pub told_visit : Told → Visit → Visit
told_visit (Told.Refresh q) v = with_times v (max v.quiesce q) v.release
told_visit (Told.Terminate m) v = with_times v v.quiesce (min v.release m)
told_visit Told.Prepare v = no_visit

abbrev pub told_objects : Told → ℕ → List Object → List Object
told_objects (Told.Refresh q) p os = os
told_objects (Told.Terminate m) p os = os
told_objects Told.Prepare p os = each_of (freed p) os

-- "at home, status committed"
abbrev pub told_status : Told → Status → Status
told_status (Told.Refresh q) s = s
told_status (Told.Terminate m) s = s
told_status Told.Prepare s = Status.Committed

-- "delivered refresh or prepare message of either phase": those that a dead visit refuses
abbrev pub asks_life : Asked → Bool
asks_life (Asked.Refresh r) = true
asks_life Asked.Terminate = false
asks_life Asked.Prepare = true

abbrev pub tells_life : Told → Bool
tells_life (Told.Refresh q) = true
tells_life (Told.Terminate m) = false
tells_life Told.Prepare = true

-- ---- messages

abbrev pub is_empty : Body → Bool
is_empty Body.Empty = true
is_empty (Body.Call c) = false
is_empty (Body.PhaseOne n a) = false
is_empty (Body.PhaseTwo n d) = false
is_empty (Body.Answer n received q) = false
is_empty (Body.Reply value) = false

-- a message that carries no counts
abbrev pub plain_message : Body → ℕ → ℕ → ℕ → ℕ → Message
plain_message body source destination handle stamp =
    record {
      body = body;
      source = source;
      destination = destination;
      handle = handle;
      stamp = stamp;
      sent = no_counts;
    }

-- "the answer, sent back to home: number, calls sent to each site, calls received, Q"
abbrev pub answer_message : Visit → ℕ → ℕ → ℕ → ℕ → Message
answer_message v source home handle stamp =
    record {
      body = Body.Answer v.round v.received v.quiesce;
      source = source;
      destination = home;
      handle = handle;
      stamp = stamp;
      sent = v.sent;
    }
