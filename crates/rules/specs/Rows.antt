-- What a row of a table of cases is, what the definitions give for it, and what it wants.
-- A row has the tables that it begins with, the records, what each answers, and what the tables then hold where the row says so.
-- A sheet row has a whole sheet and the bytes of its listing. Assumes nothing.
use Rattle.std.specs.Prelude.{ℕ, ◌≡◌, refl, not, List, [], ◌∷◌, ◌++◌, map, Some, None}
use Rattle.std.proofs.Common.{ap}
use Rattle.rules.specs.Types.{Holder, Phase, Status, Tables, Step, Answer, Outcome}
use Rattle.rules.specs.Tables.{start, site_at, object_at, passage_at, visit_at, message_at}
use Rattle.rules.specs.Loops.{joined, one_if, every_up_to, some_up_to, sum_up_to, most_up_to, first_up_to}
use Rattle.rules.specs.Ranges.{counts_in_range, round_in_range, in_range}
use Rattle.rules.specs.Answers.{first_refusal, answer_number, answer_value}
use Rattle.rules.specs.Parts.{is_empty, sent_to, is_closed, largest_quiesce, answer_count}
use Rattle.rules.specs.Stations.{tick_of, sweep_of, swept_slot, crash_of, crashed_slot, recover_of}
use Rattle.rules.specs.Passages.{begin_of, abort_of, retire_of}
use Rattle.rules.specs.Rounds.{open_of, refresh_of, terminate_of, prepare_of, ask_of, close_of, tell_of}
use Rattle.rules.specs.Calls.{invoke_of, empty_of, deliver_call_of, deliver_phase_one_of, deliver_phase_two_of, deliver_answer_of, deliver_reply_of, deliver_body_of, drop_of}
use Rattle.rules.specs.Machine.{lowest_empty, places_of, remains, decide_of, stored, head_of, turn_of, turns_up_to, step_in_range_of, step_of}
use Rattle.rules.specs.Record.{step_of_fields, step_of_record, record_of_step, record_in_range_of, step_record_of}
use Rattle.rules.specs.Runs.{record_answers_of, run_records_of}
use Rattle.rules.specs.Sheet.{sheet_answer, sheet_records}
use Rattle.rules.specs.Listing.{spelt, line_of, printed_up_to, listing_of}

-- ---- what a row says of the tables

-- numbers that are read off the tables, and what they should be
pub record Fact : Type 0 where
  pub reads : Tables → List ℕ
  pub says : List ℕ

abbrev pub one : (Tables → ℕ) → ℕ → Fact
one reads n = record { reads = λ t. reads t ∷ []; says = n ∷ [] }

abbrev pub clock : ℕ → ℕ → Fact
clock s = one (λ t. (site_at t s).clock)

-- 1 for a site that is up, 0 for one that is down
abbrev pub up : ℕ → ℕ → Fact
up s = one (λ t. one_if (site_at t s).up)

abbrev pub width : ℕ → ℕ → Fact
width k = one (λ t. (object_at t k).value)

-- a slot, or 16 for nobody
abbrev pub holder_number : Holder → ℕ
holder_number None = 16
holder_number (Some p) = p

abbrev pub holder : ℕ → Holder → Fact
holder k h = one (λ t. holder_number (object_at t k).holder) (holder_number h)

-- the value before the holder took the object
abbrev pub before : ℕ → ℕ → Fact
before k = one (λ t. (object_at t k).before)

abbrev pub status_number : Status → ℕ
status_number Status.Free = 0
status_number Status.Active = 1
status_number Status.Committing = 2
status_number Status.Aborted = 3
status_number Status.Committed = 4

abbrev pub status : ℕ → Status → Fact
status p x = one (λ t. status_number (passage_at t p).status) (status_number x)

abbrev pub generation : ℕ → ℕ → Fact
generation p = one (λ t. (passage_at t p).generation)

abbrev pub phase_number : Phase → ℕ
phase_number Phase.None = 0
phase_number Phase.One = 1
phase_number Phase.Two = 2

-- the round of a slot: its number and its phase
abbrev pub round : ℕ → ℕ → Phase → Fact
round p n phase =
    record {
      reads = λ t. (passage_at t p).round.number ∷ phase_number (passage_at t p).round.phase ∷ [];
      says = n ∷ phase_number phase ∷ [];
    }

-- the visit of a slot at a site: quiesce, release, round, calls received
abbrev pub visit : ℕ → ℕ → ℕ → ℕ → ℕ → ℕ → Fact
visit s p quiesce release number received =
    record {
      reads =
          λ t. one_if (visit_at t s p).there ∷ (visit_at t s p).quiesce ∷ (visit_at t s p).release ∷ (visit_at t s p).round
          ∷ (visit_at t s p).received
          ∷ [];
      says = 1 ∷ quiesce ∷ release ∷ number ∷ received ∷ [];
    }

-- no visit of the slot at the site
abbrev pub unvisited : ℕ → ℕ → Fact
unvisited s p = one (λ t. one_if (visit_at t s p).there) 0

-- 1 for a visit with the mark, 0 for one without
abbrev pub prepared : ℕ → ℕ → ℕ → Fact
prepared s p = one (λ t. one_if (visit_at t s p).prepared)

abbrev pub dead : ℕ → ℕ → ℕ → Fact
dead s p = one (λ t. one_if (visit_at t s p).dead)

-- the calls that the visit of a slot at a site sent, one number for each site
abbrev pub sent : ℕ → ℕ → List ℕ → Fact
sent s p counts = record { reads = λ t. (visit_at t s p).sent; says = counts }

-- 1 for a message slot that holds something, 0 for an empty one
abbrev pub mail : ℕ → ℕ → Fact
mail m = one (λ t. one_if (not (is_empty (message_at t m).body)))

-- from where to where the message in a slot goes, for which handle, and its stamp
abbrev pub post : ℕ → ℕ → ℕ → ℕ → ℕ → Fact
post m source destination handle stamp =
    record {
      reads =
          λ t. (message_at t m).source ∷ (message_at t m).destination ∷ (message_at t m).handle ∷ (message_at t m).stamp ∷ [];
      says = source ∷ destination ∷ handle ∷ stamp ∷ [];
    }

-- ---- rows

-- a run has the tables, the records, a number and a value for each, and facts; a sheet its bytes, and those of its listing
pub data Row : Type 0 where
  run_on : Tables → List (List ℕ) → List (List ℕ) → List Fact → Row
  sheet : List ℕ → List ℕ → Row

abbrev pub run : List (List ℕ) → List (List ℕ) → List Fact → Row
run = run_on start

abbrev pub accepted : ℕ → List ℕ
accepted value = 0 ∷ value ∷ []

abbrev pub refused : ℕ → List ℕ
refused number = number ∷ 0 ∷ []

-- a step's record with what it answers, so that a table has the two side by side
pub record Line : Type 0 where
  pub bytes : List ℕ
  pub says : List ℕ

infix 70 ◌gives◌
infix 70 ◌refused_by◌
abbrev pub ◌gives◌ : Step → ℕ → Line
step gives value = record { bytes = record_of_step step; says = accepted value }

abbrev pub ◌refused_by◌ : Step → ℕ → Line
step refused_by number = record { bytes = record_of_step step; says = refused number }

-- a run from these tables, line by line, and what the tables then hold
abbrev pub lines_on : Tables → List Line → List Fact → Row
lines_on t lines = run_on t (map (λ l. l.bytes) lines) (map (λ l. l.says) lines)

abbrev pub lines : List Line → List Fact → Row
lines = lines_on start

-- ---- what the definitions give for a row, and what the row wants, as lists of numbers

abbrev pub answer_pair : Answer → List ℕ
answer_pair a = answer_number a ∷ answer_value a ∷ []

abbrev pub fact_found : Tables → Fact → List ℕ
fact_found t fact = fact.reads t

abbrev pub fact_wanted : Fact → List ℕ
fact_wanted fact = fact.says

-- the answers of a run, and then what the facts read off the tables that it leaves, gone through once
unfoldable pub walked_of : Tables → List (List ℕ) → List Fact → List ℕ
walked_of t [] facts = joined (map (fact_found t) facts)
walked_of t (r ∷ rs) facts =
    let o : Outcome = step_record_of t r in
    answer_number o.answer ∷ answer_value o.answer ∷ walked_of o.tables rs facts

-- they are those of `Runs.antt`
pub walked_is_run :
    (t : Tables) (records : List (List ℕ)) (facts : List Fact)
    → walked_of t records facts
    ≡ joined (map answer_pair (record_answers_of t records)) ++ joined (map (fact_found (run_records_of t records)) facts)
unfolding walked_of record_answers_of run_records_of
walked_is_run t [] facts = refl
walked_is_run t (r ∷ rs) facts =
    ap
    (λ (xs : List ℕ). answer_number (step_record_of t r).answer ∷ answer_value (step_record_of t r).answer ∷ xs)
    (walked_is_run (step_record_of t r).tables rs facts)

unfoldable pub found : Row → List ℕ
unfolding start every_up_to some_up_to sum_up_to most_up_to first_up_to counts_in_range round_in_range in_range first_refusal sent_to is_closed largest_quiesce answer_count tick_of sweep_of swept_slot crash_of crashed_slot recover_of begin_of abort_of retire_of open_of refresh_of terminate_of prepare_of ask_of close_of tell_of invoke_of empty_of deliver_call_of deliver_phase_one_of deliver_phase_two_of deliver_answer_of deliver_reply_of deliver_body_of drop_of lowest_empty places_of remains decide_of stored head_of turn_of turns_up_to step_in_range_of step_of step_of_fields step_of_record record_of_step record_in_range_of step_record_of walked_of sheet_answer sheet_records spelt line_of printed_up_to listing_of
found (run_on t records says facts) = walked_of t records facts
found (sheet bytes listing) = listing_of bytes

unfoldable pub wanted : Row → List ℕ
wanted (run_on t records says facts) = joined says ++ joined (map fact_wanted facts)
wanted (sheet bytes listing) = listing
