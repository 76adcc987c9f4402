-- Number 20 exactly: a step or a record is refused by it if and only if the tables handed in are out of range.
-- The idea: no list of checks has a check that gives 20, and going through the slots of a site changes no number. Assumes nothing.
use Rattle.std.specs.Prelude.{ℕ, zero, suc, ◌≡◌, refl, Bool, false, not, List, Ok, Err, Some, None}
use Rattle.std.proofs.Common.{◌∙◌, ⊎_elim}
use Rattle.rules.specs.Types.{Tables, Step, Reading, Answer, Trip, Outcome}
use Rattle.rules.specs.Ranges.{in_range}
use Rattle.rules.specs.Answers.{answer_number}
use Rattle.rules.specs.LoopsLaws.{either}
use Rattle.rules.specs.Machine.{look_of, head_of, count_one, turn_of, turns_up_to, turn_count, step_in_range_of, step_of}
use Rattle.rules.proofs.SettledLaws.{is_twenty, decided_not_twenty}
use Rattle.rules.specs.Record.{step_of_record, reading_of, record_in_range_of, step_record_of}

number_after_count : (a : Answer) (b : Bool) → answer_number (count_one a b) ≡ answer_number a
number_after_count (Ok v) b = refl
number_after_count (Err r) b = refl

number_after_turn : (trip : Trip) (slot : ℕ) (o : Outcome) → answer_number (turn_of trip slot o).answer ≡ answer_number o.answer
unfolding turn_of
number_after_turn Trip.Nowhere slot o = refl
number_after_turn (Trip.Sweep site) slot o = number_after_count o.answer _
number_after_turn (Trip.Crash site) slot o = refl

pub number_after_turns : (trip : Trip) (o : Outcome) (n : ℕ) → answer_number (turns_up_to trip o n).answer ≡ answer_number o.answer
unfolding turns_up_to
number_after_turns trip o zero = refl
number_after_turns trip o (suc n) = number_after_turn trip n (turns_up_to trip o n) ∙ number_after_turns trip o n

in_range_not_twenty : (t : Tables) (step : Step) → is_twenty (step_in_range_of t step).answer ≡ false
unfolding step_in_range_of head_of
in_range_not_twenty t step =
    rw (number_after_turns (look_of step).trip (head_of t step) (turn_count (look_of step).trip (head_of t step).answer))
    (decided_not_twenty step _ _)

reading_not_twenty : (t : Tables) (r : Reading) → is_twenty (reading_of t r).answer ≡ false
reading_not_twenty t None = refl
reading_not_twenty t (Some step) = in_range_not_twenty t step

-- a step on tables that are in range never answers 20, and one on any others always does
pub twenty_of_step : (t : Tables) (step : Step) → is_twenty (step_of t step).answer ≡ not (in_range t)
unfolding step_of
twenty_of_step t step =
    ⊎_elim (λ e. rw e (in_range_not_twenty t step)) (λ e. rw e) (either (in_range t))

pub twenty_of_record : (t : Tables) (b : List ℕ) → is_twenty (step_record_of t b).answer ≡ not (in_range t)
unfolding step_record_of record_in_range_of
twenty_of_record t b =
    ⊎_elim (λ e. rw e (reading_not_twenty t (step_of_record b))) (λ e. rw e) (either (in_range t))
