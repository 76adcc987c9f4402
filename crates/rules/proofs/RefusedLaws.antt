-- Demand 1 of the definitions: a refused step or record leaves every table as it stood. Assumes nothing.
use Rattle.std.specs.Prelude.{ℕ, zero, suc, ◌≡◌, refl, Bool, false, List, Ok, Err, Some, None}
use Rattle.std.proofs.Common.{sym, ap, ◌∙◌, ⊎_elim, true≢false}
use Rattle.rules.specs.Types.{Tables, Step, Reading, Answer, Trip, Outcome}
use Rattle.rules.specs.Ranges.{in_range}
use Rattle.rules.specs.Answers.{is_accepted, answer_value}
use Rattle.rules.proofs.SettledLaws.{decided_refused}
use Rattle.rules.specs.LoopsLaws.{either}
use Rattle.rules.specs.Machine.{look_of, places_of, seen_of, stored, head_of, count_one, turn_of, turns_up_to, turn_count, step_in_range_of, step_of, found_of}
use Rattle.rules.specs.Record.{step_of_record, reading_of, record_in_range_of, step_record_of}
use Rattle.rules.specs.StoredLaws.{stored_seen}

-- a refusal carries value 0
pub refused_value : (a : Answer) → is_accepted a ≡ false → answer_value a ≡ 0
refused_value (Ok v) e = absurd (true≢false e)
refused_value (Err r) e = refl

head_refused : (t : Tables) (step : Step) → is_accepted (head_of t step).answer ≡ false → (head_of t step).tables ≡ t
unfolding head_of
head_refused t step e =
    ap
    (stored t (places_of t (look_of step)))
    (decided_refused
    step
    (found_of t (places_of t (look_of step)))
    (seen_of t (places_of t (look_of step)))
    e)
    ∙ stored_seen t (places_of t (look_of step))

-- going through the slots neither refuses nor accepts
count_keeps : (a : Answer) (b : Bool) → is_accepted (count_one a b) ≡ is_accepted a
count_keeps (Ok v) b = refl
count_keeps (Err r) b = refl

turn_keeps : (trip : Trip) (slot : ℕ) (o : Outcome) → is_accepted (turn_of trip slot o).answer ≡ is_accepted o.answer
unfolding turn_of
turn_keeps Trip.Nowhere slot o = refl
turn_keeps (Trip.Sweep site) slot o = count_keeps o.answer _
turn_keeps (Trip.Crash site) slot o = refl

pub turns_keep : (trip : Trip) (o : Outcome) (n : ℕ) → is_accepted (turns_up_to trip o n).answer ≡ is_accepted o.answer
unfolding turns_up_to
turns_keep trip o zero = refl
turns_keep trip o (suc n) = turn_keeps trip n (turns_up_to trip o n) ∙ turns_keep trip o n

-- a refused head goes through no slot
no_turns : (trip : Trip) (o : Outcome) → is_accepted o.answer ≡ false → turns_up_to trip o (turn_count trip o.answer) ≡ o
unfolding turns_up_to
no_turns Trip.Nowhere o e = refl
no_turns (Trip.Sweep site) o e = rw e
no_turns (Trip.Crash site) o e = rw e

in_range_refused : (t : Tables) (step : Step) → is_accepted (step_in_range_of t step).answer ≡ false → (step_in_range_of t step).tables ≡ t
unfolding step_in_range_of
in_range_refused t step e =
    let trip : Trip = (look_of step).trip in
    let h : is_accepted (head_of t step).answer ≡ false =
    sym (turns_keep trip (head_of t step) (turn_count trip (head_of t step).answer)) ∙ e in
    ap (λ (o : Outcome). o.tables) (no_turns trip (head_of t step) h) ∙ head_refused t step h

-- what is refused leaves the tables, whether by 20 or by its own number
pub refused_leaves : (t : Tables) (step : Step) → is_accepted (step_of t step).answer ≡ false → (step_of t step).tables ≡ t
unfolding step_of
refused_leaves t step e =
    ⊎_elim
    (λ q. rw q (in_range_refused t step (rw q at e)))
    (λ q. rw q)
    (either (in_range t))

reading_refused : (t : Tables) (r : Reading) → is_accepted (reading_of t r).answer ≡ false → (reading_of t r).tables ≡ t
reading_refused t None e = refl
reading_refused t (Some step) e = in_range_refused t step e

pub refused_record_leaves : (t : Tables) (b : List ℕ) → is_accepted (step_record_of t b).answer ≡ false → (step_record_of t b).tables ≡ t
unfolding step_record_of record_in_range_of
refused_record_leaves t b e =
    ⊎_elim
    (λ q. rw q (reading_refused t (step_of_record b) (rw q at e)))
    (λ q. rw q)
    (either (in_range t))

-- a record that stands for a step does what the step does
pub record_is_step : (t : Tables) (b : List ℕ) (step : Step) → step_of_record b ≡ Some step → step_record_of t b ≡ step_of t step
unfolding step_record_of record_in_range_of step_of
record_is_step t b step e = rw e
