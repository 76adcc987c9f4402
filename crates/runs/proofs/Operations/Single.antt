-- An accepted step that goes through no slots is its own store: its answer is the decision's, and its tables are what the decision left, stored.
-- Assumes nothing.
use Rattle.std.specs.Prelude.{ℕ, ◌%◌, ◌<◌, ◌≤◌, ◌≡◌, true}
use Rattle.std.proofs.Common.{arith, ◌∙◌, ⊎_elim, ltb-false}
use Rattle.std.proofs.Math.Path.{ap}
use Rattle.std.proofs.lemmas.Bool.{false≢true}
use Rattle.rules.specs.declared.looking.Trip.{Trip}
use Rattle.rules.specs.LoopsLaws.{either}
use Rattle.rules.specs.Tables.{message_at}
use Rattle.rules.specs.Answers.{is_accepted}
use Rattle.rules.specs.Ranges.{in_range}
use Rattle.rules.proofs.RangesLaws.{placed_places, seen_in_range}
use Rattle.rules.proofs.RangesFits.{SeenFits, seen_says}
use Rattle.rules.specs.Machine.{look_of, places_of, found_of, decide_of, stored, head_of, turns_up_to, turn_count, step_of}
use Rattle.rules.proofs.SettledLaws.{delivered_named}
use Rattle.runs.specs.Types.{Tables, Step, Decision, Outcome}
use Rattle.runs.specs.Walk.Seen.{places_at, seen_at}
use Rattle.runs.proofs.Walk.Steps.{accepted_turned, head_accepted}

-- what the step decides from what it sees
abbrev pub decision_at : Tables → Step → Decision
decision_at t step = decide_of step (found_of t (places_at t step)) (seen_at t step)

-- tables on which a step is accepted are in range
pub accepted_in_range : (t : Tables) (step : Step) → is_accepted (step_of t step).answer ≡ true → in_range t ≡ true
unfolding step_of
accepted_in_range t step e = ⊎_elim (λ q. q) (λ q. absurd (false≢true (rw q at e))) (either (in_range t))

-- so is all that it sees
pub accepted_seen : (t : Tables) (step : Step) → is_accepted (step_of t step).answer ≡ true → SeenFits (seen_at t step)
accepted_seen t step e = seen_says _ (seen_in_range t (places_at t step) (accepted_in_range t step e) (placed_places t (look_of step)))

-- its decision was accepted
pub decision_accepted : (t : Tables) (step : Step) → is_accepted (step_of t step).answer ≡ true → is_accepted (decision_at t step).answer ≡ true
unfolding head_of
decision_accepted t step e = head_accepted t step e

-- an accepted delivery names one of the 32 message slots
pub delivery_below : (t : Tables) (m : ℕ) → is_accepted (step_of t (Step.Deliver m)).answer ≡ true → m < 32
unfolding places_of decide_of
delivery_below t m e =
    let l : m ≤ 31 = ltb-false 31 m (delivered_named (message_at t (m % 32)).body m (seen_at t (Step.Deliver m)) (decision_accepted t (Step.Deliver m) e)) in
    omega arith

module _ (t : Tables) (step : Step) (n : (look_of step).trip ≡ Trip.Nowhere) (e : is_accepted (step_of t step).answer ≡ true) where
  single : step_of t step ≡ head_of t step
  unfolding turns_up_to
  single = accepted_turned t step e ∙ ap (λ (x : Trip). turns_up_to x (head_of t step) (turn_count x (head_of t step).answer)) n

  -- its tables are those of its own store
  pub single_head : (step_of t step).tables ≡ (head_of t step).tables
  single_head = ap (λ (o : Outcome). o.tables) single

  -- its answer
  pub single_answer : (step_of t step).answer ≡ (decision_at t step).answer
  unfolding head_of
  single_answer = ap (λ (o : Outcome). o.answer) single

  -- and what is stored
  pub single_stored : (step_of t step).tables ≡ stored t (places_at t step) (decision_at t step).left
  unfolding head_of
  single_stored = single_head
