-- What the theorems about telling speak of. Assumes nothing.
use Rattle.std.specs.Prelude.{ℕ, ◌≡◌, ◌≢◌, true}
use Rattle.rules.specs.Tables.{passage_at, visit_at, handle_of}
use Rattle.rules.specs.Answers.{is_accepted, answer_value}
use Rattle.rules.specs.Parts.{has_answered}
use Rattle.rules.specs.Machine.{step_of}
use Rattle.runs.specs.Types.{Kind, Phase, Tables, Step}
use Rattle.runs.specs.Orphans.Orphans.{NothingLeft}

-- a round that still tells: it is a commit round in phase 2, every site where its passage has a visit has answered, and home has none
pub record StillTells (t : Tables) (p : ℕ) : Type 0 where
  pub kind : (passage_at t p).round.kind ≡ Kind.Prepare
  pub phase : (passage_at t p).round.phase ≡ Phase.Two
  pub answered : (s : ℕ) → (visit_at t s p).there ≡ true → has_answered (passage_at t p).round s ≡ true
  pub away : (s : ℕ) → (visit_at t s p).there ≡ true → s ≢ (passage_at t p).home

-- home's tell of slot p to a station, by the handle that the slot has
abbrev pub tell_to : Tables → ℕ → ℕ → Step
tell_to t p s = Step.Tell (handle_of p (passage_at t p).generation) s

-- the delivery of the message that a step answered, on the tables that it left
abbrev pub heard : Tables → Step → Step
heard t step = Step.Deliver (answer_value (step_of t step).answer)

-- home may tell slot p's word to the station, the word may be delivered, and after that nothing of the slot is left there
pub record CanBeTold (t : Tables) (p s : ℕ) : Type 0 where
  pub told : is_accepted (step_of t (tell_to t p s)).answer ≡ true
  pub taken : is_accepted (step_of (step_of t (tell_to t p s)).tables (heard t (tell_to t p s))).answer ≡ true
  pub nothing : NothingLeft (step_of (step_of t (tell_to t p s)).tables (heard t (tell_to t p s))).tables p s
