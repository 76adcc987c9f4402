-- What it is that a station can be cleared of a passage: the lists of steps, and what they leave. Assumes nothing.
use Rattle.std.specs.Prelude.{ℕ, ◌≤◌, ◌≡◌, ◌⊎◌, true, List, [], ◌∷◌, ◌++◌, length}
use Rattle.rules.specs.Answers.{is_accepted}
use Rattle.rules.specs.Machine.{step_of}
use Rattle.rules.specs.Runs.{run_of}
use Rattle.runs.specs.Types.{Tables, Step}
use Rattle.runs.specs.Orphans.Orphans.{NothingLeft}

-- every step of the list is accepted, each on the tables that the one before left
unfoldable pub AllAccepted : Tables → List Step → Type 0
AllAccepted t [] = Unit {0}
AllAccepted t (s ∷ ss) = (is_accepted (step_of t s).answer ≡ true) × AllAccepted (step_of t s).tables ss

-- ticks of a station, one by each of these numbers
unfoldable pub ticks_at : ℕ → List ℕ → List Step
ticks_at site [] = []
ticks_at site (n ∷ ns) = Step.Tick site n ∷ ticks_at site ns

-- these recovers, then ticks by these numbers, then one sweep
abbrev pub clearing : ℕ → List Step → List ℕ → List Step
clearing site recovers ticks = recovers ++ (ticks_at site ticks ++ (Step.Sweep site ∷ []))

-- At most one recover of the station, at most 1,000 ticks of it and one sweep of it, in this order and all accepted from these tables;
-- after them the passage slot has no visit there, and holds no object that stands there
pub record Clears (t : Tables) (site slot : ℕ) : Type 0 where
  pub recovers : List Step
  pub one_recover : (recovers ≡ []) ⊎ (recovers ≡ Step.Recover site ∷ [])
  pub ticks : List ℕ
  pub few_ticks : length ticks ≤ 1000
  pub accepted : AllAccepted t (clearing site recovers ticks)
  pub cleared : NothingLeft (run_of t (clearing site recovers ticks)) slot site
