-- Runs: the tables after a list of steps or records, their answers, and the list of accepted steps. Assumes nothing.
use Rattle.std.specs.Prelude.{ℕ, ◌≡◌, refl, Bool, true, false, cond, List, [], ◌∷◌, ◌++◌}
use Rattle.rules.specs.Types.{Tables, Step, Answer, Places}
use Rattle.rules.specs.Tables.{start, site_at}
use Rattle.rules.specs.Answers.{is_accepted}
use Rattle.rules.specs.Machine.{look_of, places_of, step_of}
use Rattle.rules.specs.Record.{step_record_of}

-- ---- where a run begins

-- tables that a run begins with: the start, and no others
pub record Started (t : Tables) : Type 0 where
  pub empty : t ≡ start

pub start_started : Started start
start_started = record { empty = refl }

-- ---- the tables that a run leaves

unfoldable pub run_of : Tables → List Step → Tables
run_of t [] = t
run_of t (s ∷ ss) = run_of (step_of t s).tables ss

unfoldable pub run_records_of : Tables → List (List ℕ) → Tables
run_records_of t [] = t
run_records_of t (r ∷ rs) = run_records_of (step_record_of t r).tables rs

-- ---- its answers, one for each step or record

unfoldable pub answers_of : Tables → List Step → List Answer
answers_of t [] = []
answers_of t (s ∷ ss) = (step_of t s).answer ∷ answers_of (step_of t s).tables ss

unfoldable pub record_answers_of : Tables → List (List ℕ) → List Answer
record_answers_of t [] = []
record_answers_of t (r ∷ rs) = (step_record_of t r).answer ∷ record_answers_of (step_record_of t r).tables rs

-- ---- the list of accepted steps, in their order

-- an accepted step: its answer, where it looked (its site and its slot), whether it acted at that site, and its stamp
pub record Entry : Type 0 where
  pub step : Step
  pub answer : Answer
  pub places : Places
  pub acted : Bool
  pub stamp : ℕ

-- "Drop and retire act at no site."
abbrev pub acts_at_site : Step → Bool
acts_at_site (Step.Tick site n) = true
acts_at_site (Step.Begin home slot q r) = true
acts_at_site (Step.Invoke h site write object value) = true
acts_at_site (Step.Refresh h q r) = true
acts_at_site (Step.Terminate h) = true
acts_at_site (Step.Prepare h) = true
acts_at_site (Step.Ask h site) = true
acts_at_site (Step.Close h) = true
acts_at_site (Step.Tell h site) = true
acts_at_site (Step.Abort h) = true
acts_at_site (Step.Deliver m) = true
acts_at_site (Step.Drop m) = false
acts_at_site (Step.Sweep site) = true
acts_at_site (Step.Crash site) = true
acts_at_site (Step.Recover site) = true
acts_at_site (Step.Retire h) = false

-- the clock after the step of the site that it acted at; 0 where it acts at no site
abbrev pub stamp_of : Tables → Step → ℕ
stamp_of t s = cond (acts_at_site s) (site_at (step_of t s).tables (places_of t (look_of s)).site).clock 0

abbrev pub entry_of : Tables → Step → Entry
entry_of t s =
    record {
      step = s;
      answer = (step_of t s).answer;
      places = places_of t (look_of s);
      acted = acts_at_site s;
      stamp = stamp_of t s;
    }

-- an entry for an accepted step, nothing for a refused one
abbrev pub entries_of : Tables → Step → List Entry
entries_of t s = cond (is_accepted (step_of t s).answer) (entry_of t s ∷ []) []

unfoldable pub history_of : Tables → List Step → List Entry
history_of t [] = []
history_of t (s ∷ ss) = entries_of t s ++ history_of (step_of t s).tables ss
