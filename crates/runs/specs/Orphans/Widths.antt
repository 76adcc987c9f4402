-- The width of an object at rest, kept along a run: the value that it had when nobody held it last; and the steps that commit. Assumes nothing.
use Rattle.std.specs.Prelude.{ℕ, ◌≡◌, Bool, true, false, cond, ◌&&◌, List, [], ◌∷◌, ◌++◌}
use Rattle.rules.specs.Tables.{object_at}
use Rattle.rules.specs.Answers.{is_accepted}
use Rattle.rules.specs.Parts.{is_unheld}
use Rattle.rules.specs.Machine.{step_of}
use Rattle.rules.specs.Record.{is_step}
use Rattle.rules.specs.Runs.{run_of}
use Rattle.runs.specs.Types.{Tables, Step, Seen}
use Rattle.runs.specs.Walk.Says.{is_prepare, carries_commit}
use Rattle.runs.specs.Walk.Seen.{seen_at}

-- ---- the width at rest

-- in these tables nobody holds object k
abbrev pub is_at_rest : Tables → ℕ → Bool
is_at_rest t k = is_unheld (object_at t k)

-- whether the object's value stands: no sweep of its holder would undo it. Today that is so where nobody holds it
abbrev pub value_stands : Tables → ℕ → Bool
value_stands t k = is_at_rest t k

-- the width at rest, the width that stands, once a step has left these tables: the object's value where that stands, else what it was
abbrev pub rest_after : Tables → ℕ → ℕ → ℕ
rest_after t k rest = cond (value_stands t k) (object_at t k).value rest

unfoldable pub rest_from : Tables → List Step → ℕ → ℕ → ℕ
rest_from t [] k rest = rest
rest_from t (s ∷ ss) k rest = rest_from (step_of t s).tables ss k (rest_after (step_of t s).tables k rest)

-- where a run begins nobody holds any
unfoldable pub rest_of : Tables → List Step → ℕ → ℕ
rest_of t₀ ss k = rest_from t₀ ss k (object_at t₀ k).value

-- object k is held after each of these steps
abbrev pub HeldThrough : Tables → List Step → ℕ → Type 0
HeldThrough t [] k = Unit {0}
HeldThrough t (s ∷ ss) k = (is_at_rest (step_of t s).tables k ≡ false) × HeldThrough (step_of t s).tables ss k

-- ---- the steps that commit: phase 2 of a prepare, at home by close, elsewhere by a delivered message

-- by the step and what it sees: a close (code 8) of a commit round, or a delivery (code 11) of its word
abbrev pub commits : Step → Seen → Bool
commits step seen =
    cond (is_step 8 step) (is_prepare seen.passage.round.kind) (is_step 11 step && carries_commit seen.message.body)

-- what is known of a step that changes the width at rest of object k: it is accepted, it commits, and the new width is the value that stood written
pub record Committed (t₀ : Tables) (ss : List Step) (s : Step) (k : ℕ) : Type 0 where
  pub accepted : is_accepted (step_of (run_of t₀ ss) s).answer ≡ true
  pub commit : commits s (seen_at (run_of t₀ ss) s) ≡ true
  pub width : rest_of t₀ (ss ++ (s ∷ [])) k ≡ (object_at (run_of t₀ ss) k).value
