-- "before which a passage that fails keeps its holds": in every run an object that a passage held and after a step no longer holds was let go
-- by a step after which the passage is committed, or by a sweep at a clock that had reached the release time of the passage's visit there. Assumes nothing.
use Rattle.std.specs.Prelude.{ℕ, ◌<◌, ◌≡◌, ◌⊎◌, true, false, List}
use Rattle.std.proofs.Common.{inl, inr, ⊎_elim}
use Rattle.rules.specs.Tables.{passage_at, object_site}
use Rattle.rules.specs.Answers.{is_accepted}
use Rattle.rules.specs.Machine.{step_of}
use Rattle.rules.specs.Runs.{Started, run_of}
use Rattle.rules.specs.Events.{is_holding}
use Rattle.runs.specs.Types.{Status, Tables, Step}
use Rattle.runs.proofs.Walk.Sound.{sound_run}
use Rattle.runs.proofs.Times.Ledgers.{ledgers_of}
use Rattle.runs.proofs.Holders.Holders.{held_run, held_below}
use Rattle.runs.specs.Operations.Definitions.{SweptAt}
use Rattle.runs.proofs.Operations.LetGo.{let_go_by}
use Rattle.runs.proofs.Commits.Pledged.{pledged_run}
use Rattle.runs.proofs.Commits.Word.{committed_after_word}

-- which step of a committed passage that is, `let_go_by` says: the close of its commit round, at home, or the delivery there of its word.
-- what lets an object go: an accepted step after which its passage is committed, or a sweep of a visit that a sweep may take, whose release time has come
pub holds_until_release :
    {t₀ : Tables} → Started t₀ → (ss : List Step) (step : Step) (p k : ℕ) → is_holding (run_of t₀ ss) p k ≡ true
    → is_holding (step_of (run_of t₀ ss) step).tables p k ≡ false
    → ((is_accepted (step_of (run_of t₀ ss) step).answer ≡ true) × ((passage_at (step_of (run_of t₀ ss) step).tables p).status ≡ Status.Committed))
    ⊎ SweptAt (run_of t₀ ss) step (object_site k) p
holds_until_release {t₀} fresh ss step p k held free =
    let slot : p < 16 = (held_below (run_of t₀ ss) p k (held_run fresh ss) held).0 in
    ⊎_elim
    (λ w. inl (w.0, committed_after_word (run_of t₀ ss) (ledgers_of t₀ ss) (pledged_run fresh ss) p slot step (object_site k) w.0 w.1))
    (λ w. inr w)
    (let_go_by (run_of t₀ ss) step k p slot (sound_run fresh ss) held free)
