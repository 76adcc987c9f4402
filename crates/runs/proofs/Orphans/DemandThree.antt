-- Demand 3, as the lockmaster says it, from what is known from the moment on. Assumes nothing.
use Rattle.std.specs.Prelude.{ℕ, ◌<◌, ◌≡◌, false, List}
use Rattle.rules.specs.Tables.{passage_at}
use Rattle.rules.specs.Runs.{Started, run_of, history_of}
use Rattle.runs.specs.Types.{Status, Tables, Step}
use Rattle.runs.specs.Orphans.Orphans.{Released, began_commit, latest}
use Rattle.runs.proofs.Orphans.Moment.{swept_nothing, later_nothing, drive}

module _ {t₀ : Tables} (fresh : Started t₀) (before : List Step) (slot site : ℕ) (slots : slot < 16) (sites : site < 8)
    (aborted : (passage_at (run_of t₀ before) slot).status ≡ Status.Aborted)
    (never : began_commit slot false (history_of t₀ before) ≡ false) where
  -- demand 3, for the smaller T
  pub demand_three : Released (run_of t₀ before) slot site (latest (run_of t₀ before) slot)
  demand_three =
      record {
        swept = swept_nothing fresh before slot site slots sites aborted never;
        never_again = λ after later s a r n. later_nothing fresh before slot site slots sites aborted never after s a r later n;
        in_time = drive fresh before slot site slots sites aborted never (latest (run_of t₀ before) slot);
      }
