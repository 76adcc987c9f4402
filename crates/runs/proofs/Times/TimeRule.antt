-- The time rule. In every run from the start, no quiesce time of a passage at any station exceeds any release time of that passage at any station.
-- Nothing is asked of the steps: any numbers, refused ones, losses, crashes, slots used again. Assumes nothing.
use Rattle.std.specs.Prelude.{ℕ, List}
use Rattle.rules.specs.Runs.{Started, run_of, run_records_of}
use Rattle.runs.specs.Types.{Tables, Step}
use Rattle.runs.specs.Times.Rule.{TimeRule}
use Rattle.runs.proofs.Walk.Steps.{steps_read, records_are_steps}
use Rattle.runs.proofs.Times.Ledgers.{kept_run}

-- whatever steps were run
pub time_rule : {t₀ : Tables} → Started t₀ → (steps : List Step) → TimeRule (run_of t₀ steps)
time_rule {t₀} fresh steps slot one other p i j e f =
    let h = (kept_run fresh steps).slots slot p in
    rw
    (← (h.mirror one e).1, ← (h.mirror other f).1)
    ((h.sites one (h.mirror one e).0).times.visits other (h.mirror other f).0)

-- whatever records were run, of sixteen bytes or not
pub time_rule_records : {t₀ : Tables} → Started t₀ → (records : List (List ℕ)) → TimeRule (run_records_of t₀ records)
time_rule_records {t₀} fresh records = rw (records_are_steps t₀ records) (time_rule fresh (steps_read records))
