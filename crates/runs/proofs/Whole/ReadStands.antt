-- What a first operation of an object found still stands when its passage becomes committed, by what a commit rests on. Assumes nothing.
use Rattle.std.specs.Prelude.{ℕ, ◌≡◌, ◌≢◌, true, false}
use Rattle.std.proofs.Common.{sym, ap, ◌∙◌, ⊎_elim}
use Rattle.std.proofs.lemmas.Bool.{false≢true}
use mathlib.Core.List.{List, ◌∷◌, ◌++◌}
use Rattle.rules.specs.Tables.{object_at, passage_at}
use Rattle.rules.specs.Parts.{is_unheld}
use Rattle.rules.specs.Machine.{step_of}
use Rattle.rules.specs.Runs.{Started, run_of, history_of}
use Rattle.rules.specs.Events.{is_holding}
use Rattle.runs.specs.Types.{Status, Body, Tables, Step}
use Rattle.runs.proofs.Holders.Holders.{held_run}
use Rattle.runs.specs.Orphans.Orphans.{is_retired}
use Rattle.runs.specs.Orphans.Widths.{rest_of}
use Rattle.runs.proofs.Orphans.Undone.{value_is_rest}
use Rattle.runs.specs.Operations.Definitions.{operates, Finds}
use Rattle.runs.proofs.Operations.Operated.{operated_was_free_or_own, operated_finds}
use Rattle.runs.proofs.Whole.RestsOn.{commit_rests_on_what_stands}

-- so what a first operation of an object found is the width that stands when its passage becomes committed
pub read_is_what_stands :
    {t₀ : Tables} → Started t₀ → (before : List Step) (s : Step) (between : List Step) (commit : Step) (p k : ℕ)
    → operates (run_of t₀ before) p k s ≡ true → is_holding (run_of t₀ before) p k ≡ false
    → is_retired p (history_of (run_of t₀ before) (s ∷ between)) ≡ false
    → (passage_at (run_of t₀ (before ++ s ∷ between)) p).status ≢ Status.Committed
    → (passage_at (step_of (run_of t₀ (before ++ s ∷ between)) commit).tables p).status ≡ Status.Committed
    → Finds (run_of t₀ before) s (rest_of t₀ (before ++ s ∷ between) k)
read_is_what_stands {t₀} fresh before s between commit p k e fresh-hold r not_yet committed =
    let z = (held_run fresh before).sound in
    let free : is_unheld (object_at (run_of t₀ before) k) ≡ true =
    ⊎_elim
    (λ y. y)
    (λ y. absurd (false≢true (sym fresh-hold ∙ y)))
    (operated_was_free_or_own (run_of t₀ before) p k s z e) in
    let rests = commit_rests_on_what_stands fresh before s between commit p k e r not_yet committed in
    operated_finds (run_of t₀ before) p k s z e ∙ ap Body.Reply (value_is_rest fresh before k free ∙ sym rests.stands)
