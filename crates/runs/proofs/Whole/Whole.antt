-- The pair stands or falls together: only the holder's own commit changes a width that stands,
-- and no step changes that of an object which an aborted passage holds.
-- (What a sweep frees has its old width again, `figures_undone`; what a commit lets stand is `commit_is_whole`.) Assumes nothing.
use Rattle.std.specs.Prelude.{ℕ, ◌<◌, ◌≡◌, refl, ◌≢◌, true, false, ◌&&◌, List, [], ◌∷◌, ◌++◌, eqb}
use Rattle.std.proofs.Common.{sym, ap, ◌∙◌, subst, ⊎_elim, inr, true≢false, eqb-true}
use Rattle.std.proofs.lemmas.Bool.{false≢true, eqb-false}
use Rattle.rules.specs.declared.tables.Object.{Object}
use Rattle.rules.specs.LoopsLaws.{either}
use Rattle.rules.specs.Tables.{object_at, passage_at, object_site}
use Rattle.rules.specs.Answers.{is_accepted}
use Rattle.rules.specs.Parts.{is_unheld, is_held_by, is_over, is_aborted, unheld}
use Rattle.rules.proofs.PartsLaws.{someone_holds, unheld_not_held, let_go_unheld, one_holder}
use Rattle.rules.specs.Machine.{step_of}
use Rattle.rules.specs.Runs.{Started, run_of, history_of}
use Rattle.rules.specs.Events.{is_holding}
use Rattle.runs.specs.Types.{Status, Tables, Step}
use Rattle.runs.specs.Walk.Seen.{seen_at}
use Rattle.runs.proofs.Times.Ledgers.{ledgers_of}
use Rattle.runs.proofs.Holders.Holders.{held_run, held_below}
use Rattle.runs.specs.Orphans.Orphans.{retires, is_retired}
use Rattle.runs.specs.Orphans.Widths.{rest_of, commits}
use Rattle.runs.proofs.Orphans.Rests.{standing, standing_unheld, Stands}
use Rattle.runs.proofs.Orphans.RestSteps.{standing_after_step}
use Rattle.runs.proofs.Orphans.Undone.{rest_is_standing, rest_after_step}
use Rattle.runs.proofs.Events.HeldByList.{retired_holds_nothing}
use Rattle.runs.specs.Operations.Definitions.{SweptAt}
use Rattle.runs.proofs.Commits.Pledged.{pledged_run}
use Rattle.runs.proofs.Commits.Over.{over_is_final, over_after_step}
use Rattle.runs.proofs.Whole.Release.{holds_until_release}
use Rattle.runs.specs.Whole.Definitions.{ChangedBy}

-- ---- only the holder's own commit changes a width that stands

-- where the width that stands changes at a step, its holder before the step is a passage that is committed after it
pub changed_by_its_holder :
    {t₀ : Tables} → Started t₀ → (ss : List Step) (step : Step) (k : ℕ) → rest_of t₀ (ss ++ step ∷ []) k ≢ rest_of t₀ ss k
    → ChangedBy (run_of t₀ ss) step k
changed_by_its_holder {t₀} fresh ss step k changed =
    ⊎_elim
    (λ same. absurd (moved same))
    (λ let_go.
    let someone = someone_holds o (held_before let_go.1) in
    record {
      holder = someone.0;
      held = someone.1;
      committed =
          ⊎_elim
          (λ w. w.1)
          (λ w. absurd (not_swept w))
          (holds_until_release fresh ss step someone.0 k someone.1
          (ap (is_held_by someone.0) let_go.1 ∙ unheld_not_held someone.0 (unheld o.value) (let_go_unheld o.value)));
    })
    stands
  where
    t : Tables
    t = run_of t₀ ss

    o : Object
    o = object_at t k

    stands : Stands (commits step (seen_at t step)) o (object_at (step_of t step).tables k)
    stands = standing_after_step t step (held_run fresh ss).sound k

    moved : standing (object_at (step_of t step).tables k) ≡ standing o → ⊥
    moved e = changed (rest_after_step fresh ss step k ∙ e ∙ sym (rest_is_standing fresh ss k))

    -- an object that nobody holds has its own value as the width that stands
    held_before : object_at (step_of t step).tables k ≡ unheld o.value → is_unheld o ≡ false
    held_before e =
        ⊎_elim
        (λ free. absurd (moved (ap standing e ∙ standing_unheld (unheld o.value) (let_go_unheld o.value) ∙ sym (standing_unheld o free))))
        (λ free. free)
        (either (is_unheld o))

    -- no sweep changes it
    not_swept : {p : ℕ} → SweptAt t step (object_site k) p → ⊥
    not_swept w =
        ⊎_elim
        moved
        (λ e. false≢true (sym (subst (λ (x : Step). commits x (seen_at t x) ≡ false) (sym w.sweeps) refl) ∙ e.0))
        stands

-- ---- an abort lets nothing stand

-- who holds an object is not retired by a step
pub holder_not_retired :
    {t₀ : Tables} → Started t₀ → (ss : List Step) (step : Step) (p k : ℕ) → is_holding (run_of t₀ ss) p k ≡ true
    → (is_accepted (step_of (run_of t₀ ss) step).answer && retires p step) ≡ false
holder_not_retired {t₀} fresh ss step p k held =
    let below = held_below (run_of t₀ ss) p k (held_run fresh ss) held in
    ⊎_elim
    (λ r. absurd (true≢false (sym held ∙ (retired_holds_nothing (run_of t₀ ss) step p k (held_run fresh ss) below.0 below.1 r).0)))
    (λ r. r)
    (either (is_accepted (step_of (run_of t₀ ss) step).answer && retires p step))

-- once a passage is aborted, and until its slot is retired, no step changes the width that stands of an object that it holds
pub abort_is_whole :
    {t₀ : Tables} → Started t₀ → (before after : List Step) (step : Step) (p k : ℕ)
    → (passage_at (run_of t₀ before) p).status ≡ Status.Aborted → is_retired p (history_of (run_of t₀ before) after) ≡ false
    → is_holding (run_of t₀ (before ++ after)) p k ≡ true
    → rest_of t₀ ((before ++ after) ++ step ∷ []) k ≡ rest_of t₀ (before ++ after) k
abort_is_whole {t₀} fresh before after step p k aborted kept held =
    ⊎_elim
    (λ e. eqb-true _ _ e)
    (λ e.
    let by = changed_by_its_holder fresh ss step k (eqb-false _ _ e) in
    let same : by.holder ≡ p = one_holder by.holder p (object_at (run_of t₀ ss) k) by.held held in
    let now : (passage_at (run_of t₀ ss) p).status ≡ Status.Aborted = over_is_final fresh before after p (inr aborted) kept ∙ aborted in
    let slot : p < 16 = (held_below (run_of t₀ ss) p k (held_run fresh ss) held).0 in
    let still : (passage_at (step_of (run_of t₀ ss) step).tables p).status ≡ Status.Aborted =
    over_after_step (run_of t₀ ss) (ledgers_of t₀ ss) step p (pledged_run fresh ss) slot
    (ap is_over now)
    (holder_not_retired fresh ss step p k held)
    ∙ now in
    absurd (true≢false (ap is_aborted (sym still ∙ ap (λ (q : ℕ). (passage_at (step_of (run_of t₀ ss) step).tables q).status) (sym same) ∙ by.committed))))
    (either (eqb (rest_of t₀ (ss ++ step ∷ []) k) (rest_of t₀ ss k)))
  where
    ss : List Step
    ss = before ++ after
