-- A commit is whole: from the step on by which a passage becomes committed,
-- every object that it held right before that step is held by it with the value that it had,
-- or it has let it go, and right after the letting go that value was the width that stands.
-- The idea: a passage whose commit round is closed has no call in flight and no visit that a sweep may take,
-- so only home's word can touch what it holds, and that keeps the value. Assumes nothing.
use Rattle.std.specs.Prelude.{ℕ, ◌%◌, ◌<◌, ◌≡◌, refl, ◌≢◌, ◌⊎◌, true, false}
use Rattle.std.proofs.Common.{sym, ◌∙◌, subst, true≢false}
use Rattle.std.proofs.Math.Path.{ap}
use Rattle.std.proofs.Math.Logic.{⊎_elim, inl, inr}
use mathlib.Core.List.{List, [], ◌∷◌, ◌++◌, append-nil, append_assoc}
use Rattle.rules.specs.LoopsLaws.{either, not_true}
use Rattle.rules.specs.Tables.{object_at, passage_at, visit_at, object_site}
use Rattle.rules.specs.Parts.{is_over, unheld}
use Rattle.rules.proofs.PartsLaws.{let_go_unheld}
use Rattle.rules.specs.Machine.{step_of}
use Rattle.rules.specs.Record.{flat_of}
use Rattle.rules.specs.Runs.{Started, run_of}
use Rattle.rules.specs.Events.{is_holding}
use Rattle.runs.specs.Types.{Status, Call, Body, Tables, Step}
use Rattle.runs.specs.Walk.Says.{is_binding}
use Rattle.runs.proofs.Walk.Steps.{run_on}
use Rattle.runs.specs.Times.View.{Ledger, view_of}
use Rattle.runs.proofs.Times.Ledgers.{ledgers_of}
use Rattle.runs.proofs.Times.Store.{own_body}
use Rattle.runs.proofs.Kept.Answered.{closing_no_call}
use Rattle.runs.proofs.Holders.Holders.{held_run, held_below}
use Rattle.runs.specs.Orphans.Widths.{rest_of}
use Rattle.runs.proofs.Orphans.Rests.{standing, standing_unheld}
use Rattle.runs.proofs.Orphans.Undone.{rest_after_step}
use Rattle.runs.specs.Operations.Definitions.{mail_named}
use Rattle.runs.proofs.Operations.LetGo.{let_go_by}
use Rattle.runs.proofs.Operations.HeldObject.{value_while_held, value_after_word}
use Rattle.runs.proofs.Commits.VowLaws.{committed_tells}
use Rattle.runs.proofs.Commits.Pledged.{Pledged, pledged_run}
use Rattle.runs.proofs.Commits.Over.{ClosesCommit, committed_by_closing, over_after_step}
use Rattle.runs.proofs.Order.Before.{called_by}
use Rattle.runs.proofs.Whole.RestsOn.{bound_at_commit}
use Rattle.runs.proofs.Whole.Whole.{holder_not_retired}
use Rattle.runs.specs.Whole.Definitions.{HeldOrLetStand, LetStand}

-- ---- what cannot touch a passage whose commit round is closed

-- it has no call in flight, and every visit of it is prepared
record Untouched (t : Tables) (p : ℕ) : Type 0 where
  silent : (k : ℕ) (c : Call) → ((view_of t p).mail k).body ≡ Body.Call c → ⊥
  prepared : (s : ℕ) → (visit_at t s p).there ≡ true → (visit_at t s p).prepared ≡ true

settled_at_commit : (t : Tables) (ls : ℕ → Ledger) (p : ℕ) → p < 16 → Pledged t ls → ClosesCommit (passage_at t p) → Untouched t p
settled_at_commit t ls p slot k closes =
    let hold = k.kept.slots p slot in
    record {
      silent = closing_no_call (view_of t p) (ls p) hold closes.asks closes.closed (ap is_binding closes.kind);
      prepared = λ s there. (bound_at_commit t ls p s slot k closes (hold.mirror s there).0).1;
    }

settled_after_commit : (t : Tables) (ls : ℕ → Ledger) (p : ℕ) → p < 16 → Pledged t ls → (passage_at t p).status ≡ Status.Committed → Untouched t p
settled_after_commit t ls p slot k committed =
    let tells = committed_tells (passage_at t p) (k.vows p slot).round committed in
    record {
      silent = λ i. (((k.kept.slots p slot).passage.closed_quiet tells.1 (ap is_binding tells.0)).mail i).call;
      prepared = λ s there. ((k.vows p slot).told tells.0 tells.1 s there).0;
    }

-- so a step leaves what it holds with its value, held or let go
whole_after_step :
    (t : Tables) (ls : ℕ → Ledger) (step : Step) (p k : ℕ) → p < 16 → Pledged t ls → Untouched t p → is_holding t p k ≡ true
    → ((is_holding (step_of t step).tables p k ≡ true) × ((object_at (step_of t step).tables k).value ≡ (object_at t k).value))
    ⊎ ((is_holding (step_of t step).tables p k ≡ false) × (object_at (step_of t step).tables k ≡ unheld (object_at t k).value))
whole_after_step t ls step p k slot pledged settled held =
    ⊎_elim
    (λ still.
    inl (
      still,
      ⊎_elim
          (λ e. e)
          (λ e.
          let called = called_by t p k step e in
          absurd
          (settled.silent
          ((flat_of step).c % 32)
          called.call
          (own_body p (mail_named t step) (Body.Call called.call) called.body refl called.own)))
          (value_while_held t step p k slot pledged.kept.sound held still),
    ))
    (λ gone.
    inr (
      gone,
      ⊎_elim
          (λ w. value_after_word t step p k slot pledged.kept.sound held gone w.0 w.1)
          (λ w. absurd (true≢false (sym (settled.prepared (object_site k) w.there) ∙ not_true _ w.sweepable)))
          (let_go_by t step k p slot pledged.kept.sound held gone),
    ))
    (either (is_holding (step_of t step).tables p k))

-- ---- the theorem

-- one more step at the front
let_stand_later :
    (t₀ : Tables) (before : List Step) (s : Step) (steps : List Step) (p k width : ℕ) → LetStand t₀ (before ++ s ∷ []) steps p k width
    → LetStand t₀ before (s ∷ steps) p k width
let_stand_later t₀ before s steps p k width g =
    let same : (before ++ s ∷ []) ++ g.first ≡ before ++ s ∷ g.first = append_assoc before (s ∷ []) g.first in
    record {
      first = s ∷ g.first;
      step = g.step;
      rest = g.rest;
      all = ap (λ (x : List Step). s ∷ x) g.all;
      held = subst (λ (x : List Step). is_holding (run_of t₀ x) p k ≡ true) same g.held;
      let_go = subst (λ (x : List Step). is_holding (step_of (run_of t₀ x) g.step).tables p k ≡ false) same g.let_go;
      stands = subst (λ (x : List Step). rest_of t₀ (x ++ g.step ∷ []) k ≡ width) same g.stands;
    }

module _ {t₀ : Tables} (fresh : Started t₀) (p k width : ℕ) (slot : p < 16) where
  -- a step at which the passage is settled
  one_more :
      (before : List Step) (step : Step) → Untouched (run_of t₀ before) p → is_holding (run_of t₀ before) p k ≡ true → (object_at (run_of t₀ before) k).value ≡ width
      → ((is_holding (run_of t₀ (before ++ step ∷ [])) p k ≡ true) × ((object_at (run_of t₀ (before ++ step ∷ [])) k).value ≡ width))
      ⊎ ((steps : List Step) → LetStand t₀ before (step ∷ steps) p k width)
  unfolding run_of
  one_more before step settled held value =
      let t : Tables = run_of t₀ before in
      let next : Tables = (step_of t step).tables in
      ⊎_elim
      (λ y. inl (rw (run_on t₀ before (step ∷ [])) (y.0, y.1 ∙ value)))
      (λ (y : (is_holding next p k ≡ false) × (object_at next k ≡ unheld (object_at t k).value)).
      inr
      (λ steps.
      let same : before ++ [] ≡ before = append-nil before in
      record {
        first = [];
        step = step;
        rest = steps;
        all = refl;
        held = rw same held;
        let_go = rw same y.0;
        stands =
            rw same
            (rest_after_step fresh before step k
            ∙ ap standing y.1
            ∙ standing_unheld (unheld (object_at t k).value) (let_go_unheld (object_at t k).value)
            ∙ value);
      }))
      (whole_after_step t (ledgers_of t₀ before) step p k slot (pledged_run fresh before) settled held)

  longer :
      (before : List Step) (s : Step) (steps : List Step) → HeldOrLetStand t₀ (before ++ s ∷ []) steps p k width
      → HeldOrLetStand t₀ before (s ∷ steps) p k width
  longer before s steps (inl y) = inl (rw (← append_assoc before (s ∷ []) steps) y)
  longer before s steps (inr y) = inr (let_stand_later t₀ before s steps p k width y)

  -- from a committed passage on
  committed_whole :
      (before steps : List Step) → (passage_at (run_of t₀ before) p).status ≡ Status.Committed → is_holding (run_of t₀ before) p k ≡ true
      → (object_at (run_of t₀ before) k).value ≡ width → HeldOrLetStand t₀ before steps p k width
  unfolding run_of
  committed_whole before [] committed held value = inl (rw (append-nil before) (held, value))
  committed_whole before (s ∷ steps) committed held value =
      ⊎_elim
      (λ y.
      let still : (passage_at (run_of t₀ (before ++ s ∷ [])) p).status ≡ Status.Committed =
      ap (λ (t : Tables). (passage_at t p).status) (run_on t₀ before (s ∷ []))
      ∙ over_after_step (run_of t₀ before) (ledgers_of t₀ before) s p (pledged_run fresh before) slot
      (ap is_over committed)
      (holder_not_retired fresh before s p k held)
      ∙ committed in
      longer before s steps (committed_whole (before ++ s ∷ []) steps still y.0 y.1))
      (λ y. inr (y steps))
      (one_more before s (settled_after_commit (run_of t₀ before) (ledgers_of t₀ before) p slot (pledged_run fresh before) committed) held value)

-- by the step commit the passage becomes committed;
-- whatever steps come after it, each object that it held right before is held with its value, or was let go and its value stood
pub commit_is_whole :
    {t₀ : Tables} → Started t₀ → (before : List Step) (commit : Step) (after : List Step) (p k : ℕ)
    → (passage_at (run_of t₀ before) p).status ≢ Status.Committed
    → (passage_at (step_of (run_of t₀ before) commit).tables p).status ≡ Status.Committed
    → is_holding (run_of t₀ before) p k ≡ true
    → HeldOrLetStand t₀ before (commit ∷ after) p k (object_at (run_of t₀ before) k).value
unfolding run_of
commit_is_whole {t₀} fresh before commit after p k not_yet committed held =
    let slot : p < 16 = (held_below (run_of t₀ before) p k (held_run fresh before) held).0 in
    ⊎_elim
    (λ y.
    longer fresh p k (object_at (run_of t₀ before) k).value slot before commit after
    (committed_whole fresh p k (object_at (run_of t₀ before) k).value slot (before ++ commit ∷ []) after
    (ap (λ (t : Tables). (passage_at t p).status) (run_on t₀ before (commit ∷ [])) ∙ committed)
    y.0
    y.1))
    (λ y. inr (y after))
    (one_more fresh p k (object_at (run_of t₀ before) k).value slot before commit
    (settled_at_commit (run_of t₀ before) (ledgers_of t₀ before) p slot (pledged_run fresh before)
    (committed_by_closing (run_of t₀ before) (ledgers_of t₀ before) commit p (pledged_run fresh before) slot not_yet committed))
    held
    refl)
