-- What a commit rests on: when a passage becomes committed, it has at every station where it operated its visit there, and prepared,
-- holds every object that it operated, and the width that stands of each is what it was just before the operation.
-- So a check that commits has read, at every station, what stands at one and the same moment.
-- The idea: from the operation on the passage holds the object and its width stands, or it has let it go;
-- and who has let something go is committed already, or has a station that will not answer. Assumes nothing.
use Rattle.std.specs.Prelude.{ℕ, ◌<◌, ◌≡◌, refl, ◌≢◌, ◌⊎◌, true, false, ◌&&◌}
use Rattle.std.proofs.Common.{sym, ap, ◌∙◌, subst, ⊎_elim, inl, inr, true≢false}
use Rattle.std.proofs.lemmas.Bool.{false≢true}
use mathlib.Core.List.{List, [], ◌∷◌, ◌++◌}
use Rattle.rules.specs.LoopsLaws.{either}
use Rattle.rules.specs.Tables.{object_at, passage_at, visit_at, object_site}
use Rattle.rules.specs.Answers.{is_accepted}
use Rattle.rules.specs.Parts.{is_held_by, unheld}
use Rattle.rules.proofs.PartsLaws.{unheld_not_held, let_go_unheld}
use Rattle.rules.specs.Machine.{step_of}
use Rattle.rules.specs.Runs.{Started, run_of, history_of}
use Rattle.rules.specs.Events.{is_holding}
use Rattle.runs.specs.Types.{Status, Tables, Step}
use Rattle.runs.specs.Walk.Says.{is_binding}
use Rattle.runs.proofs.Walk.Steps.{run_on}
use Rattle.runs.specs.Times.View.{Ledger, view_of}
use Rattle.runs.proofs.Times.Ledgers.{ledgers_of}
use Rattle.runs.proofs.Kept.Answered.{closing_binding}
use Rattle.runs.proofs.Holders.HeldStore.{Held}
use Rattle.runs.proofs.Holders.Holders.{held_run, held_step, held_below}
use Rattle.runs.specs.Orphans.Orphans.{retires, is_retired}
use Rattle.runs.proofs.Orphans.Rests.{standing}
use Rattle.runs.proofs.Orphans.RestSteps.{standing_after_step}
use Rattle.runs.proofs.Orphans.Undone.{rest_is_standing}
use Rattle.runs.specs.Operations.Definitions.{operates}
use Rattle.runs.proofs.Operations.Operated.{operated_below, operated_is_held, standing_after_operated}
use Rattle.runs.proofs.Commits.Pledged.{Pledged, pledged_after_step, pledged_run}
use Rattle.runs.proofs.Commits.Since.{not_retired, step_carried}
use Rattle.runs.proofs.Commits.Over.{StatusIs, NoWay, over_carries, ClosesCommit, committed_by_closing}
use Rattle.runs.proofs.Order.Gone.{Gone, gone_carries}
use Rattle.runs.proofs.Order.Before.{SinceLetGo, let_go_at_once}
use Rattle.runs.specs.Whole.Definitions.{RestsOn}

-- ---- from the operation on

-- the passage holds the object, and this width stands
pub record HoldsStill (p k width : ℕ) (t : Tables) : Type 0 where
  pub holds : is_holding t p k ≡ true
  pub stands : standing (object_at t k) ≡ width

-- or it has let go of it, at some stamp
pub record HasLetGo (p k : ℕ) (t : Tables) : Type 0 where
  pub stamp : ℕ
  pub since : SinceLetGo stamp (object_site k) p t

-- while an object is held by the same passage its width stands
still_stands :
    (t : Tables) (step : Step) (p k : ℕ) → Held t → is_holding (step_of t step).tables p k ≡ true
    → standing (object_at (step_of t step).tables k) ≡ standing (object_at t k)
still_stands t step p k held holds =
    ⊎_elim
    (λ e. e)
    (λ e. absurd (true≢false (sym holds ∙ ap (is_held_by p) e.1 ∙ unheld_not_held p (unheld (object_at t k).value) (let_go_unheld (object_at t k).value))))
    (standing_after_step t step held.sound k)

pub let_go_carried :
    (x s p : ℕ) (t : Tables) (step : Step) → p < 16 → SinceLetGo x s p t → (is_accepted (step_of t step).answer && retires p step) ≡ false
    → SinceLetGo x s p (step_of t step).tables
let_go_carried x s p t step slot (inl c) r = inl (step_carried (StatusIs Status.Committed) NoWay (over_carries Status.Committed refl) p slot t step c r)
let_go_carried x s p t step slot (inr c) r = inr (step_carried (Gone x s) NoWay (gone_carries x s) p slot t step c r)

module _ (p k width : ℕ) (slot : p < 16) where
  abbrev pub StillOrGone : Tables → Type 0
  StillOrGone t = HoldsStill p k width t ⊎ HasLetGo p k t

  one_step :
      (t : Tables) (ls : ℕ → Ledger) (step : Step) → Held t → Pledged t ls → StillOrGone t → (is_accepted (step_of t step).answer && retires p step) ≡ false
      → StillOrGone (step_of t step).tables
  one_step t ls step held pledged (inl h) r =
      ⊎_elim
      (λ e. inl (record { holds = e; stands = still_stands t step p k held e ∙ h.stands }))
      (λ e. inr (record { stamp = _; since = let_go_at_once p k t ls step slot pledged h.holds e }))
      (either (is_holding (step_of t step).tables p k))
  one_step t ls step held pledged (inr g) r = inr (record { stamp = g.stamp; since = let_go_carried g.stamp (object_site k) p t step slot g.since r })

  -- no accepted step of the list retires the slot
  pub still_or_gone :
      (t : Tables) (ls : ℕ → Ledger) (ss : List Step) → Held t → Pledged t ls → StillOrGone t → is_retired p (history_of t ss) ≡ false → StillOrGone (run_of t ss)
  unfolding run_of history_of is_retired
  still_or_gone t ls [] held pledged y r = y
  still_or_gone t ls (s ∷ ss) held pledged y r =
      let each = not_retired p t s ss r in
      still_or_gone (step_of t s).tables _ ss (held_step t s held) (pledged_after_step t s ls pledged) (one_step t ls s held pledged y each.0) each.1

-- ---- at the commit

-- a site that has seen a passage whose commit round is closed has answered it, so its visit is there, and prepared
pub bound_at_commit :
    (t : Tables) (ls : ℕ → Ledger) (p s : ℕ) → p < 16 → Pledged t ls → ClosesCommit (passage_at t p) → (ls p s).seen ≡ true
    → ((visit_at t s p).there ≡ true) × ((visit_at t s p).prepared ≡ true)
bound_at_commit t ls p s slot k closes seen =
    let hold = k.kept.slots p slot in
    let yes = closing_binding (view_of t p) (ls p) hold closes.asks closes.closed (ap is_binding closes.kind) s seen in
    (k.vows p slot).asked closes.kind closes.asks s seen (hold.passage.kept s (hold.sites s seen).place yes).answered

-- p operated k at step s of a run from the start, and no accepted step since retired its slot; now p becomes committed by a step.
-- Then in the tables before that step its visit at k's station is there and prepared, it holds k,
-- and the width that stands of k is what it was just before the operation
pub commit_rests_on_what_stands :
    {t₀ : Tables} → Started t₀ → (before : List Step) (s : Step) (between : List Step) (commit : Step) (p k : ℕ)
    → operates (run_of t₀ before) p k s ≡ true → is_retired p (history_of (run_of t₀ before) (s ∷ between)) ≡ false
    → (passage_at (run_of t₀ (before ++ s ∷ between)) p).status ≢ Status.Committed
    → (passage_at (step_of (run_of t₀ (before ++ s ∷ between)) commit).tables p).status ≡ Status.Committed
    → RestsOn t₀ before (before ++ s ∷ between) p k
unfolding run_of
commit_rests_on_what_stands {t₀} fresh before s between commit p k e r not_yet committed =
    ⊎_elim
    (λ (h : HoldsStill p k (standing (object_at (run_of t₀ before) k)) now).
    let there : (visit_at now (object_site k) p).there ≡ true = ((held_run fresh ss).visits k p below h.holds).1 in
    let bound = bound_at_commit now (ledgers_of t₀ ss) p (object_site k) slot pledged closes ((pledged.kept.slots p slot).mirror (object_site k) there).0 in
    record {
      promised = record { there = bound.0; prepared = bound.1 };
      holds = h.holds;
      stands = rest_is_standing fresh ss k ∙ h.stands ∙ sym (rest_is_standing fresh before k);
    })
    (λ (g : HasLetGo p k now).
    ⊎_elim
    (λ c. absurd (not_yet c.has))
    (λ c. absurd (false≢true (sym c.has.gone ∙ (bound_at_commit now c.ledgers p (object_site k) slot c.pledged closes c.has.seen).0)))
    g.since)
    (subst (StillOrGone p k (standing (object_at (run_of t₀ before) k)) slot) (sym (run_on t₀ before (s ∷ between))) since)
  where
    ss : List Step
    ss = before ++ s ∷ between

    now : Tables
    now = run_of t₀ ss

    slot : p < 16
    slot =
        (held_below (step_of (run_of t₀ before) s).tables p k
        (held_step (run_of t₀ before) s (held_run fresh before))
        (operated_is_held (run_of t₀ before) p k s (held_run fresh before).sound e)
        ).0

    below : k < 32
    below = operated_below (run_of t₀ before) p k s (held_run fresh before).sound e

    pledged : Pledged now (ledgers_of t₀ ss)
    pledged = pledged_run fresh ss

    closes : ClosesCommit (passage_at now p)
    closes = committed_by_closing now (ledgers_of t₀ ss) commit p pledged slot not_yet committed

    since : StillOrGone p k (standing (object_at (run_of t₀ before) k)) slot (run_of (step_of (run_of t₀ before) s).tables between)
    since =
        still_or_gone p k (standing (object_at (run_of t₀ before) k)) slot (step_of (run_of t₀ before) s).tables _ between
        (held_step (run_of t₀ before) s (held_run fresh before))
        (pledged_after_step (run_of t₀ before) s (ledgers_of t₀ before) (pledged_run fresh before))
        (inl
        (record {
          holds = operated_is_held (run_of t₀ before) p k s (held_run fresh before).sound e;
          stands = standing_after_operated (run_of t₀ before) p k s (held_run fresh before).sound e;
        }))
        (not_retired p (run_of t₀ before) s between r).1
