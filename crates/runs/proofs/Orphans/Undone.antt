-- An orphan's figures are undone: an object that a sweep frees has the width that it had when nobody held it last, and only a commit changes that width.
-- The idea: in every run the width at rest, kept along the run, is the one that the tables know, and no step but a commit touches that. Assumes nothing.
use Rattle.std.specs.Prelude.{ℕ, ◌≡◌, refl, ◌≢◌, true, false, List, [], ◌∷◌, ◌++◌}
use Rattle.std.proofs.Common.{sym, ap, ◌∙◌, inl, inr, ⊎_elim}
use Rattle.std.proofs.lemmas.Bool.{false≢true}
use Rattle.rules.specs.LoopsLaws.{either}
use Rattle.rules.specs.Tables.{object_at}
use Rattle.rules.specs.Answers.{is_accepted}
use Rattle.rules.specs.Parts.{is_unheld}
use Rattle.rules.proofs.PartsLaws.{let_go_unheld}
use Rattle.rules.specs.Machine.{step_of}
use Rattle.rules.proofs.RefusedLaws.{refused_leaves}
use Rattle.rules.specs.Runs.{Started, run_of}
use Rattle.runs.specs.Types.{Tables, Step}
use Rattle.runs.specs.Walk.Seen.{seen_at}
use Rattle.runs.proofs.Walk.Steps.{run_on}
use Rattle.runs.proofs.Walk.Sound.{Sound, sound_started, sound_step, sound_run}
use Rattle.runs.proofs.Holders.Holders.{started_unheld}
use Rattle.runs.proofs.Orphans.Rests.{standing, standing_unheld, Stands}
use Rattle.runs.proofs.Orphans.RestSteps.{standing_after_step}
use Rattle.runs.specs.Orphans.Widths.{is_at_rest, rest_after, rest_from, rest_of, HeldThrough, commits, Committed}

-- ---- in every run the width at rest is the one that stands in the tables

-- one step: an object that is held after it has the saved value that it had, or had just been taken with its value
rest_step :
    (t : Tables) (s : Step) (k rest : ℕ) → Sound t → rest ≡ standing (object_at t k)
    → rest_after (step_of t s).tables k rest ≡ standing (object_at (step_of t s).tables k)
rest_step t s k rest z e =
    ⊎_elim
    (λ q. rw q)
    (λ q. rw q (held q (standing_after_step t s z k)))
    (either (is_at_rest (step_of t s).tables k))
  where
    held :
        is_at_rest (step_of t s).tables k ≡ false
        → Stands (commits s (seen_at t s)) (object_at t k) (object_at (step_of t s).tables k)
        → rest ≡ (object_at (step_of t s).tables k).before
    held q (inl stands) = e ∙ sym stands ∙ (rw q)
    held q (inr (c, free)) = absurd (false≢true (sym q ∙ ap is_unheld free ∙ let_go_unheld (object_at t k).value))

rest_from_lem :
    (t : Tables) (ss : List Step) (k rest : ℕ) → Sound t → rest ≡ standing (object_at t k)
    → rest_from t ss k rest ≡ standing (object_at (run_of t ss) k)
unfolding rest_from run_of
rest_from_lem t [] k rest z e = e
rest_from_lem t (s ∷ ss) k rest z e =
    rest_from_lem (step_of t s).tables ss k (rest_after (step_of t s).tables k rest) (sound_step t s z) (rest_step t s k rest z e)

-- at the start nobody holds any
started_at_rest : {t₀ : Tables} → Started t₀ → (k : ℕ) → is_at_rest t₀ k ≡ true
started_at_rest = started_unheld

pub rest_is_standing : {t₀ : Tables} → Started t₀ → (ss : List Step) (k : ℕ) → rest_of t₀ ss k ≡ standing (object_at (run_of t₀ ss) k)
unfolding rest_of
rest_is_standing {t₀} fresh ss k =
    rest_from_lem t₀ ss k (object_at t₀ k).value (sound_started fresh) (sym (standing_unheld (object_at t₀ k) (started_at_rest fresh k)))

-- so an object that is held has it as its value before
pub before_is_rest :
    {t₀ : Tables} → Started t₀ → (ss : List Step) (k : ℕ) → is_at_rest (run_of t₀ ss) k ≡ false → (object_at (run_of t₀ ss) k).before ≡ rest_of t₀ ss k
before_is_rest {t₀} fresh ss k e = rw (rest_is_standing fresh ss k, e)

-- and one that nobody holds has it as its value
pub value_is_rest :
    {t₀ : Tables} → Started t₀ → (ss : List Step) (k : ℕ) → is_at_rest (run_of t₀ ss) k ≡ true → (object_at (run_of t₀ ss) k).value ≡ rest_of t₀ ss k
value_is_rest {t₀} fresh ss k e = rw (rest_is_standing fresh ss k, e)

-- ---- one more step

-- the step leaves this width at rest
pub rest_after_step :
    {t₀ : Tables} → Started t₀ → (ss : List Step) (s : Step) (k : ℕ)
    → rest_of t₀ (ss ++ (s ∷ [])) k ≡ standing (object_at (step_of (run_of t₀ ss) s).tables k)
unfolding run_of
rest_after_step {t₀} fresh ss s k = rest_is_standing fresh (ss ++ (s ∷ [])) k ∙ ap (λ (t : Tables). standing (object_at t k)) (run_on t₀ ss (s ∷ []))

-- only a commit changes a width: no abort, no crash, no sweep and no retire does
pub only_commits_change :
    {t₀ : Tables} → Started t₀ → (ss : List Step) (s : Step) (k : ℕ) → rest_of t₀ (ss ++ (s ∷ [])) k ≢ rest_of t₀ ss k → Committed t₀ ss s k
only_commits_change {t₀} fresh ss s k changed =
    record {
      accepted =
          ⊎_elim
          (λ e. e)
          (λ e. absurd (changed (same (ap (λ (t : Tables). standing (object_at t k)) (refused_leaves (run_of t₀ ss) s e)))))
          (either (is_accepted (step_of (run_of t₀ ss) s).answer));
      commit = ⊎_elim (λ e. absurd (changed (same e))) (λ e. e.0) stands;
      width =
          ⊎_elim
          (λ e. absurd (changed (same e)))
          (λ e. rest_after_step fresh ss s k ∙ ap standing e.1)
          stands;
    }
  where
    stands : Stands (commits s (seen_at (run_of t₀ ss) s)) (object_at (run_of t₀ ss) k) (object_at (step_of (run_of t₀ ss) s).tables k)
    stands = standing_after_step (run_of t₀ ss) s (sound_run fresh ss) k

    same :
        standing (object_at (step_of (run_of t₀ ss) s).tables k) ≡ standing (object_at (run_of t₀ ss) k)
        → rest_of t₀ (ss ++ (s ∷ [])) k ≡ rest_of t₀ ss k
    same e = rest_after_step fresh ss s k ∙ e ∙ sym (rest_is_standing fresh ss k)

-- ---- the sweep

-- an object that nobody holds after a sweep has the width that it had at rest before the sweep, whoever held it then
pub rest_after_sweep :
    {t₀ : Tables} → Started t₀ → (ss : List Step) (site k : ℕ) → is_at_rest (step_of (run_of t₀ ss) (Step.Sweep site)).tables k ≡ true
    → (object_at (step_of (run_of t₀ ss) (Step.Sweep site)).tables k).value ≡ rest_of t₀ ss k
rest_after_sweep {t₀} fresh ss site k free =
    sym (standing_unheld (object_at (step_of (run_of t₀ ss) (Step.Sweep site)).tables k) free)
    ∙ ⊎_elim
    (λ e. e)
    (λ e. absurd (false≢true e.0))
    (standing_after_step (run_of t₀ ss) (Step.Sweep site) (sound_run fresh ss) k)
    ∙ sym (rest_is_standing fresh ss k)

-- while an object is held its width at rest stays
rest_while_held : (t : Tables) (ss : List Step) (k rest : ℕ) → HeldThrough t ss k → rest_from t ss k rest ≡ rest
unfolding rest_from
rest_while_held t [] k rest h = refl
rest_while_held t (s ∷ ss) k rest h =
    rest_while_held (step_of t s).tables ss k (rest_after (step_of t s).tables k rest) h.1 ∙ (rw h.0)

rest_from_after :
    (t : Tables) (ss later : List Step) (k rest : ℕ) → rest_from t (ss ++ later) k rest ≡ rest_from (run_of t ss) later k (rest_from t ss k rest)
unfolding rest_from run_of
rest_from_after t [] later k rest = refl
rest_from_after t (s ∷ ss) later k rest =
    rest_from_after (step_of t s).tables ss later k (rest_after (step_of t s).tables k rest)

-- the width at rest is what it is called: the value at the last moment at which nobody held the object
pub rest_is_last_free :
    {t₀ : Tables} → Started t₀ → (ss later : List Step) (k : ℕ) → is_at_rest (run_of t₀ ss) k ≡ true → HeldThrough (run_of t₀ ss) later k
    → rest_of t₀ (ss ++ later) k ≡ (object_at (run_of t₀ ss) k).value
unfolding rest_of
rest_is_last_free {t₀} fresh ss later k free held =
    rest_from_after t₀ ss later k (object_at t₀ k).value
    ∙ rest_while_held (run_of t₀ ss) later k (rest_from t₀ ss k (object_at t₀ k).value) held
    ∙ sym (value_is_rest fresh ss k free)

-- "restores and frees its objects": nobody holds object k after the steps ss, it is held after each later one, and then a sweep frees it;
-- it has the width again that it had after ss, whatever was written since
pub figures_undone :
    {t₀ : Tables} → Started t₀ → (ss later : List Step) (site k : ℕ) → is_at_rest (run_of t₀ ss) k ≡ true → HeldThrough (run_of t₀ ss) later k
    → is_at_rest (step_of (run_of (run_of t₀ ss) later) (Step.Sweep site)).tables k ≡ true
    → (object_at (step_of (run_of (run_of t₀ ss) later) (Step.Sweep site)).tables k).value ≡ (object_at (run_of t₀ ss) k).value
figures_undone {t₀} fresh ss later site k free held swept =
    ap (λ (t : Tables). (object_at (step_of t (Step.Sweep site)).tables k).value) (sym (run_on t₀ ss later))
    ∙ rest_after_sweep fresh
    (ss ++ later)
    site
    k
    (ap (λ (t : Tables). is_at_rest (step_of t (Step.Sweep site)).tables k) (run_on t₀ ss later) ∙ swept)
    ∙ rest_is_last_free fresh ss later k free held
