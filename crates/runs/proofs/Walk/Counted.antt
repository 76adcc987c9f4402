-- Accepted steps at a station drive its clock: each adds at least 1. Assumes nothing.
use Rattle.std.specs.Prelude.{ℕ, ◌+◌, ◌≤◌, ◌≡◌, true, false, ◌&&◌, List, [], ◌∷◌, eqb}
use Rattle.std.proofs.Common.{arith, subst, ⊎_elim, eqb-true}
use Rattle.rules.specs.Loops.{one_if}
use Rattle.rules.specs.LoopsLaws.{either, and_left, and_right}
use Rattle.rules.specs.Tables.{site_at}
use Rattle.rules.specs.Answers.{is_accepted}
use Rattle.rules.specs.Machine.{look_of, places_of, step_of}
use Rattle.rules.specs.Runs.{run_of, acts_at_site, entry_of, history_of}
use Rattle.runs.specs.Types.{Tables, Step}
use Rattle.runs.specs.Orphans.Orphans.{steps_at}
use Rattle.runs.proofs.Walk.Sound.{Sound, sound_step}
use Rattle.runs.proofs.Walk.Clocks.{clock_not_back, clock_adds}

-- the list after one more step at its front
pub history_accepted :
    (t : Tables) (s : Step) (ss : List Step) → is_accepted (step_of t s).answer ≡ true
    → history_of t (s ∷ ss) ≡ entry_of t s ∷ history_of (step_of t s).tables ss
unfolding history_of
history_accepted t s ss e = rw e

pub history_refused :
    (t : Tables) (s : Step) (ss : List Step) → is_accepted (step_of t s).answer ≡ false
    → history_of t (s ∷ ss) ≡ history_of (step_of t s).tables ss
unfolding history_of
history_refused t s ss e = rw e

-- one accepted step
counted_step :
    (t : Tables) (step : Step) (s : ℕ) → Sound t → is_accepted (step_of t step).answer ≡ true
    → (site_at t s).clock + one_if (acts_at_site step && eqb (places_of t (look_of step)).site s) ≤ (site_at (step_of t step).tables s).clock
counted_step t step s z e =
    ⊎_elim
    (λ q.
    let a : acts_at_site step ≡ true = and_left (acts_at_site step) _ q in
    let i : (places_of t (look_of step)).site ≡ s = eqb-true _ _ (and_right (acts_at_site step) _ q) in
    rw q (subst (λ (x : ℕ). (site_at t x).clock + 1 ≤ (site_at (step_of t step).tables x).clock) i (clock_adds t step z e a)))
    (λ q. rw q (let i : (site_at t s).clock ≤ (site_at (step_of t step).tables s).clock = clock_not_back t step z s in omega arith))
    (either (acts_at_site step && eqb (places_of t (look_of step)).site s))

-- as many accepted steps at a station as its clock is behind bring it there
pub steps_drive :
    (t : Tables) (ss : List Step) (s : ℕ) → Sound t
    → (site_at t s).clock + steps_at s (history_of t ss) ≤ (site_at (run_of t ss) s).clock
unfolding run_of steps_at history_of
steps_drive t [] s z = omega arith
steps_drive t (step ∷ ss) s z =
    let rest : (site_at (step_of t step).tables s).clock + steps_at s (history_of (step_of t step).tables ss) ≤ (site_at (run_of (step_of t step).tables ss) s).clock =
    steps_drive (step_of t step).tables ss s (sound_step t step z) in
    ⊎_elim
    (λ e.
    let one : (site_at t s).clock + one_if (acts_at_site step && eqb (places_of t (look_of step)).site s) ≤ (site_at (step_of t step).tables s).clock =
    counted_step t step s z e in
    rw e (omega arith))
    (λ e.
    let same : (site_at t s).clock ≤ (site_at (step_of t step).tables s).clock = clock_not_back t step z s in
    rw e (omega arith))
    (either (is_accepted (step_of t step).answer))
