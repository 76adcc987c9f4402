-- Steps of a station that are sure to be accepted: when a tick, a recover and a sweep are, and what they leave of the station's clock.
-- Assumes nothing.
use Rattle.std.specs.Prelude.{ℕ, ◌+◌, ◌%◌, ◌<◌, ◌≤◌, ◌≡◌, false}
use Rattle.std.proofs.Common.{arith, ap, ◌∙◌}
use Rattle.std.proofs.Math.Path.{refl, subst}
use Rattle.std.proofs.Math.Bool.{true}
use borrow.Author.Tests.{ne_eqb, le-ltb}
use Rattle.rules.specs.declared.looking.Trip.{Trip}
use Rattle.rules.specs.Limits.{clock_most, tick_most}
use Rattle.rules.specs.Tables.{site_at}
use Rattle.rules.specs.Ranges.{in_range}
use Rattle.rules.specs.Answers.{is_accepted, first_refusal, settle_of}
use Rattle.rules.specs.AnswersLaws.{settle_accepted}
use Rattle.rules.specs.Checks.{bad_site}
use Rattle.rules.specs.Stations.{tick_of, tick_done, sweep_of, recover_of, recover_done}
use Rattle.rules.specs.Machine.{look_of, places_of, decide_of, head_of, step_in_range_of, step_of}
use Rattle.rules.specs.StoredLaws.{site_after_stored}
use Rattle.rules.proofs.RangesLaws.{placed_places}
use Rattle.rules.proofs.RangesKept.{in_range_after_step}
use Rattle.rules.proofs.RefusedLaws.{turns_keep}
use Rattle.runs.specs.Types.{Tables, Step, Seen, Decision}
use Rattle.runs.specs.Walk.Seen.{places_at, seen_at}
use Rattle.runs.proofs.Walk.Steps.{turns_of}
use Rattle.runs.proofs.Walk.Sound.{Sound}
use Rattle.runs.proofs.Operations.Single.{decision_at, decision_accepted, single_stored}

-- ---- tables in range

-- a step whose own store is accepted is accepted
pub accepted_with_head :
    (t : Tables) (step : Step) → in_range t ≡ true → is_accepted (head_of t step).answer ≡ true
    → is_accepted (step_of t step).answer ≡ true
unfolding step_of step_in_range_of
accepted_with_head t step r e = rw r (turns_keep (look_of step).trip (head_of t step) (turns_of t step) ∙ e)

-- every step leaves the tables in range
pub in_range_step : (t : Tables) (step : Step) → in_range t ≡ true → in_range (step_of t step).tables ≡ true
unfolding step_of
in_range_step t step r = rw r (in_range_after_step t step r)

-- ---- one step at one station

module _ (site : ℕ) (place : site < 8) (t : Tables) (z : Sound t) (r : in_range t ≡ true) where
  -- the step looks at its station
  same_place : site % 8 ≡ site
  same_place = omega arith

  -- which is one of the eight
  good_site : bad_site site ≡ false
  good_site = le-ltb 7 site (omega arith)

  -- an accepted step that goes through no slots leaves its station as it decided
  station_left :
      (step : Step) (d : Decision) → (look_of step).trip ≡ Trip.Nowhere → (places_at t step).site ≡ site
      → decision_at t step ≡ settle_of d (seen_at t step) → is_accepted (step_of t step).answer ≡ true
      → site_at (step_of t step).tables site ≡ d.left.site
  station_left step d alone lies decided e =
      subst
      (λ (x : ℕ). site_at (step_of t step).tables x ≡ d.left.site)
      lies
      (ap (λ (u : Tables). site_at u (places_at t step).site) (single_stored t step alone e)
      ∙ site_after_stored t (places_at t step) _ z.sized (placed_places t (look_of step))
      ∙ ap (λ (x : Decision). x.left.site) decided
      ∙ ap (λ (x : Seen). x.site) (settle_accepted d (seen_at t step) (rw decided at (decision_accepted t step e))))

  -- a tick of 1 to 1,000,000 is accepted where the station is up and the clock has room
  pub tick_accepted :
      (n : ℕ) → 1 ≤ n → n ≤ tick_most → (site_at t site).up ≡ true → (site_at t site).clock + n ≤ clock_most
      → is_accepted (step_of t (Step.Tick site n)).answer ≡ true
  unfolding head_of decide_of tick_of places_of first_refusal
  tick_accepted n some most up room =
      accepted_with_head
      t
      (Step.Tick site n)
      r
      (rw (same_place, good_site, ne_eqb n 0 (λ e. omega arith), le-ltb tick_most n most, up, le-ltb clock_most ((site_at t site).clock + n) room))

  -- an accepted tick adds its n to the clock, and the station stays as it was
  pub tick_leaves :
      (n : ℕ) → is_accepted (step_of t (Step.Tick site n)).answer ≡ true
      → site_at (step_of t (Step.Tick site n)).tables site ≡ record { clock = (site_at t site).clock + n; up = (site_at t site).up }
  unfolding decide_of tick_of places_of
  tick_leaves n e =
      subst
      (λ (x : ℕ). site_at (step_of t (Step.Tick site n)).tables site ≡ record { clock = (site_at t x).clock + n; up = (site_at t x).up })
      same_place
      (station_left (Step.Tick site n) (tick_done site n (seen_at t (Step.Tick site n))) refl same_place refl e)

  -- a recover is accepted where the station is down and the clock has room
  pub recover_accepted :
      (site_at t site).up ≡ false → (site_at t site).clock + 1 ≤ clock_most
      → is_accepted (step_of t (Step.Recover site)).answer ≡ true
  unfolding head_of decide_of recover_of places_of first_refusal
  recover_accepted down room =
      accepted_with_head
      t
      (Step.Recover site)
      r
      (rw (same_place, good_site, down, le-ltb clock_most ((site_at t site).clock + 1) room))

  -- an accepted recover adds 1 to the clock, and the station is up
  pub recover_leaves :
      is_accepted (step_of t (Step.Recover site)).answer ≡ true
      → site_at (step_of t (Step.Recover site)).tables site ≡ record { clock = (site_at t site).clock + 1; up = true }
  unfolding decide_of recover_of places_of
  recover_leaves e =
      subst
      (λ (x : ℕ). site_at (step_of t (Step.Recover site)).tables site ≡ record { clock = (site_at t x).clock + 1; up = true })
      same_place
      (station_left (Step.Recover site) (recover_done site (seen_at t (Step.Recover site))) refl same_place refl e)

  -- a sweep is accepted where the station is up and the clock has room
  pub sweep_accepted :
      (site_at t site).up ≡ true → (site_at t site).clock + 1 ≤ clock_most
      → is_accepted (step_of t (Step.Sweep site)).answer ≡ true
  unfolding head_of decide_of sweep_of places_of first_refusal
  sweep_accepted up room =
      accepted_with_head
      t
      (Step.Sweep site)
      r
      (rw (same_place, good_site, up, le-ltb clock_most ((site_at t site).clock + 1) room))
