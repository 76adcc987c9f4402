-- Every accepted step moves the clock of the site where it acts as document 01 says, and no other clock, of any sound tables. Assumes nothing.
use Rattle.std.specs.Prelude.{ℕ, ◌+◌, ◌≡◌, refl, true, false}
use Rattle.std.proofs.Common.{sym, ◌∙◌, true≢false}
use Rattle.std.proofs.Math.Path.{ap}
use Rattle.rules.specs.Tables.{site_at}
use Rattle.rules.specs.Answers.{is_accepted}
use Rattle.rules.specs.Stations.{tick_of}
use Rattle.rules.specs.Machine.{look_of, places_of, decide_of, found_of, head_of, turn_of, stored, step_of}
use Rattle.rules.proofs.RangesLaws.{placed_places}
use Rattle.rules.specs.StoredLaws.{site_after_stored, site_after_stored_other}
use Rattle.rules.specs.Runs.{acts_at_site}
use Rattle.rules.proofs.Views.{settled_accepted, Clock, deed_of}
use Rattle.runs.specs.Types.{Site, Tables, Step, Seen}
use Rattle.runs.specs.Walk.Seen.{places_at, seen_at}
use Rattle.runs.proofs.Walk.Sound.{Sound, sound_accepted_has}
use Rattle.runs.specs.Operations.Definitions.{ClocksMoved, moved_from}
use Rattle.runs.proofs.Operations.Single.{decision_at}
use Rattle.runs.proofs.Operations.LetGo.{site_after_turn}

-- what the step's own store leaves
own_clock :
    (t : Tables) (step : Step) → Clock step → is_accepted (decision_at t step).answer ≡ true → acts_at_site step ≡ true
    → (decision_at t step).left.site.clock ≡ moved_from t step (seen_at t step).site.clock
unfolding decide_of tick_of places_of
own_clock t _ (Clock.Ticks site n) e acts =
    settled_accepted (λ (x : Seen). x.site.clock ≡ (seen_at t (Step.Tick site n)).site.clock + n) _ _ (seen_at t (Step.Tick site n)) _ (λ f. refl) e
own_clock t _ (Clock.Delivers m moves) e acts = moves (found_of t (places_at t (Step.Deliver m))) (seen_at t (Step.Deliver m)) e
own_clock t step (Clock.Moves _ b untick undelivered moves) e acts = rw (untick, undelivered) (moves (found_of t (places_at t step)) (seen_at t step) e)
own_clock t step (Clock.Rests _ b stays) e acts = absurd (true≢false (sym acts ∙ b))

idle_clock : (t : Tables) (step : Step) → Clock step → acts_at_site step ≡ false → (decision_at t step).left.site.clock ≡ (seen_at t step).site.clock
idle_clock t _ (Clock.Ticks site n) idle = absurd (true≢false idle)
idle_clock t _ (Clock.Delivers m moves) idle = absurd (true≢false idle)
idle_clock t step (Clock.Moves _ b untick undelivered moves) idle = absurd (true≢false (sym b ∙ idle))
idle_clock t step (Clock.Rests _ b stays) idle = ap (λ (x : Site). x.clock) (stays (found_of t (places_at t step)) (seen_at t step))

module _ (t : Tables) (step : Step) (z : Sound t) (a : is_accepted (step_of t step).answer ≡ true) where
  head_clocks : is_accepted (head_of t step).answer ≡ true → ClocksMoved t (head_of t step).tables step
  unfolding head_of
  head_clocks e =
      let here : site_at (stored t (places_at t step) (decision_at t step).left) (places_at t step).site ≡ (decision_at t step).left.site =
      site_after_stored t (places_at t step) _ z.sized (placed_places t (look_of step)) in
      record {
        own = λ acts. ap (λ (x : Site). x.clock) here ∙ own_clock t step (deed_of step).clock e acts;
        idle = λ idle. ap (λ (x : Site). x.clock) here ∙ idle_clock t step (deed_of step).clock idle;
        others = λ s n. ap (λ (x : Site). x.clock) (site_after_stored_other t (places_at t step) _ s n);
      }

  -- every accepted step moves the clock of the site where it acts as document 01 says, and no other
  pub clocks_moved : ClocksMoved t (step_of t step).tables step
  clocks_moved =
      sound_accepted_has t step z (λ n u. ClocksMoved t u step)
      (λ n o l y k.
      let same : (s : ℕ) → (site_at (turn_of (look_of step).trip n o).tables s).clock ≡ (site_at o.tables s).clock =
      λ s. ap (λ (x : Site). x.clock) (site_after_turn (look_of step).trip n s o l y) in
      record { own = λ acts. same _ ∙ k.own acts; idle = λ idle. same _ ∙ k.idle idle; others = λ s d. same s ∙ k.others s d })
      head_clocks
      a
