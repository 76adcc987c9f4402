-- An object whose holder has no visit at its station stays held, whatever the step. (In a run there is none; but tables may be handed in.)
-- The idea: it is let go only with its visit, so only where that was there. Assumes nothing.
use Rattle.std.specs.Prelude.{ℕ, ◌<◌, ◌≡◌, true, false}
use Rattle.std.proofs.Math.Path.{refl, ap, subst₂}
use Rattle.std.proofs.Common.{sym, ◌∙◌, ⊎_elim, true≢false}
use Rattle.rules.specs.declared.looking.Trip.{Trip}
use Rattle.rules.specs.LoopsLaws.{either}
use Rattle.rules.specs.Tables.{visit_at, object_site}
use Rattle.rules.specs.Stations.{sweep_of, crash_of}
use Rattle.rules.specs.Machine.{look_of, decide_of, head_of, turn_of, step_of}
use Rattle.rules.proofs.RangesLaws.{placed_places}
use Rattle.rules.proofs.RefusedLaws.{refused_leaves}
use Rattle.rules.specs.Events.{is_holding}
use Rattle.rules.specs.Answers.{is_accepted}
use Rattle.rules.proofs.Views.{settled, Goes, deed_of}
use Rattle.runs.specs.Types.{Visit, Tables, Step, Seen, Outcome, Found}
use Rattle.runs.specs.Walk.Seen.{places_at, seen_at}
use Rattle.runs.proofs.Walk.Sound.{Sound, sound_accepted_has}
use Rattle.runs.proofs.Promises.Promised.{stored_has}
use Rattle.runs.proofs.Promises.HeldFast.{HeldOrLeft, left_after_turn, gone_after_turn, left_after_head}
use Rattle.runs.proofs.Operations.Single.{single_head}

-- ---- steps, for one object and the slot that holds it

module _ (k p : ℕ) (slot : p < 16) where
  -- p holds the object and has no visit at its station
  abbrev HeldAway : Tables → Type 0
  HeldAway t = (is_holding t p k ≡ true) × ((visit_at t (object_site k) p).there ≡ false)

  -- it is let go only where its visit was there
  held_where_away : (t u : Tables) → HeldOrLeft k p slot t u → (visit_at t (object_site k) p).there ≡ false → is_holding u p k ≡ true
  held_where_away t u kept away = ⊎_elim (λ e. e) (λ x. absurd (true≢false (sym x.0 ∙ away))) kept

  held_after_head : (t : Tables) (step : Step) → Sound t → HeldAway t → is_holding (head_of t step).tables p k ≡ true
  held_after_head t step z (held, away) = held_where_away t (head_of t step).tables (left_after_head k p slot t step z held) away

  away_after_turn :
      (trip : Trip) (n : ℕ) (o : Outcome) → n < 16 → Sound o.tables → HeldAway o.tables → HeldAway (turn_of trip n o).tables
  away_after_turn trip n o l z (held, away) = (
    held_where_away o.tables (turn_of trip n o).tables (left_after_turn k p slot trip n o l z held) away,
    gone_after_turn k p slot trip n o l z away,
  )

  -- the own store of a sweep or a crash makes no visit
  away_after_trip_head :
      (t : Tables) (step : Step) → Sound t → ((found : Found) (seen : Seen) → (decide_of step found seen).left.visit ≡ seen.visit)
      → (visit_at t (object_site k) p).there ≡ false
      → (visit_at (head_of t step).tables (object_site k) p).there ≡ false
  unfolding head_of
  away_after_trip_head t step z stays away =
      stored_has
      (λ v. v.there ≡ false)
      t
      (places_at t step)
      _
      z.sized
      (placed_places t (look_of step))
      (object_site k)
      p
      slot
      (λ a b. ap (λ (v : Visit). v.there) (stays _ (seen_at t step)) ∙ subst₂ (λ (x y : ℕ). (visit_at t x y).there ≡ false) a b away)
      away

  sweep_leaves_visit : (site : ℕ) (found : Found) (seen : Seen) → (decide_of (Step.Sweep site) found seen).left.visit ≡ seen.visit
  unfolding decide_of sweep_of
  sweep_leaves_visit site found seen = settled (λ (x : Seen). x.visit ≡ seen.visit) _ _ seen _ (λ f. refl) refl

  crash_leaves_visit : (site : ℕ) (found : Found) (seen : Seen) → (decide_of (Step.Crash site) found seen).left.visit ≡ seen.visit
  unfolding decide_of crash_of
  crash_leaves_visit site found seen = settled (λ (x : Seen). x.visit ≡ seen.visit) _ _ seen _ (λ f. refl) refl

  held_after_trip :
      (t : Tables) (step : Step) → Sound t → ((found : Found) (seen : Seen) → (decide_of step found seen).left.visit ≡ seen.visit) → HeldAway t
      → is_accepted (step_of t step).answer ≡ true
      → is_holding (step_of t step).tables p k ≡ true
  held_after_trip t step z stays h a =
      (sound_accepted_has
      t
      step
      z
      (λ n u. HeldAway u)
      (away_after_turn (look_of step).trip)
      (λ e. (held_after_head t step z h, away_after_trip_head t step z stays h.1))
      a
      ).0

  held_after_going :
      (t : Tables) (step : Step) → Sound t → Goes step → HeldAway t → is_accepted (step_of t step).answer ≡ true
      → is_holding (step_of t step).tables p k ≡ true
  held_after_going t _ z (Goes.Sweeps site) h a = held_after_trip t (Step.Sweep site) z (sweep_leaves_visit site) h a
  held_after_going t _ z (Goes.Crashes site) h a = held_after_trip t (Step.Crash site) z (crash_leaves_visit site) h a
  held_after_going t _ z (Goes.Nowhere step n) h a = rw (single_head t step n a) (held_after_head t step z h)

  -- an object whose holder has no visit at its station is held by it after every step
  pub held_away_after_step :
      (t : Tables) (step : Step) → Sound t → is_holding t p k ≡ true → (visit_at t (object_site k) p).there ≡ false
      → is_holding (step_of t step).tables p k ≡ true
  held_away_after_step t step z held away =
      ⊎_elim
      (held_after_going t step z (deed_of step).goes (held, away))
      (λ e. rw (refused_leaves t step e) held)
      (either (is_accepted (step_of t step).answer))
