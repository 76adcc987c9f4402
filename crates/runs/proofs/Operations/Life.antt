-- What an accepted begin and an accepted abort do, of any sound tables: a begin finds its slot free and makes an active passage with the times that it names;
-- an abort ends it. Assumes nothing.
use Rattle.std.specs.Prelude.{ℕ, ◌%◌, ◌≤◌, ◌≡◌, true, ◌||◌, ltb}
use Rattle.std.proofs.Common.{arith, ◌∙◌, ltb-false}
use Rattle.std.proofs.Math.Path.{refl, ap}
use Rattle.rules.specs.Limits.{slot_most}
use Rattle.rules.specs.LoopsLaws.{or_left, or_right, not_false}
use Rattle.rules.specs.Tables.{passage_at, visit_at, slot_of}
use Rattle.rules.specs.Answers.{is_accepted}
use Rattle.rules.specs.AnswersLaws.{Fine, accepted_fine, settle_accepted}
use Rattle.rules.specs.Parts.{next_clock}
use Rattle.rules.specs.Checks.{bad_site}
use Rattle.rules.specs.Passages.{begin_checks, begun, begin_done, begin_of, abort_of}
use Rattle.rules.specs.Machine.{look_of, places_of, decide_of, stored, step_of}
use Rattle.rules.proofs.RangesLaws.{placed_places}
use Rattle.rules.specs.StoredLaws.{passage_after_stored, visit_after_stored}
use Rattle.rules.proofs.Views.{settled_accepted}
use Rattle.runs.specs.Types.{Phase, Status, Passage, Visit, Tables, Step, Seen}
use Rattle.runs.specs.Walk.Seen.{places_at, seen_at}
use Rattle.runs.proofs.Walk.Sound.{Sound}
use Rattle.runs.proofs.Fits.Life.{free_says}
use Rattle.runs.proofs.Operations.Single.{decision_accepted, single_stored}
use Rattle.runs.specs.Operations.Definitions.{BeginsSo}

-- ---- begin

module _ (t : Tables) (home slot q r : ℕ) (z : Sound t) (a : is_accepted (step_of t (Step.Begin home slot q r)).answer ≡ true) where
  abbrev Saw : Seen
  Saw = seen_at t (Step.Begin home slot q r)

  checked : is_accepted (begin_done home slot q r Saw).answer ≡ true
  unfolding decide_of begin_of
  checked = decision_accepted t (Step.Begin home slot q r) a

  fine : Fine (begin_checks home slot q r Saw)
  fine = accepted_fine (begin_checks home slot q r Saw) _ checked

  abbrev Done : Step
  Done = Step.Begin home slot q r

  left_there : (step_of t Done).tables ≡ stored t (places_at t Done) (begun home q r (next_clock Saw.site) Saw)
  unfolding decide_of begin_of
  left_there = single_stored t Done refl a ∙ ap (stored t (places_at t Done)) (settle_accepted (begin_done home slot q r Saw) Saw checked)

  home_in : home ≤ 7
  home_in = ltb-false 7 home (or_left _ _ (or_left (bad_site home || ltb slot_most slot) _ fine.fields))

  slot_in : slot ≤ 15
  slot_in = ltb-false 15 slot (or_right (bad_site home) _ (or_left (bad_site home || ltb slot_most slot) _ fine.fields))

  home_here : home % 8 ≡ home
  home_here = let l : home ≤ 7 = home_in in omega arith

  slot_here : slot % 16 ≡ slot
  slot_here = let l : slot ≤ 15 = slot_in in omega arith

  passage_left : passage_at (step_of t Done).tables (slot % 16) ≡ (begun home q r (next_clock Saw.site) Saw).passage
  unfolding places_of
  passage_left =
      ap (λ (x : Tables). passage_at x (slot % 16)) left_there
      ∙ passage_after_stored t (places_at t Done) _ z.sized (placed_places t (look_of Done))

  visit_left : visit_at (step_of t Done).tables (home % 8) (slot % 16) ≡ (begun home q r (next_clock Saw.site) Saw).visit
  unfolding places_of
  visit_left =
      ap (λ (x : Tables). visit_at x (home % 8) (slot % 16)) left_there
      ∙ visit_after_stored t (places_at t Done) _ z.sized (placed_places t (look_of Done))

  -- an accepted begin finds its slot free, and makes an active passage there with the home that it names,
  -- and its home visit with the times that it names, unprepared and alive
  pub begin_begins : BeginsSo t (step_of t (Step.Begin home slot q r)).tables home slot q r
  unfolding places_of
  begin_begins =
      let h : home ≤ 7 = home_in in
      let s : slot ≤ 15 = slot_in in
      record {
        home_below = omega arith;
        slot_below = omega arith;
        was_free = rw slot_here at (free_says (passage_at t (slot % 16)).status (not_false _ fine.state));
        active = rw slot_here at (ap (λ (p : Passage). p.status) passage_left);
        lives = rw slot_here at (ap (λ (p : Passage). p.home) passage_left);
        there = rw (slot_here, home_here) at (ap (λ (v : Visit). v.there) visit_left);
        quiesce = rw (slot_here, home_here) at (ap (λ (v : Visit). v.quiesce) visit_left);
        release = rw (slot_here, home_here) at (ap (λ (v : Visit). v.release) visit_left);
        unprepared = rw (slot_here, home_here) at (ap (λ (v : Visit). v.prepared) visit_left);
        alive = rw (slot_here, home_here) at (ap (λ (v : Visit). v.dead) visit_left);
      }

-- ---- abort

-- after an accepted abort its passage is aborted, and in no phase
pub abort_aborts :
    (t : Tables) (h : ℕ) → Sound t → is_accepted (step_of t (Step.Abort h)).answer ≡ true
    → ((passage_at (step_of t (Step.Abort h)).tables (slot_of h)).status ≡ Status.Aborted)
    × ((passage_at (step_of t (Step.Abort h)).tables (slot_of h)).round.phase ≡ Phase.None)
unfolding decide_of abort_of places_of
abort_aborts t h z a =
    let is = ap (λ (u : Tables). passage_at u (slot_of h)) (single_stored t (Step.Abort h) refl a)
    ∙ passage_after_stored t (places_at t (Step.Abort h)) _ z.sized (placed_places t (look_of (Step.Abort h))) in
    rw is
    (settled_accepted
    (λ (x : Seen). (x.passage.status ≡ Status.Aborted) × (x.passage.round.phase ≡ Phase.None))
    _
    _
    (seen_at t (Step.Abort h))
    _
    (λ f. (refl, refl))
    (decision_accepted t (Step.Abort h) a))
