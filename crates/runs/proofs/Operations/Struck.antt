-- What a crash strikes, what a sweep takes, and what a terminate unmarks, of any sound tables.
-- The idea: a crash and a sweep come to each slot once, and until then its passage and its visit there are as they were. Assumes nothing.
use Rattle.std.specs.Prelude.{ℕ, ◌%◌, ◌<◌, ◌≤◌, ◌≡◌, Bool, cond, ◌||◌}
use Rattle.std.proofs.Common.{arith, sym, ◌∙◌, subst, ⊎_elim, inl, inr, ltb-false, leb-false, eq-eqb}
use Rattle.std.proofs.Math.Path.{refl, ap}
use Rattle.std.proofs.Math.Bool.{true, false, not}
use Rattle.std.proofs.lemmas.Bool.{false≢true}
use Rattle.rules.specs.LoopsLaws.{either}
use Rattle.rules.specs.Tables.{site_at, passage_at, visit_at, message_at, slot_of}
use Rattle.rules.specs.Answers.{is_accepted}
use Rattle.rules.specs.AnswersLaws.{accepted_fine, settle_accepted}
use Rattle.rules.specs.Parts.{quieted, where_there}
use Rattle.rules.specs.Stations.{sweep_checks, sweep_done, sweep_of, is_sweepable, is_swept, swept_slot, crash_checks, crash_done, crash_of, loses_home, crashed_slot}
use Rattle.rules.specs.Rounds.{open_of, terminate_of}
use Rattle.rules.specs.Machine.{look_of, places_of, decide_of, head_of, step_of}
use Rattle.rules.proofs.RangesLaws.{placed_places}
use Rattle.rules.specs.StoredLaws.{site_after_stored, visit_after_stored}
use Rattle.rules.proofs.Views.{settled_accepted}
use Rattle.runs.specs.Types.{Site, Phase, Status, Passage, Visit, Asked, Body, Tables, Step, Seen}
use Rattle.runs.proofs.Walk.Plain.{when_true}
use Rattle.runs.specs.Walk.Seen.{places_at, seen_at}
use Rattle.runs.proofs.Walk.Steps.{turns_of, head_accepted}
use Rattle.runs.proofs.Walk.Sound.{Sound}
use Rattle.runs.proofs.Operations.Single.{accepted_seen, decision_accepted, single_stored}
use Rattle.runs.proofs.Operations.Stamped.{asked_visit_lem}
use Rattle.runs.proofs.Operations.Turned.{Stays, settled_stays, station_after, slot_after}
use Rattle.runs.specs.Operations.Definitions.{Dead, IsRunning, Strikes, Struck}

-- ---- crashes

-- a visit that is there and is struck
quieted_dead : (v : Visit) (clock : ℕ) (hit : Bool) → v.there ≡ true → hit ≡ true → Dead clock (where_there v (cond hit (quieted v clock false true) v))
quieted_dead v clock hit e h =
    when_true
    (Dead clock)
    v.there
    _
    v
    e
    (when_true (Dead clock) hit (quieted v clock false true) v h (record { there = e; dead = refl; prepared = refl; quiesced = omega arith }))

-- a passage that loses its home
loses_home_lem : (s : ℕ) (p : Passage) → IsRunning p.status → p.home ≡ s → loses_home s p ≡ true
loses_home_lem s p (inl r) e = rw (r, eq-eqb p.home s e)
loses_home_lem s p (inr r) e = rw (r, eq-eqb p.home s e)

module _ (t : Tables) (s : ℕ) (z : Sound t) (a : is_accepted (step_of t (Step.Crash s)).answer ≡ true) where
  crash_stays : Stays (Step.Crash s)
  unfolding decide_of crash_of
  crash_stays found seen = settled_stays _ _ seen _ refl refl

  crash_decided : is_accepted (crash_done s (seen_at t (Step.Crash s))).answer ≡ true
  unfolding head_of decide_of crash_of
  crash_decided = head_accepted t (Step.Crash s) a

  crash_below : s < 8
  crash_below =
      let l : s ≤ 7 = ltb-false 7 s (accepted_fine (crash_checks s (seen_at t (Step.Crash s))) 0 crash_decided).fields in omega arith

  crash_here : s % 8 ≡ s
  crash_here = let l : s < 8 = crash_below in omega arith

  crash_many : turns_of t (Step.Crash s) ≡ 16
  crash_many = rw (head_accepted t (Step.Crash s) a)

  crash_station : (site_at (step_of t (Step.Crash s)).tables (s % 8)).up ≡ false
  unfolding head_of decide_of crash_of places_of
  crash_station =
      ap (λ (x : Site). x.up)
      (station_after t (Step.Crash s) z crash_stays a crash_many
      ∙ site_after_stored t (places_at t (Step.Crash s)) _ z.sized (placed_places t (look_of (Step.Crash s)))
      ∙ ap (λ (x : Seen). x.site) (settle_accepted (crash_done s (seen_at t (Step.Crash s))) (seen_at t (Step.Crash s)) crash_decided))

  -- a visit that is there and that the slot's own turn hits
  struck_visit :
      (p : ℕ) → p < 16 → (visit_at t (s % 8) p).there ≡ true
      → ((seen : Seen) → seen.passage ≡ passage_at t p → seen.visit ≡ visit_at t (s % 8) p
      → (loses_home s seen.passage || not seen.visit.prepared) ≡ true)
      → Dead (site_at (step_of t (Step.Crash s)).tables (s % 8)).clock (visit_at (step_of t (Step.Crash s)).tables (s % 8) p)
  unfolding crashed_slot
  struck_visit p slot e hit =
      slot_after t (Step.Crash s) z crash_stays a crash_many p slot
      (λ x v. Dead (site_at (step_of t (Step.Crash s)).tables (s % 8)).clock v)
      (λ seen c x v.
      rw
      (sym c)
      (quieted_dead seen.visit seen.site.clock (loses_home s seen.passage || not seen.visit.prepared) (rw v e) (hit seen x v)))

  crash_slot : (p : ℕ) → p < 16 → Struck t (step_of t (Step.Crash s)).tables (s % 8) p
  unfolding crashed_slot
  crash_slot p slot =
      record {
        unprepared = λ e f. struck_visit p slot e (λ seen x v. or_true (loses_home s seen.passage) (not seen.visit.prepared) (rw (v, f)));
        aborted = λ r h.
            slot_after t (Step.Crash s) z crash_stays a crash_many p slot
            (λ x v. x.status ≡ Status.Aborted)
            (λ seen c x v. rw (loses_home_lem s seen.passage (rw x r) (rw x h ∙ crash_here)));
        phaseless = λ r h.
            slot_after t (Step.Crash s) z crash_stays a crash_many p slot
            (λ x v. x.round.phase ≡ Phase.None)
            (λ seen c x v. rw (loses_home_lem s seen.passage (rw x r) (rw x h ∙ crash_here)));
        homeless = λ r h e. struck_visit p slot e (λ seen x v. rw (loses_home_lem s seen.passage (rw x r) (rw x h ∙ crash_here)));
      }
    where
      or_true : (b c : Bool) → c ≡ true → (b || c) ≡ true
      or_true true c e = refl
      or_true false c e = e

  -- an accepted crash takes its station down; every unprepared visit there is dead after it, with a quiesce time that has come,
  -- and every active or committing passage whose home it is is aborted after it, in no phase, and its visit there dead likewise, prepared or not
  pub crash_strikes : Strikes t (step_of t (Step.Crash s)).tables s
  crash_strikes =
      record {
        station_below = crash_below;
        down = rw crash_here at crash_station;
        slots = λ p slot. rw crash_here at (crash_slot p slot);
      }

-- ---- sweeps

-- a visit that a turn of a sweep leaves there, though a sweep may take it, has its release time after the clock
left_unreleased :
    (s p : ℕ) (seen : Seen) → (swept_slot s p seen).visit.there ≡ true → is_sweepable (swept_slot s p seen).visit ≡ true
    → seen.site.clock < (swept_slot s p seen).visit.release
unfolding swept_slot
left_unreleased s p seen =
    ⊎_elim
    (λ e. rw e (λ there f. absurd (false≢true there)))
    (λ e. rw e (λ there f. leb-false seen.visit.release seen.site.clock (rw (there, f) at e)))
    (either (is_swept seen))

module _ (t : Tables) (s : ℕ) (z : Sound t) (a : is_accepted (step_of t (Step.Sweep s)).answer ≡ true) where
  sweep_stays : Stays (Step.Sweep s)
  unfolding decide_of sweep_of
  sweep_stays found seen = settled_stays _ _ seen _ refl refl

  sweep_decided : is_accepted (sweep_done s (seen_at t (Step.Sweep s))).answer ≡ true
  unfolding head_of decide_of sweep_of
  sweep_decided = head_accepted t (Step.Sweep s) a

  -- an accepted sweep is of one of the eight stations
  pub sweep_below : s < 8
  sweep_below =
      let l : s ≤ 7 = ltb-false 7 s (accepted_fine (sweep_checks s (seen_at t (Step.Sweep s))) 0 sweep_decided).fields in omega arith

  sweep_here : s % 8 ≡ s
  sweep_here = let l : s < 8 = sweep_below in omega arith

  sweep_slot :
      (p : ℕ) → p < 16 → (visit_at (step_of t (Step.Sweep s)).tables (s % 8) p).there ≡ true
      → is_sweepable (visit_at (step_of t (Step.Sweep s)).tables (s % 8) p) ≡ true
      → (site_at (step_of t (Step.Sweep s)).tables (s % 8)).clock < (visit_at (step_of t (Step.Sweep s)).tables (s % 8) p).release
  sweep_slot p slot =
      slot_after t (Step.Sweep s) z sweep_stays a (rw (head_accepted t (Step.Sweep s) a)) p slot
      (λ x v. v.there ≡ true → is_sweepable v ≡ true → (site_at (step_of t (Step.Sweep s)).tables (s % 8)).clock < v.release)
      (λ seen c x v. rw (sym c) (left_unreleased s p seen))

  -- after an accepted sweep every visit at its station that a sweep may take has its release time after the clock: no other is left there
  pub sweep_takes :
      (p : ℕ) → p < 16 → (visit_at (step_of t (Step.Sweep s)).tables s p).there ≡ true
      → is_sweepable (visit_at (step_of t (Step.Sweep s)).tables s p) ≡ true
      → (site_at (step_of t (Step.Sweep s)).tables s).clock < (visit_at (step_of t (Step.Sweep s)).tables s p).release
  sweep_takes p slot = rw sweep_here at (sweep_slot p slot)

-- ---- terminates

-- after an accepted delivery of a phase 1 terminate the visit of its slot at its destination is unprepared
pub terminate_unmarks_there :
    (t : Tables) (m n : ℕ) → Sound t → is_accepted (step_of t (Step.Deliver m)).answer ≡ true
    → (message_at t m).body ≡ Body.PhaseOne n Asked.Terminate
    → (visit_at (step_of t (Step.Deliver m)).tables (message_at t m).destination (slot_of (message_at t m).handle)).prepared ≡ false
terminate_unmarks_there t m n z a b = ap (λ (v : Visit). v.prepared) (asked_visit_lem t m n Asked.Terminate z a b)

-- after an accepted terminate the home visit is unprepared
pub terminate_unmarks :
    (t : Tables) (h : ℕ) → Sound t → is_accepted (step_of t (Step.Terminate h)).answer ≡ true
    → (visit_at (step_of t (Step.Terminate h)).tables (passage_at t (slot_of h)).home (slot_of h)).prepared ≡ false
unfolding decide_of terminate_of open_of places_of
terminate_unmarks t h z a =
    let l : (passage_at t (slot_of h)).home ≤ 7 = (accepted_seen t (Step.Terminate h) a).passage.home in
    let here : (passage_at t (slot_of h)).home % 8 ≡ (passage_at t (slot_of h)).home = omega arith in
    subst
    (λ (x : ℕ). (visit_at (step_of t (Step.Terminate h)).tables x (slot_of h)).prepared ≡ false)
    here
    (ap
    (λ (u : Tables). (visit_at u ((passage_at t (slot_of h)).home % 8) (slot_of h)).prepared)
    (single_stored t (Step.Terminate h) refl a)
    ∙ ap
    (λ (v : Visit). v.prepared)
    (visit_after_stored t (places_at t (Step.Terminate h)) _ z.sized (placed_places t (look_of (Step.Terminate h))))
    ∙ settled_accepted
    (λ (x : Seen). x.visit.prepared ≡ false)
    _
    _
    (seen_at t (Step.Terminate h))
    _
    (λ f. refl)
    (decision_accepted t (Step.Terminate h) a))
