-- By what a visit goes and an object is let go, of any sound tables: by home's word of a commit, or by a sweep once the release time has come.
-- The idea: of all steps only a sweep that is due and a commit's word take a visit; a sweep's clock moves first, and each turn looks at its own slot.
-- Assumes nothing.
use Rattle.std.specs.Prelude.{ℕ, ◌%◌, ◌≤◌, ◌<◌, ◌≡◌, ◌⊎◌, true, false, ◌&&◌}
use native.Mathlib.Omega.{arith}
use Rattle.std.proofs.Math.Path.{refl, sym, ap}
use Rattle.std.proofs.Common.{◌∙◌, subst, subst₂, true≢false}
use Rattle.std.proofs.Math.Logic.{⊎_elim, inl, inr}
use borrow.Author.Tests.{leb-true, ltb-false}
use Rattle.rules.specs.declared.looking.Trip.{Trip}
use Rattle.rules.specs.LoopsLaws.{either, and_left, and_right}
use Rattle.rules.specs.Tables.{site_at, visit_at, object_site}
use Rattle.rules.specs.Answers.{is_accepted}
use Rattle.rules.specs.AnswersLaws.{accepted_fine}
use Rattle.rules.specs.Stations.{sweep_checks, sweep_of, is_sweepable, is_swept, swept_slot}
use Rattle.rules.specs.Machine.{look_of, seen_of, decide_of, stored, head_of, turn_of, step_of, trip_places, turn_seen}
use Rattle.rules.specs.StoredLaws.{site_after_stored, site_after_stored_other, turn_stored_lem}
use Rattle.rules.proofs.RangesLaws.{placed_places, placed_trip}
use Rattle.rules.proofs.RefusedLaws.{refused_leaves}
use Rattle.rules.specs.Events.{is_holding}
use Rattle.rules.proofs.Views.{settled, Goes, deed_of}
use Rattle.runs.specs.Types.{Site, Visit, Tables, Step, Places, Seen, Outcome}
use Rattle.runs.specs.Walk.Put.{same_or_other}
use Rattle.runs.specs.Walk.Seen.{places_at, seen_at}
use Rattle.runs.proofs.Walk.Clocks.{turned_site}
use Rattle.runs.proofs.Walk.Sound.{Sound, sound_accepted_has}
use Rattle.runs.specs.Promises.Definitions.{is_word}
use Rattle.runs.proofs.Promises.Promised.{there_after_marked, there_after_crashed, stored_has}
use Rattle.runs.proofs.Promises.HeldFast.{let_go_with_visit}
use Rattle.runs.specs.Operations.Definitions.{SweptAt}
use Rattle.runs.proofs.Operations.HeldAway.{held_away_after_step}
use Rattle.runs.proofs.Operations.Single.{decision_accepted, single_head}

-- a turn stores its site back
pub site_after_turn : (trip : Trip) (n s : ℕ) (o : Outcome) → n < 16 → Sound o.tables → site_at (turn_of trip n o).tables s ≡ site_at o.tables s
site_after_turn trip n s o l z =
    let at : Places = trip_places trip n in
    ap (λ (u : Tables). site_at u s) (turn_stored_lem trip n o)
    ∙ ⊎_elim
    (λ (e : s ≡ at.site).
    rw (e, site_after_stored o.tables at (turn_seen trip n (seen_of o.tables at)) z.sized (placed_trip trip n l))
    (turned_site trip n (seen_of o.tables at)))
    (λ n. site_after_stored_other o.tables at _ s n)
    (same_or_other s at.site)

-- ---- steps, for the visit of one slot at one site

module _ (s p : ℕ) (slot : p < 16) where
  there_after_head :
      (t : Tables) (step : Step) → Sound t → (visit_at t s p).there ≡ true → is_word t s p step ≡ false
      → (visit_at (head_of t step).tables s p).there ≡ true
  unfolding head_of
  there_after_head t step z e f =
      stored_has
      (λ v. v.there ≡ true)
      t
      (places_at t step)
      _
      z.sized
      (placed_places t (look_of step))
      s
      p
      slot
      (λ a b.
      there_after_marked
      t
      step
      _
      (deed_of step).marks
      (subst₂ (λ (x y : ℕ). (visit_at t x y).there ≡ true) a b e)
      (subst₂ (λ (x y : ℕ). is_word t x y step ≡ false) a b f))
      e

  there_after_crash_turn :
      (site n : ℕ) (o : Outcome) → n < 16 → Sound o.tables → (visit_at o.tables s p).there ≡ true
      → (visit_at (turn_of (Trip.Crash site) n o).tables s p).there ≡ true
  there_after_crash_turn site n o l z e =
      rw
      (turn_stored_lem (Trip.Crash site) n o)
      (stored_has
      (λ v. v.there ≡ true)
      o.tables
      (trip_places (Trip.Crash site) n)
      _
      z.sized
      (placed_trip (Trip.Crash site) n l)
      s
      p
      slot
      (λ a b.
      there_after_crashed site n (seen_of o.tables (trip_places (Trip.Crash site) n)) (subst₂ (λ (x y : ℕ). (visit_at o.tables x y).there ≡ true) a b e))
      e)

  -- ---- a sweep, for this visit as it was before

  module _ (t : Tables) (site : ℕ) (z : Sound t) where
    -- it is due: it may be swept, and its release time has come by the clock of these tables
    record Due (u : Tables) : Type 0 where
      here : s ≡ site % 8
      sweepable : is_sweepable (visit_at t s p) ≡ true
      released : (visit_at t s p).release ≤ (site_at u s).clock

    -- it stands as it was, or is due
    abbrev SameOrDue : Tables → Type 0
    SameOrDue u = (visit_at u s p ≡ visit_at t s p) ⊎ Due u

    -- the sweep's own store moves the clock alone
    same_after_head : visit_at (head_of t (Step.Sweep site)).tables s p ≡ visit_at t s p
    unfolding head_of decide_of sweep_of
    same_after_head =
        stored_has
        (λ v. v ≡ visit_at t s p)
        t
        (places_at t (Step.Sweep site))
        _
        z.sized
        (placed_places t (look_of (Step.Sweep site)))
        s
        p
        slot
        (λ a b.
        settled
        (λ (x : Seen). x.visit ≡ visit_at t s p)
        _
        _
        (seen_at t (Step.Sweep site))
        _
        (λ g. sym (subst₂ (λ (x y : ℕ). visit_at t s p ≡ visit_at t x y) a b refl))
        (sym (subst₂ (λ (x y : ℕ). visit_at t s p ≡ visit_at t x y) a b refl)))
        refl

    -- a turn leaves it, or takes it where it is due
    due_after_turn :
        (n : ℕ) (o : Outcome) → n < 16 → Sound o.tables → SameOrDue o.tables → SameOrDue (turn_of (Trip.Sweep site) n o).tables
    unfolding swept_slot
    due_after_turn n o l y (inr d) =
        inr (record { here = d.here; sweepable = d.sweepable; released = rw (site_after_turn (Trip.Sweep site) n s o l y) d.released })
    due_after_turn n o l y (inl e) =
        rw
        (turn_stored_lem (Trip.Sweep site) n o)
        (stored_has
        (λ v. (v ≡ visit_at t s p) ⊎ Due (stored o.tables at (swept_slot site n seen)))
        o.tables
        at
        _
        y.sized
        (placed_trip (Trip.Sweep site) n l)
        s
        p
        slot
        taken
        (inl e))
      where
        at : Places
        at = trip_places (Trip.Sweep site) n

        seen : Seen
        seen = seen_of o.tables at

        taken :
            s ≡ at.site → p ≡ at.slot
            → ((swept_slot site n seen).visit ≡ visit_at t s p) ⊎ Due (stored o.tables at (swept_slot site n seen))
        taken a b =
            let site_left : site_at (stored o.tables at (swept_slot site n seen)) s ≡ seen.site =
            ap (λ (u : Tables). site_at u s) (sym (turn_stored_lem (Trip.Sweep site) n o))
            ∙ site_after_turn (Trip.Sweep site) n s o l y
            ∙ ap (site_at o.tables) a in
            let same : seen.visit ≡ visit_at t s p = subst₂ (λ (x y : ℕ). visit_at o.tables x y ≡ visit_at t s p) a b e in
            ⊎_elim
            (λ q.
            let may : is_sweepable seen.visit ≡ true = and_right seen.visit.there (is_sweepable seen.visit) (and_left _ _ q) in
            let due : seen.visit.release ≤ seen.site.clock =
            leb-true seen.visit.release seen.site.clock (and_right (seen.visit.there && is_sweepable seen.visit) _ q) in
            inr
            (record {
              here = a;
              sweepable = subst (λ (v : Visit). is_sweepable v ≡ true) same may;
              released =
                  subst
                  (λ (v : Visit). v.release ≤ (site_at (stored o.tables at (swept_slot site n seen)) s).clock)
                  same
                  (subst
                  (λ (x : Site). seen.visit.release ≤ x.clock)
                  (sym site_left)
                  due);
            }))
            (λ q. inl (rw q same))
            (either (is_swept seen))

    -- so where it is gone after the sweep it was due
    gone_by_sweep :
        (visit_at t s p).there ≡ true → is_accepted (step_of t (Step.Sweep site)).answer ≡ true
        → (visit_at (step_of t (Step.Sweep site)).tables s p).there ≡ false
        → SweptAt t (Step.Sweep site) s p
    unfolding head_of decide_of sweep_of
    gone_by_sweep there a gone =
        ⊎_elim
        (λ (e : visit_at (step_of t (Step.Sweep site)).tables s p ≡ visit_at t s p).
        absurd (true≢false (sym there ∙ ap (λ (v : Visit). v.there) (sym e) ∙ gone)))
        (λ (d : Due (step_of t (Step.Sweep site)).tables).
        let l : site ≤ 7 =
        ltb-false 7 site (accepted_fine (sweep_checks site (seen_at t (Step.Sweep site))) 0 (decision_accepted t (Step.Sweep site) a)).fields in
        let h : s ≡ site % 8 = d.here in
        let same : site ≡ s = omega arith in
        record {
          accepted = a;
          sweeps = ap Step.Sweep same;
          there = there;
          sweepable = d.sweepable;
          released = d.released;
          gone = gone;
        })
        (sound_accepted_has t (Step.Sweep site) z (λ n u. SameOrDue u) due_after_turn (λ e. inl same_after_head) a)

  -- ---- any step

  gone_by_step :
      (t : Tables) (step : Step) → Sound t → Goes step → (visit_at t s p).there ≡ true → is_accepted (step_of t step).answer ≡ true
      → is_word t s p step ≡ false
      → (visit_at (step_of t step).tables s p).there ≡ false
      → SweptAt t step s p
  gone_by_step t _ z (Goes.Sweeps site) there a f gone = gone_by_sweep t site z there a gone
  gone_by_step t _ z (Goes.Crashes site) there a f gone =
      absurd
      (true≢false
      (sym
      (sound_accepted_has
      t
      (Step.Crash site)
      z
      (λ n u. (visit_at u s p).there ≡ true)
      (there_after_crash_turn site)
      (λ e. there_after_head t (Step.Crash site) z there f)
      a)
      ∙ gone))
  gone_by_step t _ z (Goes.Nowhere step n) there a f gone =
      absurd
      (true≢false
      (sym (there_after_head t step z there f) ∙ ap (λ (u : Tables). (visit_at u s p).there) (sym (single_head t step n a)) ∙ gone))

  -- a visit that is there and is gone after a step went by an accepted word of home:
  -- the close of its commit round, or the delivery there of a commit's phase 2;
  -- or by an accepted sweep of its site, as one that a sweep may take, at a clock that has reached its release time
  pub visit_goes_by :
      (t : Tables) (step : Step) → Sound t → (visit_at t s p).there ≡ true → (visit_at (step_of t step).tables s p).there ≡ false
      → ((is_accepted (step_of t step).answer ≡ true) × (is_word t s p step ≡ true)) ⊎ SweptAt t step s p
  visit_goes_by t step z there gone = by (either (is_accepted (step_of t step).answer)) (either (is_word t s p step))
    where
      by :
          (is_accepted (step_of t step).answer ≡ true) ⊎ (is_accepted (step_of t step).answer ≡ false)
          → (is_word t s p step ≡ true) ⊎ (is_word t s p step ≡ false)
          → ((is_accepted (step_of t step).answer ≡ true) × (is_word t s p step ≡ true)) ⊎ SweptAt t step s p
      by (inl a) (inl f) = inl (a, f)
      by (inl a) (inr f) = inr (gone_by_step t step z (deed_of step).goes there a f gone)
      by (inr a) f = absurd (true≢false (sym there ∙ ap (λ (u : Tables). (visit_at u s p).there) (sym (refused_leaves t step a)) ∙ gone))

-- an object that a passage holds and does not hold after a step was let go by an accepted word of home to its visit at the object's station,
-- or by an accepted sweep there, of a visit that a sweep may take, at a clock that has reached its release time
pub let_go_by :
    (t : Tables) (step : Step) (k p : ℕ) → p < 16 → Sound t → is_holding t p k ≡ true → is_holding (step_of t step).tables p k ≡ false
    → ((is_accepted (step_of t step).answer ≡ true) × (is_word t (object_site k) p step ≡ true)) ⊎ SweptAt t step (object_site k) p
let_go_by t step k p slot z held let_go =
    ⊎_elim
    (λ there.
    ⊎_elim
    (λ e. absurd (true≢false (sym e ∙ let_go)))
    (λ gone. visit_goes_by (object_site k) p slot t step z there gone)
    (let_go_with_visit k p slot t step z held))
    (λ away. absurd (true≢false (sym (held_away_after_step k p slot t step z held away) ∙ let_go)))
    (either (visit_at t (object_site k) p).there)
