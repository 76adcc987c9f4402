-- A sweep goes through the slots: an unprepared visit whose release time the clock has reached is gone afterwards. Assumes nothing.
use Rattle.std.specs.Prelude.{ℕ, suc, ◌%◌, ◌<◌, ◌≤◌, ◌≡◌, refl, ◌≢◌, ◌⊎◌, true, false, leb}
use Rattle.std.proofs.Common.{arith, ne_of_lt, sym, ap, ◌∙◌, subst, ⊎_elim, inl, inr, leb-false}
use Rattle.rules.specs.LoopsLaws.{either, cond_keeps}
use Rattle.rules.specs.Tables.{site_at, visit_at}
use Rattle.rules.specs.Answers.{is_accepted}
use Rattle.rules.specs.StoredLaws.{turn_stored_lem, visit_place_same, site_after_stored, visit_after_stored, visit_after_stored_other}
use Rattle.rules.proofs.RangesLaws.{placed_trip}
use Rattle.rules.specs.Stations.{is_swept, swept_slot}
use Rattle.rules.specs.Machine.{seen_of, stored, head_of, trip_places, turn_of, step_of}
use Rattle.rules.specs.declared.looking.Trip.{Trip}
use Rattle.runs.specs.Types.{Site, Visit, Tables, Step, Places, Outcome, Seen}
use Rattle.runs.specs.Walk.Put.{same_or_other}
use Rattle.runs.proofs.Walk.Sound.{Sound, sound_accepted_has}
use Rattle.runs.proofs.Walk.Clocks.{turned_site}
use Rattle.runs.proofs.Walk.Steps.{turns_of, head_accepted}

-- what must hold of a visit for a sweep at this clock to take it
pub record Ripe (clock : ℕ) (v : Visit) : Type 0 where
  pub prepared : v.there ≡ true → v.prepared ≡ false
  pub release : v.there ≡ true → v.release ≤ clock

-- a ripe visit that is there is swept
ripe_swept : (seen : Seen) → Ripe seen.site.clock seen.visit → seen.visit.there ≡ true → is_swept seen ≡ true
ripe_swept seen r e =
    let l : leb seen.visit.release seen.site.clock ≡ true =
    ⊎_elim
    (λ q. q)
    (λ q.
    let i : seen.site.clock < seen.visit.release = leb-false _ _ q in
    let j : seen.visit.release ≤ seen.site.clock = r.release e in
    absurd (omega arith))
    (either (leb seen.visit.release seen.site.clock)) in
    rw (l, r.prepared e, e)

-- what a turn leaves of a ripe visit
ripe_goes : (site slot : ℕ) (seen : Seen) → Ripe seen.site.clock seen.visit → (swept_slot site slot seen).visit.there ≡ false
unfolding swept_slot
ripe_goes site slot seen r =
    ⊎_elim
    (λ e. rw (ripe_swept seen r e))
    (λ e. cond_keeps (λ (x : Seen). x.visit.there ≡ false) (is_swept seen) _ seen refl e)
    (either seen.visit.there)

-- ---- the sixteen turns of a sweep at a station, for one slot

module _ (site p : ℕ) (place : site < 8) (slot : p < 16) where
  same_place : site % 8 ≡ site
  same_place = omega arith

  -- one turn keeps the station's clock, and the slot's visit but in its own turn
  turn_clock :
      (n : ℕ) (o : Outcome) → n < 16 → Sound o.tables
      → (site_at (turn_of (Trip.Sweep site) n o).tables site).clock ≡ (site_at o.tables site).clock
  turn_clock n o i z =
      let at : Places = trip_places (Trip.Sweep site) n in
      rw
      (turn_stored_lem (Trip.Sweep site) n o)
      (subst
      (λ (x : ℕ). (site_at (stored o.tables at (swept_slot site n (seen_of o.tables at))) x).clock ≡ (site_at o.tables x).clock)
      same_place
      (ap
      (λ (x : Site). x.clock)
      (site_after_stored o.tables at _ z.sized (placed_trip (Trip.Sweep site) n i)
      ∙ turned_site (Trip.Sweep site) n (seen_of o.tables at))))

  turn_other :
      (n : ℕ) (o : Outcome) → n < 16 → n ≢ p → visit_at (turn_of (Trip.Sweep site) n o).tables site p ≡ visit_at o.tables site p
  turn_other n o i m =
      rw
      (turn_stored_lem (Trip.Sweep site) n o)
      (visit_after_stored_other
      o.tables
      (trip_places (Trip.Sweep site) n)
      _
      site
      p
      (λ e. m (sym (visit_place_same site p (site % 8) n slot i e).1)))

  turn_own :
      (o : Outcome) → Sound o.tables → Ripe (site_at o.tables site).clock (visit_at o.tables site p)
      → (visit_at (turn_of (Trip.Sweep site) p o).tables site p).there ≡ false
  turn_own o z r =
      let at : Places = trip_places (Trip.Sweep site) p in
      rw
      (turn_stored_lem (Trip.Sweep site) p o)
      (subst
      (λ (x : ℕ). (visit_at (stored o.tables at (swept_slot site p (seen_of o.tables at))) x p).there ≡ false)
      same_place
      (ap (λ (v : Visit). v.there) (visit_after_stored o.tables at _ z.sized (placed_trip (Trip.Sweep site) p slot))
      ∙ ripe_goes
      site
      p
      (seen_of o.tables at)
      (subst (λ (x : ℕ). Ripe (site_at o.tables x).clock (visit_at o.tables x p)) (sym same_place) r)))

  -- n turns after t: the clock is as in t; the visit is gone once its turn has been, and as in t until then
  record After (t : Tables) (n : ℕ) (u : Tables) : Type 0 where
    clock : (site_at u site).clock ≡ (site_at t site).clock
    visit : ((p < n) × ((visit_at u site p).there ≡ false)) ⊎ ((n ≤ p) × (visit_at u site p ≡ visit_at t site p))

  -- one turn more
  turn_after :
      (t : Tables) → Ripe (site_at t site).clock (visit_at t site p) → (n : ℕ) (o : Outcome) → n < 16 → Sound o.tables
      → After t n o.tables
      → After t (suc n) (turn_of (Trip.Sweep site) n o).tables
  turn_after t r n o i z k =
      record {
        clock = turn_clock n o i z ∙ k.clock;
        visit = ⊎_elim (λ g. inl (gone g)) (λ g. still g (same_or_other n p)) k.visit;
      }
    where
      gone :
          (p < n) × ((visit_at o.tables site p).there ≡ false)
          → (p < suc n) × ((visit_at (turn_of (Trip.Sweep site) n o).tables site p).there ≡ false)
      gone (j, e) = (omega arith, ap (λ (v : Visit). v.there) (turn_other n o i (λ q. absurd (ne_of_lt j (sym q)))) ∙ e)

      still :
          (n ≤ p) × (visit_at o.tables site p ≡ visit_at t site p) → (n ≡ p) ⊎ (n ≢ p)
          → ((p < suc n) × ((visit_at (turn_of (Trip.Sweep site) n o).tables site p).there ≡ false))
          ⊎ ((suc n ≤ p) × (visit_at (turn_of (Trip.Sweep site) n o).tables site p ≡ visit_at t site p))
      still (j, e) (inl q) =
          inl (
            omega arith,
            subst
                (λ (x : ℕ). (visit_at (turn_of (Trip.Sweep site) x o).tables site p).there ≡ false)
                (sym q)
                (turn_own o z (rw (k.clock, e) r)),
          )
      still (j, e) (inr q) = inr (omega (arith, q), turn_other n o i q ∙ e)

  -- so an accepted sweep leaves the clock that its own store has moved
  pub swept_clock :
      (t : Tables) → Sound t → is_accepted (step_of t (Step.Sweep site)).answer ≡ true
      → (site_at (step_of t (Step.Sweep site)).tables site).clock ≡ (site_at (head_of t (Step.Sweep site)).tables site).clock
  swept_clock t z e =
      sound_accepted_has
      t
      (Step.Sweep site)
      z
      (λ n u. (site_at u site).clock ≡ (site_at (head_of t (Step.Sweep site)).tables site).clock)
      (λ n o i y k. turn_clock n o i y ∙ k)
      (λ a. refl)
      e

  -- an accepted sweep leaves no visit of the slot at the station, if the visit was ripe once the clock had moved
  pub swept_away_lem :
      (t : Tables) → Sound t → is_accepted (step_of t (Step.Sweep site)).answer ≡ true
      → Ripe (site_at (head_of t (Step.Sweep site)).tables site).clock (visit_at (head_of t (Step.Sweep site)).tables site p)
      → (visit_at (step_of t (Step.Sweep site)).tables site p).there ≡ false
  swept_away_lem t z e r =
      ⊎_elim (λ g. g.1) (λ g. let i : 16 ≤ p = rw (head_accepted t (Step.Sweep site) e) at g.0 in absurd (omega arith)) through.visit
    where
      through :
          After
          (head_of t (Step.Sweep site)).tables
          (turns_of t (Step.Sweep site))
          (step_of t (Step.Sweep site)).tables
      through =
          sound_accepted_has
          t
          (Step.Sweep site)
          z
          (After (head_of t (Step.Sweep site)).tables)
          (turn_after (head_of t (Step.Sweep site)).tables r)
          (λ a. record { clock = refl; visit = inr (omega arith, refl) })
          e
