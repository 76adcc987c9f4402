-- One slot of a step that goes through them all: its turn sees its passage and its visit at the station as they were before the step. Assumes nothing.
use Rattle.std.specs.Prelude.{ℕ, suc, ◌%◌, ◌<◌, ◌≤◌, ◌≡◌, ◌≢◌, ◌⊎◌, true, List}
use Rattle.std.proofs.Common.{arith, ne_of_lt, sym, ◌∙◌, subst, ⊎_elim, inl, inr}
use Rattle.std.proofs.Math.Path.{refl, ap, subst₂}
use Rattle.rules.specs.Types.{Check}
use Rattle.rules.specs.declared.looking.Trip.{Trip}
use Rattle.rules.specs.Tables.{site_at, passage_at, visit_at}
use Rattle.rules.specs.Answers.{is_accepted, first_refusal, settle_of}
use Rattle.rules.specs.Machine.{look_of, seen_of, decide_of, head_of, trip_site, trip_places, turn_seen, turn_of, step_of}
use Rattle.rules.proofs.RangesLaws.{placed_places, placed_trip}
use Rattle.rules.specs.StoredLaws.{turn_stored_lem, visit_place_same, site_after_stored, passage_after_stored, passage_after_stored_other, visit_after_stored, visit_after_stored_other}
use Rattle.rules.proofs.Views.{settled}
use Rattle.runs.specs.Types.{Site, Passage, Visit, Tables, Step, Seen, Outcome, Found}
use Rattle.runs.specs.Walk.Put.{same_or_other}
use Rattle.runs.specs.Walk.Seen.{places_at, seen_at}
use Rattle.runs.proofs.Walk.Steps.{turns_of}
use Rattle.runs.proofs.Walk.Sound.{Sound, sound_accepted_has}
use Rattle.runs.proofs.Walk.Clocks.{turned_site}
use Rattle.runs.proofs.Promises.Promised.{stored_has}
use Rattle.runs.proofs.Promises.Standing.{passage_has}

-- ---- one slot of a step that goes through them all: its turn sees its passage and its visit as they were before the step

module _ (trip : Trip) (p : ℕ) (slot : p < 16) where
  -- the station that is gone through
  abbrev Station : ℕ
  Station = trip_site trip % 8

  turn_site :
      (n : ℕ) (o : Outcome) → n < 16 → Sound o.tables → site_at (turn_of trip n o).tables Station ≡ site_at o.tables Station
  turn_site n o i z =
      rw
      (turn_stored_lem trip n o)
      (site_after_stored o.tables (trip_places trip n) _ z.sized (placed_trip trip n i) ∙ turned_site trip n (seen_of o.tables (trip_places trip n)))

  turn_passage_other : (n : ℕ) (o : Outcome) → n ≢ p → passage_at (turn_of trip n o).tables p ≡ passage_at o.tables p
  turn_passage_other n o m =
      rw (turn_stored_lem trip n o) (passage_after_stored_other o.tables (trip_places trip n) _ p (λ e. m (sym e)))

  turn_visit_other :
      (n : ℕ) (o : Outcome) → n < 16 → n ≢ p → visit_at (turn_of trip n o).tables Station p ≡ visit_at o.tables Station p
  turn_visit_other n o i m =
      rw
      (turn_stored_lem trip n o)
      (visit_after_stored_other
      o.tables
      (trip_places trip n)
      _
      Station
      p
      (λ e. m (sym (visit_place_same Station p Station n slot i e).1)))

  turn_passage_own :
      (o : Outcome) → Sound o.tables → passage_at (turn_of trip p o).tables p ≡ (turn_seen trip p (seen_of o.tables (trip_places trip p))).passage
  turn_passage_own o z =
      rw (turn_stored_lem trip p o) (passage_after_stored o.tables (trip_places trip p) _ z.sized (placed_trip trip p slot))

  turn_visit_own :
      (o : Outcome) → Sound o.tables → visit_at (turn_of trip p o).tables Station p ≡ (turn_seen trip p (seen_of o.tables (trip_places trip p))).visit
  turn_visit_own o z =
      rw (turn_stored_lem trip p o) (visit_after_stored o.tables (trip_places trip p) _ z.sized (placed_trip trip p slot))

  -- c, x and v are the station, the slot's passage and its visit there before the turns; Q is what the slot's own turn brings about
  module _ (c : Site) (x : Passage) (v : Visit) (Q : Passage → Visit → Type 0)
      (own :
      (seen : Seen) → seen.site ≡ c → seen.passage ≡ x → seen.visit ≡ v
      → Q (turn_seen trip p seen).passage (turn_seen trip p seen).visit) where
    record Through (n : ℕ) (u : Tables) : Type 0 where
      station : site_at u Station ≡ c
      place : ((p < n) × Q (passage_at u p) (visit_at u Station p)) ⊎ ((n ≤ p) × ((passage_at u p ≡ x) × (visit_at u Station p ≡ v)))

    through_turn : (n : ℕ) (o : Outcome) → n < 16 → Sound o.tables → Through n o.tables → Through (suc n) (turn_of trip n o).tables
    through_turn n o i z k =
        record {
          station = turn_site n o i z ∙ k.station;
          place = ⊎_elim (λ g. inl (been g)) (λ g. yet g (same_or_other n p)) k.place;
        }
      where
        been :
            (p < n) × Q (passage_at o.tables p) (visit_at o.tables Station p)
            → (p < suc n) × Q (passage_at (turn_of trip n o).tables p) (visit_at (turn_of trip n o).tables Station p)
        been (j, q) =
            let m : n ≢ p = λ e. absurd (ne_of_lt j (sym e)) in
            (omega arith, rw (turn_passage_other n o m, turn_visit_other n o i m) q)

        yet :
            (n ≤ p) × ((passage_at o.tables p ≡ x) × (visit_at o.tables Station p ≡ v)) → (n ≡ p) ⊎ (n ≢ p)
            → ((p < suc n) × Q (passage_at (turn_of trip n o).tables p) (visit_at (turn_of trip n o).tables Station p))
            ⊎ ((suc n ≤ p) × ((passage_at (turn_of trip n o).tables p ≡ x) × (visit_at (turn_of trip n o).tables Station p ≡ v)))
        yet (j, (a, b)) (inl e) =
            inl (
              omega arith,
              subst
                  (λ (y : ℕ). Q (passage_at (turn_of trip y o).tables p) (visit_at (turn_of trip y o).tables Station p))
                  (sym e)
                  (rw (turn_passage_own o z, turn_visit_own o z) (own (seen_of o.tables (trip_places trip p)) k.station a b)),
            )
        yet (j, (a, b)) (inr m) = inr (omega (arith, m), (turn_passage_other n o m ∙ a, turn_visit_other n o i m ∙ b))

-- the own store of such a step moves the clock and leaves the passage and the visit
abbrev pub Stays : Step → Type 0
Stays step =
    (found : Found) (seen : Seen)
    → ((decide_of step found seen).left.passage ≡ seen.passage) × ((decide_of step found seen).left.visit ≡ seen.visit)

pub settled_stays :
    (cs : List Check) (v : ℕ) (seen left : Seen) → left.passage ≡ seen.passage → left.visit ≡ seen.visit
    → ((settle_of (record { answer = first_refusal cs v; left = left }) seen).left.passage ≡ seen.passage)
    × ((settle_of (record { answer = first_refusal cs v; left = left }) seen).left.visit ≡ seen.visit)
settled_stays cs v seen left a b =
    settled (λ (x : Seen). (x.passage ≡ seen.passage) × (x.visit ≡ seen.visit)) cs v seen left (λ f. (a, b)) (refl, refl)

-- then it leaves every passage and every visit
module _ (t : Tables) (step : Step) (z : Sound t) (stays : Stays step) where
  head_passage : (p : ℕ) → passage_at (head_of t step).tables p ≡ passage_at t p
  unfolding head_of
  head_passage p =
      passage_has
      (λ x. x ≡ passage_at t p)
      t
      (places_at t step)
      _
      z.sized
      (placed_places t (look_of step))
      p
      (λ b. (stays _ (seen_at t step)).0 ∙ ap (passage_at t) (sym b))
      refl

  head_visit : (s p : ℕ) → p < 16 → visit_at (head_of t step).tables s p ≡ visit_at t s p
  unfolding head_of
  head_visit s p slot =
      stored_has
      (λ v. v ≡ visit_at t s p)
      t
      (places_at t step)
      _
      z.sized
      (placed_places t (look_of step))
      s
      p
      slot
      (λ a b. (stays _ (seen_at t step)).1 ∙ subst₂ (λ (x y : ℕ). visit_at t x y ≡ visit_at t s p) a b refl)
      refl

  -- so what a slot's own turn brings about, from the passage and the visit before the step and the station after it, holds after the step
  module _ (a : is_accepted (step_of t step).answer ≡ true) (many : turns_of t step ≡ 16) where
    abbrev At : ℕ
    At = trip_site (look_of step).trip % 8

    pub station_after : site_at (step_of t step).tables At ≡ site_at (head_of t step).tables At
    station_after =
        sound_accepted_has
        t
        step
        z
        (λ n u. site_at u At ≡ site_at (head_of t step).tables At)
        (λ n o i y k. turn_site (look_of step).trip 0 (omega arith) n o i y ∙ k)
        (λ e. refl)
        a

    pub slot_after :
        (p : ℕ) → p < 16 → (Q : Passage → Visit → Type 0)
        → ((seen : Seen) → seen.site ≡ site_at (step_of t step).tables At → seen.passage ≡ passage_at t p → seen.visit ≡ visit_at t At p
        → Q (turn_seen (look_of step).trip p seen).passage (turn_seen (look_of step).trip p seen).visit)
        → Q (passage_at (step_of t step).tables p) (visit_at (step_of t step).tables At p)
    slot_after p slot Q own =
        ⊎_elim
        (λ g. g.1)
        (λ g. let i : 16 ≤ p = rw many at g.0 in absurd (omega arith))
        through.place
      where
        -- from the station as the step's own store left it
        brought :
            (seen : Seen) → seen.site ≡ site_at (head_of t step).tables At → seen.passage ≡ passage_at t p → seen.visit ≡ visit_at t At p
            → Q (turn_seen (look_of step).trip p seen).passage (turn_seen (look_of step).trip p seen).visit
        brought seen e f g = own seen (e ∙ sym station_after) f g

        through : Through (look_of step).trip p slot _ _ _ Q brought (turns_of t step) (step_of t step).tables
        through =
            sound_accepted_has
            t
            step
            z
            (Through (look_of step).trip p slot _ _ _ Q brought)
            (through_turn (look_of step).trip p slot _ _ _ Q brought)
            (λ e. record { station = refl; place = inr (omega arith, (head_passage p, head_visit At p slot)) })
            a
