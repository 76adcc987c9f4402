-- What a step leaves in the tables of who holds an object: by its own store, then through the turns of a sweep or a crash. Assumes nothing.
use Rattle.std.specs.Prelude.{ℕ, zero, suc, ◌+◌, ◌*◌, ◌/◌, ◌%◌, ◌≤◌, ◌<◌, ◌≡◌, refl, ◌≢◌, true, ◌&&◌, ◌||◌, eqb, get_or}
use Rattle.std.proofs.Common.{arith, sym, ap, ◌∙◌, subst, ⊎_elim, eq-eqb, ne_eqb}
use Rattle.rules.specs.declared.looking.Trip.{Trip}
use Rattle.rules.specs.Tables.{past_object, bank_at, object_site}
use Rattle.rules.proofs.RangesLaws.{placed_places, placed_trip}
use Rattle.rules.proofs.RangesKept.{turn_count_most}
use Rattle.rules.specs.Answers.{is_accepted}
use Rattle.rules.specs.Parts.{is_held_by}
use Rattle.rules.specs.Stations.{crashed_slot}
use Rattle.rules.specs.Machine.{look_of, places_of, seen_of, decide_of, stored, head_of, trip_places, turn_of, turns_up_to, turn_count, step_of, found_of}
use Rattle.rules.specs.StoredLaws.{Sized, Placed, turn_stored_lem, stored_seen}
use Rattle.rules.specs.Events.{is_holding}
use Rattle.rules.proofs.StoredObjects.{seen_object_at, object_after_stored, object_after_stored_other}
use Rattle.runs.specs.Types.{Call, Tables, Step, Outcome, Places, Seen}
use Rattle.runs.specs.Walk.Put.{same_or_other}
use Rattle.runs.proofs.Walk.Steps.{accepted_turned}
use Rattle.runs.proofs.Walk.Sound.{Sound, sound_head, sound_turn}
use Rattle.runs.proofs.Events.HoldSteps.{and_false, AllLetGo, TakesIn, TripAt, Takes, LetGo, Idle, swept_lets_go}

-- ---- the store

-- nobody gains an object, and away from the site each stays with whom it is
pub record LetsGoAt (site : ℕ) (t after : Tables) : Type 0 where
  pub gained : (p k : ℕ) → is_holding after p k ≡ true → is_holding t p k ≡ true
  pub away : (p k : ℕ) → object_site k ≢ site → is_holding after p k ≡ is_holding t p k

module _ (t : Tables) (at : Places) (left : Seen) (z : Sized t) (h : Placed at) where
  inside :
      (p k : ℕ) → object_site k ≡ at.bank
      → is_holding (stored t at left) p k ≡ is_held_by p (get_or left.objects (k % 4) past_object)
  inside p k e = ap (is_held_by p) (object_after_stored t at left z h k e)

  outside : (p k : ℕ) → object_site k ≢ at.bank → is_holding (stored t at left) p k ≡ is_holding t p k
  outside p k n = ap (is_held_by p) (object_after_stored_other t at left k n)

  seen : (p k : ℕ) → object_site k ≡ at.bank → is_held_by p (get_or (bank_at t at.bank) (k % 4) past_object) ≡ is_holding t p k
  seen p k e =
      let q : k / 4 ≡ at.bank = e in
      let y : 4 * at.bank + k % 4 ≡ k = omega arith in
      rw (seen_object_at t at.bank (k % 4) (omega arith), y)

  stored_lets_go : AllLetGo (bank_at t at.bank) left.objects → LetsGoAt at.bank t (stored t at left)
  stored_lets_go f =
      record {
        gained =
            λ p k e.
            ⊎_elim
            (λ b. sym (seen p k b) ∙ f (k % 4) (omega arith) p (sym (inside p k b) ∙ e))
            (λ n. sym (outside p k n) ∙ e)
            (same_or_other (object_site k) at.bank);
        away = outside;
      }

  stored_takes :
      (c : Call) → at.bank ≡ object_site c.object → TakesIn c at.slot (bank_at t at.bank) left.objects → (p k : ℕ)
      → is_holding (stored t at left) p k ≡ ((eqb at.slot p && eqb c.object k) || is_holding t p k)
  stored_takes c b f p k =
      ⊎_elim
      (λ e. inside p k e ∙ f (k % 4) p (omega arith) ∙ (rw (seen p k e, same_place e)))
      (λ n. outside p k n ∙ (rw (ne_eqb c.object k (λ y. n (ap object_site (sym y) ∙ sym b)), and_false)))
      (same_or_other (object_site k) at.bank)
    where
      -- in one bank the place says which object it is
      same_place : object_site k ≡ at.bank → eqb (c.object % 4) (k % 4) ≡ eqb c.object k
      same_place e =
          let x : k / 4 ≡ at.bank = e in
          let y : at.bank ≡ c.object / 4 = b in
          ⊎_elim
          (λ (q : c.object ≡ k). rw (eq-eqb c.object k q, eq-eqb (c.object % 4) (k % 4) (omega arith)))
          (λ n. rw (ne_eqb c.object k n, ne_eqb (c.object % 4) (k % 4) (λ (q : c.object % 4 ≡ k % 4). n (omega arith))))
          (same_or_other c.object k)

  holding_after_stored : left.objects ≡ bank_at t at.bank → (p k : ℕ) → is_holding (stored t at left) p k ≡ is_holding t p k
  holding_after_stored e p k =
      ⊎_elim
      (λ b. inside p k b ∙ (rw e (seen p k b)))
      (λ n. outside p k n)
      (same_or_other (object_site k) at.bank)

-- ---- the turns of a sweep and of a crash

lets_go_on : (site : ℕ) (t u v : Tables) → LetsGoAt site t u → LetsGoAt site u v → LetsGoAt site t v
lets_go_on site t u v f g =
    record {
      gained = λ p k e. f.gained p k (g.gained p k e);
      away = λ p k n. g.away p k n ∙ f.away p k n;
    }

turn_lets_go :
    (trip : Trip) (s slot : ℕ) (o : Outcome) → TripAt trip s → slot < 16 → Sound o.tables
    → LetsGoAt s o.tables (turn_of trip slot o).tables
unfolding crashed_slot
turn_lets_go Trip.Nowhere s slot o at l z =
    rw (turn_stored_lem Trip.Nowhere slot o, stored_seen o.tables (trip_places Trip.Nowhere slot)) (record { gained = λ p k e. e; away = λ p k n. refl })
turn_lets_go (Trip.Sweep site) s slot o at l z =
    let places = trip_places (Trip.Sweep site) slot in
    rw
    (turn_stored_lem (Trip.Sweep site) slot o, ← at)
    (stored_lets_go o.tables places _ z.sized (placed_trip (Trip.Sweep site) slot l) (swept_lets_go site slot (seen_of o.tables places)))
turn_lets_go (Trip.Crash site) s slot o at l z =
    rw
    (turn_stored_lem (Trip.Crash site) slot o, ← at)
    (stored_lets_go o.tables (trip_places (Trip.Crash site) slot) _ z.sized (placed_trip (Trip.Crash site) slot l) (λ i j p e. e))

turns_let_go :
    (trip : Trip) (s : ℕ) (o : Outcome) (n : ℕ) → TripAt trip s → n ≤ 16 → Sound o.tables
    → Sound (turns_up_to trip o n).tables × LetsGoAt s o.tables (turns_up_to trip o n).tables
unfolding turns_up_to
turns_let_go trip s o zero at l z = (z, record { gained = λ p k e. e; away = λ p k n. refl })
turns_let_go trip s o (suc n) at l z =
    let r = turns_let_go trip s o n at (omega arith) z in (
      sound_turn trip n (turns_up_to trip o n) l r.0,
      lets_go_on s o.tables (turns_up_to trip o n).tables _ r.1 (turn_lets_go trip s n (turns_up_to trip o n) at l r.0),
    )

-- ---- the step

-- no turns
none_turned :
    (t : Tables) (step : Step) → (look_of step).trip ≡ Trip.Nowhere → is_accepted (step_of t step).answer ≡ true
    → (step_of t step).tables ≡ (head_of t step).tables
unfolding turns_up_to
none_turned t step n a =
    ap (λ (o : Outcome). o.tables) (accepted_turned t step a)
    ∙ ap (λ (x : Trip). (turns_up_to x (head_of t step) (turn_count x (head_of t step).answer)).tables) n

-- the records that an accepted step leaves
abbrev pub left_by : Tables → Step → Seen
left_by t step =
    (decide_of step (found_of t (places_of t (look_of step))) (seen_of t (places_of t (look_of step)))).left

module _ (t : Tables) (step : Step) (z : Sound t) (a : is_accepted (step_of t step).answer ≡ true) where
  pub step_takes :
      (c : Call) → Takes t step c (left_by t step) → (p k : ℕ)
      → is_holding (step_of t step).tables p k
      ≡ ((eqb (places_of t (look_of step)).slot p && eqb c.object k) || is_holding t p k)
  unfolding head_of
  step_takes c f p k =
      rw
      (none_turned t step f.trip a)
      (stored_takes t (places_of t (look_of step)) (left_by t step) z.sized (placed_places t (look_of step)) c f.bank f.takes p k)

  pub step_lets_go : LetGo t step (left_by t step) → LetsGoAt (places_of t (look_of step)).site t (step_of t step).tables
  unfolding head_of
  step_lets_go f =
      rw
      (accepted_turned t step a)
      (lets_go_on
      (places_of t (look_of step)).site
      t
      (head_of t step).tables
      _
      (subst
      (λ (x : ℕ). LetsGoAt x t (head_of t step).tables)
      f.bank
      (stored_lets_go t (places_of t (look_of step)) (left_by t step) z.sized (placed_places t (look_of step)) f.lets_go))
      (turns_let_go
      (look_of step).trip
      (places_of t (look_of step)).site
      (head_of t step)
      _
      f.trip
      (turn_count_most (look_of step).trip _)
      (sound_head t step z)
      ).1)

  pub holding_after_idle : Idle t step (left_by t step) → (p k : ℕ) → is_holding (step_of t step).tables p k ≡ is_holding t p k
  unfolding head_of
  holding_after_idle f p k =
      rw
      (none_turned t step f.trip a)
      (holding_after_stored t (places_of t (look_of step)) (left_by t step) z.sized (placed_places t (look_of step)) f.stays p k)
