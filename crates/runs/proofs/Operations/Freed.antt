-- What a step that delivers no call does to one object: it stays, or is freed with its value; and a turn of a sweep may restore it. Assumes nothing.
use Rattle.std.specs.Prelude.{ℕ, ◌%◌, ◌<◌, ◌≡◌, refl, ◌⊎◌, List, get_or}
use Rattle.std.proofs.Common.{arith, ap, ◌∙◌, subst, ⊎_elim, inl, inr}
use Rattle.rules.specs.declared.tables.Object.{Object}
use Rattle.rules.specs.declared.looking.Trip.{Trip}
use Rattle.rules.specs.LoopsLaws.{either, cond_keeps}
use Rattle.rules.specs.Tables.{past_object, object_at, bank_at, object_site, slot_of}
use Rattle.rules.specs.Parts.{is_held_by, unheld, freed, restored, told_objects}
use Rattle.rules.proofs.PartsLaws.{unheld_not_held, let_go_unheld, freed_held, freed_other, restored_other}
use Rattle.rules.specs.Stations.{is_swept, swept_slot, crashed_slot}
use Rattle.rules.specs.Rounds.{round_told, close_of}
use Rattle.rules.specs.Calls.{mail_slot, deliver_phase_one_of, deliver_phase_two_of, deliver_body_of}
use Rattle.rules.specs.Machine.{seen_of, stored, turn_of, trip_places}
use Rattle.rules.specs.StoredLaws.{Sized, Placed, turn_stored_lem}
use Rattle.rules.proofs.StoredObjects.{seen_object, object_after_stored, object_after_stored_other, each_at}
use Rattle.rules.proofs.RangesLaws.{placed_trip}
use Rattle.rules.proofs.Views.{settled}
use Rattle.runs.specs.Types.{Asked, Told, Body, Tables, Places, Seen, Outcome}
use Rattle.runs.specs.Walk.Put.{same_or_other}
use Rattle.runs.proofs.Walk.Sound.{Sound}

-- ---- one object

-- it stays as it is, or is free with the value that it has
abbrev pub SameOrFreed : Object → Object → Type 0
SameOrFreed o left = (left ≡ o) ⊎ (left ≡ unheld o.value)

-- it stays as it is, or is free with the value before
abbrev pub SameOrRestored : Object → Object → Type 0
SameOrRestored o left = (left ≡ o) ⊎ (left ≡ unheld o.before)

-- a slot that lets its objects go with their values
after_freed : (q : ℕ) (o : Object) → SameOrFreed o (freed q o)
after_freed q o = ⊎_elim (λ e. inr (freed_held q o e)) (λ e. inl (freed_other q o e)) (either (is_held_by q o))

-- a slot whose objects are undone
after_restored : (q : ℕ) (o : Object) → SameOrRestored o (restored q o)
after_restored q o = ⊎_elim (λ e. inr (rw e)) (λ e. inl (restored_other q o e)) (either (is_held_by q o))

-- one that is free has nothing to restore
free_after_restored : (q v : ℕ) → restored q (unheld v) ≡ unheld v
free_after_restored q v = restored_other q (unheld v) (unheld_not_held q (unheld v) (let_go_unheld v))

-- ---- what a step that delivers no call leaves of the four objects that it saw

-- each of them is as it was, or free with its value
abbrev pub FourFreed : List Object → List Object → Type 0
FourFreed os left = (i : ℕ) → i < 4 → SameOrFreed (get_or os i past_object) (get_or left i past_object)

-- phase 2 frees under a prepare alone
freed_after_told : (told : Told) (q : ℕ) (os : List Object) → FourFreed os (told_objects told q os)
freed_after_told (Told.Refresh r) q os i l = inl refl
freed_after_told (Told.Terminate m) q os i l = inl refl
freed_after_told Told.Prepare q os i l = rw (each_at (freed q) os i l) (after_freed q (get_or os i past_object))

-- a close frees where the home visit is there
pub freed_after_close : (h : ℕ) (seen : Seen) → FourFreed seen.objects (close_of h seen).left.objects
unfolding close_of
freed_after_close h seen =
    settled
    (λ (x : Seen). FourFreed seen.objects x.objects)
    _
    _
    seen
    _
    (λ f.
    cond_keeps
    (FourFreed seen.objects)
    seen.visit.there
    _
    seen.objects
    (freed_after_told (round_told seen.passage.round) (slot_of h) seen.objects)
    (λ i l. inl refl))
    (λ i l. inl refl)

-- a phase 2 message frees as it is told
pub freed_after_word :
    (n : ℕ) (told : Told) (m : ℕ) (seen : Seen) → FourFreed seen.objects (deliver_body_of (Body.PhaseTwo n told) m seen).left.objects
unfolding deliver_body_of deliver_phase_two_of
freed_after_word n told m seen =
    settled
    (λ (x : Seen). FourFreed seen.objects x.objects)
    _
    _
    seen
    _
    (λ f. freed_after_told told (mail_slot seen) seen.objects)
    (λ i l. inl refl)

-- a phase 1 message leaves the objects
pub freed_after_question :
    (n : ℕ) (asked : Asked) (m : ℕ) (seen : Seen) → FourFreed seen.objects (deliver_body_of (Body.PhaseOne n asked) m seen).left.objects
unfolding deliver_body_of deliver_phase_one_of
freed_after_question n asked m seen =
    settled (λ (x : Seen). FourFreed seen.objects x.objects) _ _ seen _ (λ f i l. inl refl) (λ i l. inl refl)

-- ---- the store, for one object

module _ (k : ℕ) where
  -- what holds of the object that a store leaves in its bank, and of one outside it, holds of every object
  object_has :
      (P : Object → Type 0) (t : Tables) (at : Places) (left : Seen) → Sized t → Placed at
      → (object_site k ≡ at.bank → P (get_or left.objects (k % 4) past_object))
      → P (object_at t k)
      → P (object_at (stored t at left) k)
  object_has P t at left z h own other =
      ⊎_elim
      (λ b. rw (object_after_stored t at left z h k b) (own b))
      (λ n. rw (object_after_stored_other t at left k n) other)
      (same_or_other (object_site k) at.bank)

  -- so every object is as it was, or free with its value
  pub freed_after_stored :
      (t : Tables) (at : Places) (left : Seen) → Sized t → Placed at → FourFreed (bank_at t at.bank) left.objects
      → SameOrFreed (object_at t k) (object_at (stored t at left) k)
  freed_after_stored t at left z h four =
      object_has
      (SameOrFreed (object_at t k))
      t
      at
      left
      z
      h
      (λ b.
      subst
      (λ (o : Object). SameOrFreed o (get_or left.objects (k % 4) past_object))
      (seen_object t k at.bank b)
      (four (k % 4) (omega arith)))
      (inl refl)

  -- objects that a decision leaves
  pub same_after_stored :
      (t : Tables) (at : Places) (left : Seen) → Sized t → Placed at → left.objects ≡ bank_at t at.bank
      → object_at (stored t at left) k ≡ object_at t k
  same_after_stored t at left z h e =
      object_has
      (λ o. o ≡ object_at t k)
      t
      at
      left
      z
      h
      (λ b. ap (λ (os : List Object). get_or os (k % 4) past_object) e ∙ seen_object t k at.bank b)
      refl

  -- ---- the turns of a sweep and of a crash

  -- a sweep may undo it, once
  pub restored_after_turn :
      (t : Tables) (site n : ℕ) (o : Outcome) → n < 16 → Sound o.tables → SameOrRestored (object_at t k) (object_at o.tables k)
      → SameOrRestored (object_at t k) (object_at (turn_of (Trip.Sweep site) n o).tables k)
  unfolding swept_slot
  restored_after_turn t site n o l y w =
      rw
      (turn_stored_lem (Trip.Sweep site) n o)
      (object_has
      (SameOrRestored (object_at t k))
      o.tables
      at
      _
      y.sized
      (placed_trip (Trip.Sweep site) n l)
      (λ b.
      cond_keeps
      (λ (x : Seen). SameOrRestored (object_at t k) (get_or x.objects (k % 4) past_object))
      (is_swept seen)
      _
      seen
      (rw (each_at (restored n) seen.objects (k % 4) (omega arith), seen_object o.tables k at.bank b) (once w))
      (rw (seen_object o.tables k at.bank b) w))
      w)
    where
      at : Places
      at = trip_places (Trip.Sweep site) n

      seen : Seen
      seen = seen_of o.tables at

      once :
          SameOrRestored (object_at t k) (object_at o.tables k)
          → SameOrRestored (object_at t k) (restored n (object_at o.tables k))
      once (inl e) = rw e (after_restored n (object_at t k))
      once (inr e) = inr (rw e (free_after_restored n (object_at t k).before))

  -- a crash leaves every object
  pub same_after_crash_turn :
      (site n : ℕ) (o : Outcome) → n < 16 → Sound o.tables
      → object_at (turn_of (Trip.Crash site) n o).tables k ≡ object_at o.tables k
  unfolding crashed_slot
  same_after_crash_turn site n o l y =
      rw
      (turn_stored_lem (Trip.Crash site) n o)
      (same_after_stored o.tables (trip_places (Trip.Crash site) n) _ y.sized (placed_trip (Trip.Crash site) n l) refl)
