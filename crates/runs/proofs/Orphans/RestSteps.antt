-- What each step does to the width that stands of an object: only a commit changes it, and then the object is free and keeps its value.
-- The idea: by the records that a step leaves, then by its store, then through the turns of a sweep or a crash. Assumes nothing.
use Rattle.std.specs.Prelude.{ℕ, ◌+◌, ◌*◌, ◌/◌, ◌%◌, ◌<◌, ◌≡◌, refl, Bool, false, List, get_or}
use Rattle.std.proofs.Common.{arith, subst, inl, ⊎_elim}
use Rattle.rules.specs.declared.tables.Object.{Object}
use Rattle.rules.specs.Types.{Check}
use Rattle.rules.specs.declared.looking.Trip.{Trip}
use Rattle.rules.specs.LoopsLaws.{cond_keeps}
use Rattle.rules.specs.Tables.{past_object, object_at, bank_at, object_site, slot_of}
use Rattle.rules.proofs.RangesLaws.{placed_places, placed_trip}
use Rattle.rules.specs.Answers.{first_refusal, settle_of}
use Rattle.rules.specs.Parts.{next_clock, freed, restored, largest_quiesce, told_objects, told_of}
use Rattle.rules.specs.Stations.{is_swept, swept_slot, crashed_slot}
use Rattle.rules.specs.Rounds.{close_of, closed, round_told}
use Rattle.rules.specs.Calls.{mail_clock, mail_slot, called_object, called, deliver_call_of, deliver_phase_one_of, deliver_phase_two_of, deliver_body_of}
use Rattle.rules.specs.Machine.{look_of, places_of, seen_of, decide_of, stored, head_of, turn_of, step_of, trip_places, turn_seen}
use Rattle.rules.specs.StoredLaws.{Sized, Placed, turn_stored_lem}
use Rattle.rules.proofs.StoredObjects.{seen_object_at, object_after_stored, object_after_stored_other, each_at}
use Rattle.rules.proofs.Views.{settled, Objects, Mail, mail_deed, deed_of}
use Rattle.runs.specs.Types.{Kind, Call, Told, Body, Tables, Step, Outcome, Places, Seen, Found}
use Rattle.runs.specs.Walk.Says.{is_prepare, tells_prepare, carries_commit}
use Rattle.runs.specs.Walk.Put.{same_or_other, set_at}
use Rattle.runs.proofs.Walk.Sound.{Sound, sound_step_has}
use Rattle.runs.proofs.Orphans.Rests.{Stands, TurnStands, standing_after_turned, standing_after_call, stands_after_freed, standing_after_restored, unheld_after_restored}
use Rattle.runs.specs.Orphans.Widths.{commits}
use Rattle.runs.specs.Walk.Seen.{seen_at}

-- ---- the records that a step leaves

-- of each of the four objects that a step looks at
abbrev AllStand : Bool → List Object → List Object → Type 0
AllStand commit os left = (i : ℕ) → i < 4 → Stands commit (get_or os i past_object) (get_or left i past_object)

-- objects that stay
standing_after_same : (commit : Bool) (os left : List Object) → left ≡ os → AllStand commit os left
standing_after_same commit os left e i l = inl (rw e)

-- a refusal keeps what was seen
standing_after_settled :
    (commit : Bool) (cs : List Check) (v : ℕ) (seen left : Seen) → AllStand commit seen.objects left.objects
    → AllStand commit seen.objects (settle_of (record { answer = first_refusal cs v; left = left }) seen).left.objects
standing_after_settled commit cs v seen left h =
    settled (λ (x : Seen). AllStand commit seen.objects x.objects) cs v seen left (λ g. h) (standing_after_same commit seen.objects seen.objects refl)

-- a delivered call saves the value before, once
standing_after_called : (c : Call) (clock : ℕ) (seen : Seen) → AllStand false seen.objects (called c clock seen).objects
standing_after_called c clock seen i l =
    set_at
    (λ j o. Stands false (get_or seen.objects j past_object) o)
    seen.objects
    (c.object % 4)
    i
    _
    past_object
    (inl refl)
    (inl (standing_after_call (mail_slot seen) c (called_object c seen)))

-- phase 2 frees under a prepare alone
standing_after_told : (told : Told) (p : ℕ) (os : List Object) → AllStand (tells_prepare told) os (told_objects told p os)
standing_after_told (Told.Refresh q) p os i l = inl refl
standing_after_told (Told.Terminate m) p os i l = inl refl
standing_after_told Told.Prepare p os i l =
    rw (each_at (freed p) os i l) (stands_after_freed p (get_or os i past_object))

-- what a round of this kind tells is a commit where the kind is prepare
told_commits : (kind : Kind) (m : ℕ) → tells_prepare (told_of kind m) ≡ is_prepare kind
told_commits Kind.None m = refl
told_commits (Kind.Refresh q r) m = refl
told_commits Kind.Terminate m = refl
told_commits Kind.Prepare m = refl

-- close does it where the home visit is there
standing_after_closed :
    (told : Told) (p clock : ℕ) (seen : Seen) → AllStand (tells_prepare told) seen.objects (closed told p clock seen).objects
standing_after_closed told p clock seen =
    cond_keeps
    (AllStand (tells_prepare told) seen.objects)
    seen.visit.there
    _
    seen.objects
    (standing_after_told told p seen.objects)
    (standing_after_same (tells_prepare told) seen.objects seen.objects refl)

standing_after_close : (h : ℕ) (seen : Seen) → AllStand (is_prepare seen.passage.round.kind) seen.objects (close_of h seen).left.objects
unfolding close_of
standing_after_close h seen =
    standing_after_settled
    (is_prepare seen.passage.round.kind)
    _
    _
    seen
    _
    (subst
    (λ (b : Bool). AllStand b seen.objects (closed (round_told seen.passage.round) (slot_of h) (next_clock seen.site) seen).objects)
    (told_commits seen.passage.round.kind (largest_quiesce seen.passage.round))
    (standing_after_closed (round_told seen.passage.round) (slot_of h) (next_clock seen.site) seen))

standing_after_mail :
    (body : Body) (m : ℕ) (seen : Seen) → Mail body → AllStand (carries_commit body) seen.objects (deliver_body_of body m seen).left.objects
unfolding deliver_body_of deliver_call_of deliver_phase_one_of deliver_phase_two_of
standing_after_mail _ m seen (Mail.Calls c) = standing_after_settled false _ _ seen _ (standing_after_called c (mail_clock seen) seen)
standing_after_mail _ m seen (Mail.Asks n asked) = standing_after_settled false _ _ seen _ (standing_after_same false seen.objects _ refl)
standing_after_mail _ m seen (Mail.Tells n told) =
    standing_after_settled (tells_prepare told) _ _ seen _ (standing_after_told told (mail_slot seen) seen.objects)
standing_after_mail _ m seen (Mail.Quiet body objects visit) = standing_after_same (carries_commit body) seen.objects _ (objects m seen)

standing_after_seen :
    (step : Step) (found : Found) (seen : Seen) → Objects step
    → AllStand (commits step seen) seen.objects (decide_of step found seen).left.objects
unfolding decide_of
standing_after_seen _ found seen (Objects.Closes h) = standing_after_close h seen
standing_after_seen _ found seen (Objects.Delivers m) = standing_after_mail seen.message.body m seen (mail_deed seen.message.body)
standing_after_seen _ found seen (Objects.Stay step c d stay) = standing_after_same (commits step seen) seen.objects _ (stay found seen)

standing_after_decided :
    (step : Step) (found : Found) (seen : Seen)
    → AllStand (commits step seen) seen.objects (decide_of step found seen).left.objects
standing_after_decided step found seen = standing_after_seen step found seen (deed_of step).objects

-- ---- the store

-- what holds of the four objects looked at, old and new, and of an object that stays, holds of every object
module _ (P : Object → Object → Type 0) (same : (o : Object) → P o o) (t : Tables) (at : Places) (left : Seen) (z : Sized t) (h : Placed at) where
  stored_all_lem :
      ((i : ℕ) → i < 4 → P (get_or (bank_at t at.bank) i past_object) (get_or left.objects i past_object)) → (k : ℕ)
      → P (object_at t k) (object_at (stored t at left) k)
  stored_all_lem four k =
      ⊎_elim
      (λ b. rw (object_after_stored t at left z h k b) (inside b))
      (λ n. rw (object_after_stored_other t at left k n) (same (object_at t k)))
      (same_or_other (object_site k) at.bank)
    where
      inside : object_site k ≡ at.bank → P (object_at t k) (get_or left.objects (k % 4) past_object)
      inside b =
          let q : k / 4 ≡ at.bank = b in
          let y : 4 * at.bank + k % 4 ≡ k = omega arith in
          subst
          (λ (j : ℕ). P (object_at t j) (get_or left.objects (k % 4) past_object))
          y
          (subst
          (λ (o : Object). P o (get_or left.objects (k % 4) past_object))
          (seen_object_at t at.bank (k % 4) (omega arith))
          (four (k % 4) (omega arith)))

standing_after_head :
    (t : Tables) (step : Step) → Sound t → (k : ℕ)
    → Stands (commits step (seen_at t step)) (object_at t k) (object_at (head_of t step).tables k)
unfolding head_of
standing_after_head t step z =
    stored_all_lem
    (Stands (commits step (seen_at t step)))
    (λ o. inl refl)
    t
    (places_of t (look_of step))
    _
    z.sized
    (placed_places t (look_of step))
    (standing_after_decided step _ (seen_at t step))

-- ---- the turns of a sweep and of a crash

seen_turned :
    (trip : Trip) (slot : ℕ) (seen : Seen) (i : ℕ) → i < 4
    → TurnStands (get_or seen.objects i past_object) (get_or (turn_seen trip slot seen).objects i past_object)
unfolding swept_slot crashed_slot
seen_turned Trip.Nowhere slot seen i l = (refl, λ u. refl)
seen_turned (Trip.Sweep site) slot seen i l =
    cond_keeps
    (λ (x : Seen). TurnStands (get_or seen.objects i past_object) (get_or x.objects i past_object))
    (is_swept seen)
    _
    seen
    (rw
    (each_at (restored slot) seen.objects i l)
    (standing_after_restored slot (get_or seen.objects i past_object), unheld_after_restored slot (get_or seen.objects i past_object)))
    (refl, λ u. refl)
seen_turned (Trip.Crash site) slot seen i l = (refl, λ u. refl)

turn_turned :
    (trip : Trip) (slot : ℕ) (o : Outcome) → slot < 16 → Sound o.tables → (k : ℕ)
    → TurnStands (object_at o.tables k) (object_at (turn_of trip slot o).tables k)
turn_turned trip slot o l z k =
    rw
    (turn_stored_lem trip slot o)
    (stored_all_lem
    TurnStands
    (λ x. (refl, λ u. refl))
    o.tables
    (trip_places trip slot)
    _
    z.sized
    (placed_trip trip slot l)
    (seen_turned trip slot (seen_of o.tables (trip_places trip slot)))
    k)

-- ---- so through all turns, and for every step, accepted or not

pub standing_after_step :
    (t : Tables) (step : Step) → Sound t → (k : ℕ)
    → Stands (commits step (seen_at t step)) (object_at t k) (object_at (step_of t step).tables k)
standing_after_step t step z k =
    let commit : Bool = commits step (seen_at t step) in
    sound_step_has
    t
    step
    z
    (λ n u. Stands commit (object_at t k) (object_at u k))
    (λ n o l y e. standing_after_turned commit (object_at t k) (object_at o.tables k) _ e (turn_turned (look_of step).trip n o l y k))
    (λ a. standing_after_head t step z k)
    (λ u. Stands commit (object_at t k) (object_at u k))
    (inl refl)
    (λ u e. e)
