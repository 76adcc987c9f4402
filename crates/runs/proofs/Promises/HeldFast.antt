-- An object is let go only with its visit: what a station has promised, with the figures that the passage holds there, stays until home's word.
-- Assumes nothing.
use Rattle.std.specs.Prelude.{ℕ, ◌+◌, ◌*◌, ◌/◌, ◌%◌, ◌<◌, ◌≡◌, ◌⊎◌, true, false, List, [], ◌∷◌, ◌++◌, get_or}
use Rattle.std.proofs.Common.{arith, sym, ap, ◌∙◌, subst₂, inl, inr, true≢false, get_or-set_same, get_or-set_other}
use Rattle.std.proofs.Math.Path.{refl}
use Rattle.std.proofs.Math.Logic.{⊎_elim}
use Rattle.rules.specs.declared.tables.Object.{Object}
use Rattle.rules.specs.declared.looking.Trip.{Trip}
use Rattle.rules.specs.Types.{Check}
use Rattle.rules.specs.LoopsLaws.{either, cond_keeps, and_left, not_false}
use Rattle.rules.specs.Tables.{past_object, site_at, passage_at, visit_at, bank_at, object_site, slot_of}
use Rattle.rules.specs.Answers.{first_refusal, settle_of}
use Rattle.rules.specs.Parts.{next_clock, is_held_by, taken, operated, freed, restored, each_of, told_visit, told_objects}
use Rattle.rules.proofs.PartsLaws.{taken_held, LetsGoOf, freed_lets_go, restored_lets_go, let_go_other}
use Rattle.rules.specs.Stations.{is_swept, swept_slot, crashed_slot}
use Rattle.rules.specs.Rounds.{round_told, closed, close_of}
use Rattle.rules.specs.Calls.{mail_slot, called_object, called, deliver_call_of, deliver_phase_one_of, deliver_phase_two_of, deliver_body_of}
use Rattle.rules.specs.Machine.{look_of, places_of, seen_of, body_bank, decide_of, stored, head_of, turn_of, step_of, trip_places, turn_seen}
use Rattle.rules.specs.StoredLaws.{Sized, Placed, visit_after_stored, turn_stored_lem}
use Rattle.rules.proofs.RangesLaws.{placed_places, placed_trip}
use Rattle.rules.specs.Runs.{Started, run_of}
use Rattle.rules.specs.Events.{is_holding}
use Rattle.rules.proofs.StoredObjects.{seen_object_at, object_after_stored, object_after_stored_other, each_at}
use Rattle.rules.proofs.Views.{settled, Objects, Mail, mail_deed, deed_of}
use Rattle.runs.specs.Types.{Visit, Call, Told, Body, Tables, Step, Places, Seen, Outcome, Found}
use Rattle.runs.specs.Walk.Put.{same_or_other}
use Rattle.runs.proofs.Walk.Steps.{run_on}
use Rattle.runs.proofs.Walk.Sound.{Sound, sound_run, sound_step, sound_step_has}
use Rattle.runs.proofs.Promises.Promised.{stored_has, promised_after_step}
use Rattle.runs.specs.Promises.Definitions.{Promised, is_word, ThereThrough}

-- ---- what a decision leaves of the objects that it saw

-- who held one holds it, or is the step's own slot, whose visit at that site was there and is gone
record Fast (t : Tables) (at : Places) (left : Seen) : Type 0 where
  holds :
      (i q : ℕ) → i < 4 → is_held_by q (get_or (bank_at t at.bank) i past_object) ≡ true
      → (is_held_by q (get_or left.objects i past_object) ≡ true)
      ⊎ ((q ≡ at.slot) × ((at.bank ≡ at.site) × (((visit_at t at.site at.slot).there ≡ true) × (left.visit.there ≡ false))))

module _ (t : Tables) (at : Places) where
  fast_after_same : (left : Seen) → left.objects ≡ bank_at t at.bank → Fast t at left
  fast_after_same left o = record { holds = λ i q l e. inl (rw o e) }

  fast_after_settled :
      (cs : List Check) (v : ℕ) (left : Seen) → Fast t at left
      → Fast t at (settle_of (record { answer = first_refusal cs v; left = left }) (seen_of t at)).left
  fast_after_settled cs v left f =
      settled (Fast t at) cs v (seen_of t at) left (λ g. f) (fast_after_same (seen_of t at) refl)

  -- the visit goes, and lets go of what it held at its site; who else holds an object there keeps it
  let_go_fast :
      (f : Object → Object) (left : Seen) → LetsGoOf at.slot f
      → left.objects ≡ each_of f (bank_at t at.bank)
      → at.bank ≡ at.site
      → (visit_at t at.site at.slot).there ≡ true
      → left.visit.there ≡ false
      → Fast t at left
  let_go_fast f left law o b was gone =
      record {
        holds =
            λ i q l e.
            ⊎_elim
            (λ y. inr (y, (b, (was, gone))))
            (λ n.
            inl
            (ap (λ (os : List Object). is_held_by q (get_or os i past_object)) o
            ∙ ap (is_held_by q) (each_at f (bank_at t at.bank) i l)
            ∙ let_go_other at.slot q f law (get_or (bank_at t at.bank) i past_object) e n))
            (same_or_other q at.slot);
      }

  -- a phase 2 part
  fast_after_told :
      (told : Told) (left : Seen) → left.visit ≡ told_visit told (visit_at t at.site at.slot)
      → left.objects ≡ told_objects told at.slot (bank_at t at.bank)
      → at.bank ≡ at.site
      → (visit_at t at.site at.slot).there ≡ true
      → Fast t at left
  fast_after_told (Told.Refresh q) left v o b was = fast_after_same left o
  fast_after_told (Told.Terminate m) left v o b was = fast_after_same left o
  fast_after_told Told.Prepare left v o b was = let_go_fast (freed at.slot) left (freed_lets_go at.slot) o b was (ap (λ (x : Visit). x.there) v)

  -- a close does it where the home visit is there
  fast_after_closed : (told : Told) (clock : ℕ) → at.bank ≡ at.site → Fast t at (closed told at.slot clock (seen_of t at))
  fast_after_closed told clock b =
      ⊎_elim
      (λ e. fast_after_told told _ (rw e) (rw e) b e)
      (λ e. fast_after_same (closed told at.slot clock (seen_of t at)) (rw e))
      (either (visit_at t at.site at.slot).there)

  fast_after_close : (h : ℕ) → slot_of h ≡ at.slot → at.bank ≡ at.site → Fast t at (close_of h (seen_of t at)).left
  unfolding close_of
  fast_after_close h s b =
      fast_after_settled _ _ _ (rw s (fast_after_closed (round_told (passage_at t at.slot).round) (next_clock (site_at t at.site)) b))

  -- a delivered call changes one object, and not who holds it
  fast_after_called : (c : Call) (clock : ℕ) → Fast t at (called c clock (seen_of t at))
  fast_after_called c clock =
      record {
        holds =
            λ i q l e.
            ⊎_elim
            (λ (y : i ≡ c.object % 4).
            inl
            (rw
            (y, get_or-set_same (bank_at t at.bank) (c.object % 4) (operated c (taken (mail_slot (seen_of t at)) (called_object c (seen_of t at)))) past_object (omega arith))
            (taken_held (mail_slot (seen_of t at)) (called_object c (seen_of t at)) q c (rw y at e))))
            (λ n. inl (ap (is_held_by q) (get_or-set_other (bank_at t at.bank) (c.object % 4) i _ past_object n) ∙ e))
            (same_or_other i (c.object % 4));
      }

  fast_after_mail :
      (body : Body) (m : ℕ) → Mail body → at.slot ≡ mail_slot (seen_of t at) → at.bank ≡ body_bank body at.site
      → Fast t at (deliver_body_of body m (seen_of t at)).left
  unfolding deliver_body_of deliver_call_of deliver_phase_one_of deliver_phase_two_of
  fast_after_mail _ m (Mail.Calls c) s b = fast_after_settled _ _ _ (fast_after_called c _)
  fast_after_mail _ m (Mail.Asks n asked) s b = fast_after_settled _ _ _ (fast_after_same _ refl)
  fast_after_mail _ m (Mail.Tells n told) s b =
      settled
      (Fast t at)
      _
      _
      (seen_of t at)
      _
      (λ g. fast_after_told told _ refl (rw s) b (not_false _ g.there))
      (fast_after_same (seen_of t at) refl)
  fast_after_mail _ m (Mail.Quiet body objects visit) s b = fast_after_same _ (objects m (seen_of t at))

  -- one slot of a sweep, and one of a crash
  fast_after_turned : (trip : Trip) → at.bank ≡ at.site → Fast t at (turn_seen trip at.slot (seen_of t at))
  unfolding swept_slot crashed_slot
  fast_after_turned Trip.Nowhere b = fast_after_same (seen_of t at) refl
  fast_after_turned (Trip.Sweep site) b =
      ⊎_elim
      (λ e. rw e (let_go_fast (restored at.slot) _ (restored_lets_go at.slot) refl b (and_left _ _ (and_left _ _ e)) refl))
      (λ e. rw e (fast_after_same (seen_of t at) refl))
      (either (is_swept (seen_of t at)))
  fast_after_turned (Trip.Crash site) b = fast_after_same (crashed_slot site at.slot (seen_of t at)) refl

-- neither a sweep nor a crash makes a visit
turned_gone : (trip : Trip) (n : ℕ) (seen : Seen) → seen.visit.there ≡ false → (turn_seen trip n seen).visit.there ≡ false
unfolding swept_slot crashed_slot
turned_gone Trip.Nowhere n seen e = e
turned_gone (Trip.Sweep site) n seen e = cond_keeps (λ (x : Seen). x.visit.there ≡ false) (is_swept seen) _ seen refl e
turned_gone (Trip.Crash site) n seen e = rw e

fast_after_seen :
    (t : Tables) (step : Step) (found : Found) → Objects step
    → Fast t (places_of t (look_of step)) (decide_of step found (seen_of t (places_of t (look_of step)))).left
unfolding places_of decide_of
fast_after_seen t _ found (Objects.Closes h) = fast_after_close t _ h refl refl
fast_after_seen t _ found (Objects.Delivers m) = fast_after_mail t _ _ m (mail_deed _) refl refl
fast_after_seen t _ found (Objects.Stay step c d stay) = fast_after_same t _ _ (stay found (seen_of t (places_of t (look_of step))))

fast_after_decided :
    (t : Tables) (step : Step) (found : Found)
    → Fast t (places_of t (look_of step)) (decide_of step found (seen_of t (places_of t (look_of step)))).left
fast_after_decided t step found = fast_after_seen t step found (deed_of step).objects

-- ---- steps, for one object and the slot that held it

module _ (k p : ℕ) (slot : p < 16) where
  -- p holds the object, or has no visit at its site
  abbrev pub HeldOrGone : Tables → Type 0
  HeldOrGone t = (is_holding t p k ≡ true) ⊎ ((visit_at t (object_site k) p).there ≡ false)

  -- p holds the object after, or had a visit at its site before and has none after
  abbrev pub HeldOrLeft : Tables → Tables → Type 0
  HeldOrLeft t u = (is_holding u p k ≡ true) ⊎ (((visit_at t (object_site k) p).there ≡ true) × ((visit_at u (object_site k) p).there ≡ false))

  held_or_gone : (t u : Tables) → HeldOrLeft t u → HeldOrGone u
  held_or_gone t u = ⊎_elim (λ e. inl e) (λ x. inr x.1)

  fast_after_stored :
      (t : Tables) (at : Places) (left : Seen) → Sized t → Placed at → Fast t at left → is_holding t p k ≡ true
      → HeldOrLeft t (stored t at left)
  fast_after_stored t at left z h f e =
      ⊎_elim
      (λ (b : object_site k ≡ at.bank).
      let q : k / 4 ≡ at.bank = b in
      let y : 4 * at.bank + k % 4 ≡ k = omega arith in
      ⊎_elim
      (λ x. inl (ap (is_held_by p) (object_after_stored t at left z h k b) ∙ x))
      (λ x. inr (rw (b ∙ x.1.0, x.0, visit_after_stored t at left z h) x.1.1))
      (f.holds (k % 4) p (omega arith) (ap (is_held_by p) (seen_object_at t at.bank (k % 4) (omega arith)) ∙ (rw y e))))
      (λ n. inl (ap (is_held_by p) (object_after_stored_other t at left k n) ∙ e))
      (same_or_other (object_site k) at.bank)

  -- one turn of a sweep or a crash
  pub left_after_turn :
      (trip : Trip) (n : ℕ) (o : Outcome) → n < 16 → Sound o.tables → is_holding o.tables p k ≡ true
      → HeldOrLeft o.tables (turn_of trip n o).tables
  left_after_turn trip n o l z e =
      let at : Places = trip_places trip n in
      rw
      (turn_stored_lem trip n o)
      (fast_after_stored o.tables at _ z.sized (placed_trip trip n l) (fast_after_turned o.tables at trip refl) e)

  -- neither makes a visit
  pub gone_after_turn :
      (trip : Trip) (n : ℕ) (o : Outcome) → n < 16 → Sound o.tables → (visit_at o.tables (object_site k) p).there ≡ false
      → (visit_at (turn_of trip n o).tables (object_site k) p).there ≡ false
  gone_after_turn trip n o l z e =
      let at : Places = trip_places trip n in
      rw
      (turn_stored_lem trip n o)
      (stored_has (λ v. v.there ≡ false) o.tables at _ z.sized (placed_trip trip n l) (object_site k) p slot
      (λ a b. turned_gone trip n (seen_of o.tables at) (subst₂ (λ (x y : ℕ). (visit_at o.tables x y).there ≡ false) a b e))
      e)

  fast_after_turn :
      (trip : Trip) (n : ℕ) (o : Outcome) → n < 16 → Sound o.tables → HeldOrGone o.tables
      → HeldOrGone (turn_of trip n o).tables
  fast_after_turn trip n o l z =
      ⊎_elim
      (λ e. held_or_gone o.tables (turn_of trip n o).tables (left_after_turn trip n o l z e))
      (λ e. inr (gone_after_turn trip n o l z e))

  -- a step's own store
  pub left_after_head : (t : Tables) (step : Step) → Sound t → is_holding t p k ≡ true → HeldOrLeft t (head_of t step).tables
  unfolding head_of
  left_after_head t step z e = fast_after_stored t (places_of t (look_of step)) _ z.sized (placed_places t (look_of step)) (fast_after_decided t step _) e

  -- in any tables: after every step the slot that held the object holds it, or has no visit at its site
  pub let_go_with_visit :
      (t : Tables) (step : Step) → Sound t → is_holding t p k ≡ true
      → (is_holding (step_of t step).tables p k ≡ true)
      ⊎ ((visit_at (step_of t step).tables (object_site k) p).there ≡ false)
  let_go_with_visit t step z e =
      sound_step_has
      t
      step
      z
      (λ n u. HeldOrGone u)
      (fast_after_turn (look_of step).trip)
      (λ a. held_or_gone t (head_of t step).tables (left_after_head t step z e))
      HeldOrGone
      (inl e)
      (λ u y. y)

-- ---- runs

-- What a station has promised it keeps: in every run, an object that a passage holds where its visit is prepared
-- is held by it after every step that is no word of home to that visit
pub promised_object_held :
    {t₀ : Tables} → Started t₀ → (ss : List Step) (step : Step) (k p : ℕ) → p < 16 → Promised (run_of t₀ ss) (object_site k) p
    → is_holding (run_of t₀ ss) p k ≡ true
    → is_word (run_of t₀ ss) (object_site k) p step ≡ false
    → is_holding (step_of (run_of t₀ ss) step).tables p k ≡ true
promised_object_held {t₀} fresh ss step k p slot promised held f =
    ⊎_elim
    (λ e. e)
    (λ gone. absurd (true≢false (sym (promised_after_step (object_site k) p slot (run_of t₀ ss) step (sound_run fresh ss) promised f) ∙ gone)))
    (let_go_with_visit k p slot (run_of t₀ ss) step (sound_run fresh ss) held)

held_through :
    (t : Tables) (ss : List Step) (k p : ℕ) → p < 16 → Sound t → is_holding t p k ≡ true
    → ThereThrough t (object_site k) p ss
    → is_holding (run_of t ss) p k ≡ true
unfolding run_of ThereThrough
held_through t [] k p slot z held there = held
held_through t (x ∷ xs) k p slot z held there =
    held_through
    (step_of t x).tables
    xs
    k
    p
    slot
    (sound_step t x z)
    (⊎_elim (λ e. e) (λ gone. absurd (true≢false (sym there.0 ∙ gone))) (let_go_with_visit k p slot t x z held))
    there.1

-- an object that a passage holds is held by it as long as its visit at the object's site is there
pub object_held_while_visit_there :
    {t₀ : Tables} → Started t₀ → (before after : List Step) (k p : ℕ) → p < 16 → is_holding (run_of t₀ before) p k ≡ true
    → ThereThrough (run_of t₀ before) (object_site k) p after
    → is_holding (run_of t₀ (before ++ after)) p k ≡ true
object_held_while_visit_there {t₀} fresh before after k p slot held there =
    rw (run_on t₀ before after) (held_through (run_of t₀ before) after k p slot (sound_run fresh before) held there)
