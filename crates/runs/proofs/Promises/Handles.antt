-- An old handle reaches nobody: a slot's generation counts the accepted retires of the slot, and nothing else moves it. Assumes nothing.
use Rattle.std.specs.Prelude.{ℕ, ◌+◌, ◌%◌, ◌≤◌, ◌<◌, ◌≡◌, refl, ◌≢◌, Bool, true, false, cond, not, ◌&&◌, ◌||◌, List, [], ◌∷◌, ◌++◌, eqb, ltb}
use Rattle.std.proofs.Common.{arith, sym, ap, ◌∙◌, subst, ⊎_elim, eqb-true, eq-eqb, ne_eqb, ltb-false}
use Rattle.std.proofs.Math.Bool.{false≢true}
use Rattle.rules.specs.declared.looking.Trip.{Trip}
use Rattle.rules.specs.Loops.{one_if}
use Rattle.rules.specs.LoopsLaws.{either, or_left, or_right, not_false, and_right}
use Rattle.rules.specs.Tables.{start, passage_at, slot_of, generation_of, handle_of, free_slot, past_passage}
use Rattle.rules.specs.Answers.{is_accepted, answer_value}
use Rattle.rules.specs.AnswersLaws.{accepted_fine, accepted_value}
use Rattle.rules.specs.Parts.{is_free, is_active, aborted_passage}
use Rattle.rules.specs.Checks.{bad_site, bad_times}
use Rattle.rules.specs.Stations.{is_swept, swept_slot, loses_home, crashed_slot}
use Rattle.rules.specs.Passages.{begin_of, retire_of}
use Rattle.rules.specs.Machine.{look_of, places_of, seen_of, decide_of, stored, head_of, turn_of, turns_up_to, step_of, trip_places, turn_seen, found_of}
use Rattle.rules.specs.StoredLaws.{Sized, Storable, Placed, passage_after_stored, passage_after_stored_other, turn_stored_lem}
use Rattle.rules.proofs.RangesLaws.{placed_places, placed_trip}
use Rattle.rules.proofs.RefusedLaws.{refused_leaves}
use Rattle.rules.specs.Record.{row_of, is_named, flat_of}
use Rattle.rules.specs.Runs.{Started, Entry, run_of, entry_of, entries_of, history_of}
use Rattle.rules.proofs.Views.{Generation, Handle, home_generation, deed_of}
use Rattle.runs.specs.Types.{Passage, Tables, Step, Places, Seen, Outcome, Found}
use Rattle.runs.specs.Walk.Put.{same_or_other}
use Rattle.runs.proofs.Walk.Steps.{accepted_turned, head_accepted, run_on}
use Rattle.runs.proofs.Walk.Sound.{Sound, sound_started, sound_run, sound_step, sound_accepted_has}
use Rattle.runs.proofs.Walk.Plain.{repeat_has}
use Rattle.runs.specs.Orphans.Orphans.{retires}
use Rattle.runs.specs.Promises.Definitions.{retires_in, generation_at, names}

-- a generation after a step that is a retire of its slot, or is none: "255 is followed by 0"
abbrev moved_on : Bool → ℕ → ℕ
moved_on retire g = cond retire ((g + 1) % 256) g

-- ---- what a decision leaves of the generation

-- of its own slot: one more for a retire, else as it was; and it is a retire of no other slot
record MovesOn (slot : ℕ) (step : Step) (seen left : Seen) : Type 0 where
  own : left.passage.generation ≡ moved_on (retires slot step) seen.passage.generation
  other : (p : ℕ) → p ≢ slot → retires p step ≡ false

-- an accepted retire moves the generation of the slot that its handle names
retire_moves :
    (h : ℕ) (rest : Bool) (seen : Seen) → is_accepted (retire_of h rest seen).answer ≡ true
    → MovesOn (slot_of h) (Step.Retire h) seen (retire_of h rest seen).left
unfolding retire_of
retire_moves h rest seen e =
    record {
      own = rw (e, eq-eqb (slot_of h) (slot_of h) refl);
      other = λ p n. ne_eqb (slot_of h) p (λ q. n (sym q));
    }

seen_moves :
    (t : Tables) (step : Step) (found : Found) (seen : Seen) → Generation step
    → is_accepted (decide_of step found seen).answer ≡ true
    → MovesOn (places_of t (look_of step)).slot step seen (decide_of step found seen).left
unfolding places_of decide_of
seen_moves t _ found seen (Generation.Retires h) e = retire_moves h found.remains seen e
seen_moves t _ found seen (Generation.Stays step never stays) e =
    record { own = rw never (stays found seen); other = λ p n. rw never }

decided_moves :
    (t : Tables) (step : Step) (found : Found) (seen : Seen)
    → is_accepted (decide_of step found seen).answer ≡ true
    → MovesOn (places_of t (look_of step)).slot step seen (decide_of step found seen).left
decided_moves t step found seen = seen_moves t step found seen (deed_of step).generation

-- ---- steps

-- what holds of the generation of a store's own slot, and of every other, holds of all
stored_generation :
    (t : Tables) (at : Places) (left : Seen) → Sized t → Placed at → (f : ℕ → ℕ → ℕ)
    → left.passage.generation ≡ f at.slot (generation_at t at.slot)
    → ((p : ℕ) → p ≢ at.slot → generation_at t p ≡ f p (generation_at t p))
    → (p : ℕ)
    → generation_at (stored t at left) p ≡ f p (generation_at t p)
stored_generation t at left z h f own other p =
    ⊎_elim
    (λ (e : p ≡ at.slot). rw e (ap (λ (x : Passage). x.generation) (passage_after_stored t at left z h) ∙ own))
    (λ n. ap (λ (x : Passage). x.generation) (passage_after_stored_other t at left p n) ∙ other p n)
    (same_or_other p at.slot)

head_generation :
    (t : Tables) (step : Step) → Sound t → is_accepted (head_of t step).answer ≡ true → (p : ℕ)
    → generation_at (head_of t step).tables p ≡ moved_on (retires p step) (generation_at t p)
unfolding head_of
head_generation t step z e =
    let at : Places = places_of t (look_of step) in
    let m = decided_moves t step (found_of t at) (seen_of t at) e in
    stored_generation t at _ z.sized (placed_places t (look_of step)) (λ p. moved_on (retires p step)) m.own (λ p n. rw (m.other p n))

-- each slot of a sweep or a crash leaves the generation
turned_generation : (trip : Trip) (slot : ℕ) (seen : Seen) → (turn_seen trip slot seen).passage.generation ≡ seen.passage.generation
unfolding swept_slot crashed_slot
turned_generation Trip.Nowhere slot seen = refl
turned_generation (Trip.Sweep site) slot seen =
    ⊎_elim
    (λ e.
    rw
    e
    (home_generation (is_active seen.passage.status && eqb seen.passage.home site) (aborted_passage seen.passage) seen.passage _ refl refl))
    (λ e. rw e)
    (either (is_swept seen))
turned_generation (Trip.Crash site) slot seen = home_generation (loses_home site seen.passage) _ seen.passage _ refl refl

turn_generation :
    (trip : Trip) (slot : ℕ) (o : Outcome) → slot < 16 → Sound o.tables → (p : ℕ)
    → generation_at (turn_of trip slot o).tables p ≡ generation_at o.tables p
turn_generation trip slot o l z p =
    rw
    (turn_stored_lem trip slot o)
    (stored_generation o.tables (trip_places trip slot) _ z.sized (placed_trip trip slot l) (λ p g. g) (turned_generation trip slot _) (λ p n. refl) p)

-- an accepted step moves the generation of a slot by one if it is a retire of that slot, and by nothing else
pub generation_after_step :
    (t : Tables) (step : Step) → Sound t → is_accepted (step_of t step).answer ≡ true → (p : ℕ)
    → generation_at (step_of t step).tables p ≡ cond (retires p step) ((generation_at t p + 1) % 256) (generation_at t p)
generation_after_step t step z e p =
    sound_accepted_has
    t
    step
    z
    (λ n u. generation_at u p ≡ moved_on (retires p step) (generation_at t p))
    (λ n o l y k. turn_generation (look_of step).trip n o l y p ∙ k)
    (λ a. head_generation t step z a p)
    e

-- ---- runs

-- an accepted step has an entry, a refused one none
counted_entry :
    (t : Tables) (step : Step) (p : ℕ) (es : List Entry) (b : Bool) → is_accepted (step_of t step).answer ≡ b
    → retires_in p (entries_of t step ++ es) ≡ retires_in p (cond b (entry_of t step ∷ []) [] ++ es)
counted_entry t step p es b e = ap (λ (x : Bool). retires_in p (cond x (entry_of t step ∷ []) [] ++ es)) e

-- what one step adds to the count
generation_counted :
    (t : Tables) (step : Step) (p : ℕ) (es : List Entry) → Sound t → generation_at t p < 256
    → (generation_at (step_of t step).tables p < 256)
    × ((generation_at (step_of t step).tables p + retires_in p es) % 256 ≡ (generation_at t p + retires_in p (entries_of t step ++ es)) % 256)
unfolding retires_in
generation_counted t step p es z l =
    ⊎_elim
    (λ e. rw (counted_entry t step p es true e, generation_after_step t step z e p) (counted (retires p step)))
    (λ e. rw (counted_entry t step p es false e, refused_leaves t step e) (l, refl))
    (either (is_accepted (step_of t step).answer))
  where
    counted :
        (b : Bool)
        → (cond b ((generation_at t p + 1) % 256) (generation_at t p) < 256)
        × ((cond b ((generation_at t p + 1) % 256) (generation_at t p) + retires_in p es) % 256 ≡ (generation_at t p + (one_if b + retires_in p es)) % 256)
    counted true = (omega arith, omega arith)
    counted false = (l, omega arith)

generation_from :
    (t : Tables) (ss : List Step) (p : ℕ) → Sound t → generation_at t p < 256
    → (generation_at (run_of t ss) p < 256)
    × (generation_at (run_of t ss) p ≡ (generation_at t p + retires_in p (history_of t ss)) % 256)
unfolding run_of history_of retires_in
generation_from t [] p z l = (l, omega arith)
generation_from t (s ∷ ss) p z l =
    let c = generation_counted t s p (history_of (step_of t s).tables ss) z l in
    let k = generation_from (step_of t s).tables ss p (sound_step t s z) c.0 in
    (k.0, k.1 ∙ c.1)

generation_start_below : (p : ℕ) → generation_at start p < 256
unfolding start
generation_start_below = repeat_has (λ (x : Passage). x.generation < 256) 16 (free_slot 0) past_passage (omega arith) (omega arith)

-- in every run a generation is one byte
pub generation_below : {t₀ : Tables} → Started t₀ → (ss : List Step) (p : ℕ) → generation_at (run_of t₀ ss) p < 256
generation_below {t₀} fresh ss p = (generation_from t₀ ss p (sound_started fresh) (rw fresh.empty (generation_start_below p))).0

-- so what holds of tables that a program can hold holds of those of every run
pub storable_run : {t₀ : Tables} → Started t₀ → (ss : List Step) → Storable (run_of t₀ ss)
storable_run fresh ss =
    record { sized = (sound_run fresh ss).sized; generations = λ p. let g : generation_at (run_of _ ss) p < 256 = generation_below fresh ss p in omega arith }

-- the generation counts the accepted retires: what a run adds is their number, and 255 is followed by 0
pub generation_counts_retires :
    {t₀ : Tables} → Started t₀ → (before after : List Step) (p : ℕ)
    → generation_at (run_of t₀ (before ++ after)) p
    ≡ (generation_at (run_of t₀ before) p + retires_in p (history_of (run_of t₀ before) after)) % 256
generation_counts_retires {t₀} fresh before after p =
    ap (λ (t : Tables). generation_at t p) (run_on t₀ before after)
    ∙ (generation_from (run_of t₀ before) after p (sound_run fresh before) (generation_below fresh before p)).1

-- ---- handles

-- a step that names a handle is refused where the slot has another generation
module _ (t : Tables) (h : ℕ) (old : generation_at t (slot_of h) ≢ generation_of h) where
  -- refusal 3 is the second that each of these steps tries
  told_apart :
      (g : ℕ) → eqb g h ≡ true
      → (is_free (passage_at t (slot_of g)).status || not (eqb (generation_at t (slot_of g)) (generation_of g))) ≡ false
      → ⊥
  told_apart g e f =
      let q : g ≡ h = eqb-true g h e in
      old (subst (λ (x : ℕ). generation_at t (slot_of x) ≡ generation_of x) q (eqb-true _ _ (not_false _ (or_right (is_free (passage_at t (slot_of g)).status) _ f))))

  named_apart :
      (step : Step) (found : Found) → Handle step → names h step ≡ true
      → is_accepted (decide_of step found (seen_of t (places_of t (look_of step)))).answer ≡ true
      → ⊥
  unfolding places_of
  named_apart _ found (Handle.Named step slot names-it) e a =
      let f = names-it found (seen_of t (places_of t (look_of step))) a in
      told_apart (flat_of step).h (and_right (is_named (row_of (flat_of step).code) 8) (eqb (flat_of step).h h) e) (rw slot at f)
  named_apart _ found (Handle.Nameless step none) e a = false≢true (rw none at e)

  decided_apart :
      (step : Step) → names h step ≡ true
      → is_accepted (decide_of step (found_of t (places_of t (look_of step))) (seen_of t (places_of t (look_of step)))).answer ≡ true
      → ⊥
  decided_apart step = named_apart step _ (deed_of step).handle

  head_apart : (step : Step) → names h step ≡ true → is_accepted (head_of t step).answer ≡ true → ⊥
  unfolding head_of
  head_apart step e a = decided_apart step e a

  pub other_generation_refused : (step : Step) → names h step ≡ true → is_accepted (step_of t step).answer ≡ false
  other_generation_refused step e =
      ⊎_elim
      (λ a. absurd (head_apart step e (head_accepted t step a)))
      (λ a. a)
      (either (is_accepted (step_of t step).answer))

-- An old handle reaches nobody: once its passage has been retired, and until its slot has been retired 256 times, every step that names it is refused
pub old_handle_reaches_nobody :
    {t₀ : Tables} → Started t₀ → (before after : List Step) (h : ℕ) → generation_of h ≡ generation_at (run_of t₀ before) (slot_of h)
    → 1 ≤ retires_in (slot_of h) (history_of (run_of t₀ before) after)
    → retires_in (slot_of h) (history_of (run_of t₀ before) after) ≤ 255
    → (step : Step)
    → names h step ≡ true
    → is_accepted (step_of (run_of t₀ (before ++ after)) step).answer ≡ false
old_handle_reaches_nobody {t₀} fresh before after h e least most =
    other_generation_refused
    (run_of t₀ (before ++ after))
    h
    (λ q.
    apart
    (generation_at (run_of t₀ before) (slot_of h))
    (retires_in (slot_of h) (history_of (run_of t₀ before) after))
    (generation_below fresh before (slot_of h))
    least
    most
    (sym (generation_counts_retires fresh before after (slot_of h)) ∙ q ∙ e))
  where
    apart : (g n : ℕ) → g < 256 → 1 ≤ n → n ≤ 255 → (g + n) % 256 ≢ g
    apart g n l i j q = let y : (g + n) % 256 ≡ g = q in omega arith

-- "A handle held through 256 reuses of its slot is valid again": the generation is then the same
pub generation_comes_round :
    {t₀ : Tables} → Started t₀ → (before after : List Step) (p : ℕ) → retires_in p (history_of (run_of t₀ before) after) ≡ 256
    → generation_at (run_of t₀ (before ++ after)) p ≡ generation_at (run_of t₀ before) p
generation_comes_round {t₀} fresh before after p e =
    let l : generation_at (run_of t₀ before) p < 256 = generation_below fresh before p in
    generation_counts_retires fresh before after p
    ∙ (rw e (omega arith))

-- ---- begin

begun_handle :
    (t : Tables) (home slot q r : ℕ) → is_accepted (head_of t (Step.Begin home slot q r)).answer ≡ true
    → (slot < 16) × (answer_value (head_of t (Step.Begin home slot q r)).answer ≡ handle_of slot (generation_at t (slot_of slot)))
unfolding head_of places_of decide_of begin_of
begun_handle t home slot q r a =
    let l : slot ≤ 15 =
    ltb-false 15 slot (or_right (bad_site home) _ (or_left (bad_site home || ltb 15 slot) (bad_times q r) (accepted_fine _ _ a).fields)) in
    (omega arith, ap answer_value (accepted_value _ _ a))

-- a begin makes no turn
accepted_begun :
    (t : Tables) (home slot q r : ℕ) → is_accepted (step_of t (Step.Begin home slot q r)).answer ≡ true
    → step_of t (Step.Begin home slot q r) ≡ head_of t (Step.Begin home slot q r)
unfolding turns_up_to
accepted_begun t home slot q r a = accepted_turned t (Step.Begin home slot q r) a

-- the handle that an accepted begin gives names its slot, with the generation that the slot has
pub handle_of_begin :
    (t : Tables) (home slot q r : ℕ) → is_accepted (step_of t (Step.Begin home slot q r)).answer ≡ true
    → (slot_of (answer_value (step_of t (Step.Begin home slot q r)).answer) ≡ slot)
    × (generation_of (answer_value (step_of t (Step.Begin home slot q r)).answer) ≡ generation_at t slot)
handle_of_begin t home slot q r a =
    let k = begun_handle t home slot q r (head_accepted t (Step.Begin home slot q r) a) in
    let l : slot < 16 = k.0 in
    let y : slot_of slot ≡ slot = omega arith in
    rw (accepted_begun t home slot q r a, k.1, y) (omega arith, omega arith)
