-- A station that has promised keeps its promise until home's word: a prepared visit goes by the close of its commit round at home,
-- or by the delivery there of a commit's phase 2 for its slot, and by no other step; no sweep, crash, abort or retire takes it. Assumes nothing.
use Rattle.std.specs.Prelude.{ℕ, ◌%◌, ◌<◌, ◌≡◌, refl, ◌≢◌, ◌⊎◌, Bool, true, false, not, ◌&&◌, ◌||◌, List, eqb, leb}
use Rattle.std.proofs.Common.{sym, ap, ◌∙◌, subst₂, ⊎_elim, inl, inr, true≢false, eq-eqb}
use Rattle.rules.specs.declared.looking.Trip.{Trip}
use Rattle.rules.specs.Types.{Check}
use Rattle.rules.specs.LoopsLaws.{either, cond_keeps}
use Rattle.rules.specs.Tables.{passage_at, visit_at, message_at, slot_of}
use Rattle.rules.specs.Answers.{is_accepted, first_refusal, settle_of}
use Rattle.rules.specs.Parts.{where_there, told_of, told_visit}
use Rattle.rules.specs.Stations.{sweep_of, swept_slot, loses_home, crashed_slot}
use Rattle.rules.specs.Passages.{begin_of, abort_of}
use Rattle.rules.specs.Rounds.{open_of, terminate_of, prepare_of, close_of}
use Rattle.rules.specs.Calls.{deliver_call_of, deliver_phase_one_of, deliver_phase_two_of, deliver_body_of}
use Rattle.rules.specs.Machine.{look_of, places_of, seen_of, decide_of, stored, head_of, turn_of, step_of, trip_places, turn_seen}
use Rattle.rules.specs.StoredLaws.{Sized, Placed, visit_place_same, visit_after_stored, visit_after_stored_other, turn_stored_lem}
use Rattle.rules.proofs.RangesLaws.{placed_places, placed_trip}
use Rattle.rules.proofs.RefusedLaws.{refused_leaves}
use Rattle.rules.specs.Runs.{Started, run_of}
use Rattle.rules.proofs.Views.{settled, Marks, Mail, mail_deed, Goes, deed_of}
use Rattle.runs.specs.Types.{Kind, Visit, Told, Body, Tables, Step, Places, Seen, Outcome, Found}
use Rattle.runs.specs.Walk.Says.{is_prepare, tells_prepare, carries_commit}
use Rattle.runs.specs.Walk.Put.{same_or_other}
use Rattle.runs.specs.Walk.Seen.{places_at, seen_at}
use Rattle.runs.proofs.Kept.Times.{asked_says}
use Rattle.runs.proofs.Walk.Sound.{Sound, sound_run, sound_step_has}
use Rattle.runs.specs.Promises.Definitions.{Promised, is_word}

-- ---- what a decision leaves of its visit

-- what is kept of a promised visit on a step's way: a sweep looks at the mark again, slot by slot
abbrev Firm : Trip → Visit → Type 0
Firm Trip.Nowhere v = v.there ≡ true
Firm (Trip.Sweep site) v = (v.there ≡ true) × (v.prepared ≡ true)
Firm (Trip.Crash site) v = v.there ≡ true

firm : (trip : Trip) (v : Visit) → v.there ≡ true → v.prepared ≡ true → Firm trip v
firm Trip.Nowhere v e f = e
firm (Trip.Sweep site) v e f = (e, f)
firm (Trip.Crash site) v e f = e

firm_there : (trip : Trip) (v : Visit) → Firm trip v → v.there ≡ true
firm_there Trip.Nowhere v e = e
firm_there (Trip.Sweep site) v e = e.0
firm_there (Trip.Crash site) v e = e

-- the visit is there
abbrev pub There : Seen → Type 0
There s = s.visit.there ≡ true

-- a decision leaves what was decided, or what was seen
there_after_settled :
    (cs : List Check) (v : ℕ) (seen left : Seen) → There left → There seen
    → There (settle_of (record { answer = first_refusal cs v; left = left }) seen).left
there_after_settled cs v seen left e = settled There cs v seen left (λ g. e)

-- a rule that changes a visit and leaves it there
there_after_change : (v changed : Visit) → v.there ≡ true → changed.there ≡ true → (where_there v changed).there ≡ true
there_after_change v changed e f = rw e f

-- phase 2 of a round that is no commit round leaves the visit there
closed_there : (k : Kind) (m : ℕ) (v : Visit) → v.there ≡ true → is_prepare k ≡ false → (told_visit (told_of k m) v).there ≡ true
closed_there Kind.None m v e f = e
closed_there (Kind.Refresh q r) m v e f = e
closed_there Kind.Terminate m v e f = e
closed_there Kind.Prepare m v e f = absurd (true≢false f)

-- and so does a phase 2 message that is no commit's
told_there : (told : Told) (v : Visit) → v.there ≡ true → tells_prepare told ≡ false → (told_visit told v).there ≡ true
told_there (Told.Refresh q) v e f = e
told_there (Told.Terminate m) v e f = e
told_there Told.Prepare v e f = absurd (true≢false f)

-- and so does every message that is no word of a commit
mail_there :
    (body : Body) (m : ℕ) (seen : Seen) → Mail body → seen.visit.there ≡ true → carries_commit body ≡ false
    → (deliver_body_of body m seen).left.visit.there ≡ true
unfolding deliver_body_of deliver_call_of deliver_phase_one_of deliver_phase_two_of
mail_there _ m seen (Mail.Calls c) e f =
    there_after_settled _ _ seen _ (cond_keeps (λ (v : Visit). v.there ≡ true) seen.visit.there seen.visit _ e refl) e
mail_there _ m seen (Mail.Asks n asked) e f =
    there_after_settled _ _ seen _ ((asked_says asked n _ seen.visit).there ∙ e) e
mail_there _ m seen (Mail.Tells n told) e f = there_after_settled _ _ seen _ (told_there told seen.visit e f) e
mail_there _ m seen (Mail.Quiet body objects visit) e f = ap (λ (v : Visit). v.there) (visit m seen) ∙ e

-- at its own slot and site, a step that is no word
pub word_here : (a b : ℕ) (c : Bool) → (eqb a a && eqb b b && c) ≡ false → c ≡ false
word_here a b c f = rw (eq-eqb a a refl, eq-eqb b b refl) at f

-- a step's own store leaves a visit there, unless it is home's word to it
pub there_after_marked :
    (t : Tables) (step : Step) (found : Found) → Marks step → (visit_at t (places_at t step).site (places_at t step).slot).there ≡ true
    → is_word t (places_at t step).site (places_at t step).slot step ≡ false
    → There (decide_of step found (seen_at t step)).left
unfolding places_of decide_of begin_of abort_of terminate_of prepare_of open_of close_of
there_after_marked t _ found (Marks.Begins home slot q r) e f = there_after_settled _ _ _ _ refl e
there_after_marked t _ found (Marks.Terminates h) e f = there_after_settled _ _ _ _ e e
there_after_marked t _ found (Marks.Prepares h) e f = there_after_settled _ _ _ _ e e
there_after_marked t _ found (Marks.Closes h) e f =
    let kind : Kind = (passage_at t (slot_of h)).round.kind in
    there_after_settled
    _
    _
    _
    _
    (there_after_change _ _ e (closed_there kind _ _ e (word_here (slot_of h) ((passage_at t (slot_of h)).home % 8) _ f)))
    e
there_after_marked t _ found (Marks.Aborts h) e f = there_after_settled _ _ _ _ (there_after_change _ _ e e) e
there_after_marked t _ found (Marks.Delivers m) e f =
    mail_there
    (message_at t (m % 32)).body
    m
    _
    (mail_deed (message_at t (m % 32)).body)
    e
    (word_here (slot_of (message_at t (m % 32)).handle) ((message_at t (m % 32)).destination % 8) _ f)
there_after_marked t _ found (Marks.Stay step there prepared) e f = there found (seen_at t step) ∙ e

-- what a step leaves there, and prepared where it goes on to sweep
firm_after_going :
    (t : Tables) (step : Step) (found : Found) → Goes step → Promised t (places_at t step).site (places_at t step).slot
    → is_word t (places_at t step).site (places_at t step).slot step ≡ false
    → Firm (look_of step).trip (decide_of step found (seen_at t step)).left.visit
unfolding decide_of sweep_of
firm_after_going t _ found (Goes.Sweeps site) k f =
    settled (λ (x : Seen). Firm (Trip.Sweep site) x.visit) _ _ (seen_at t (Step.Sweep site)) _ (λ g. (k.there, k.prepared)) (k.there, k.prepared)
firm_after_going t _ found (Goes.Crashes site) k f = there_after_marked t (Step.Crash site) found (deed_of (Step.Crash site)).marks k.there f
firm_after_going t _ found (Goes.Nowhere step n) k f = rw n (there_after_marked t step found (deed_of step).marks k.there f)

firm_after_decided :
    (t : Tables) (step : Step) (found : Found) → Promised t (places_of t (look_of step)).site (places_of t (look_of step)).slot
    → is_word t (places_of t (look_of step)).site (places_of t (look_of step)).slot step ≡ false
    → Firm (look_of step).trip (decide_of step found (seen_of t (places_of t (look_of step)))).left.visit
firm_after_decided t step found = firm_after_going t step found (deed_of step).goes

-- ---- what one slot of a sweep or of a crash leaves of its visit

-- a sweep leaves a prepared visit as it is
pub prepared_not_swept : (site n : ℕ) (seen : Seen) → seen.visit.prepared ≡ true → (swept_slot site n seen).visit ≡ seen.visit
unfolding swept_slot
prepared_not_swept site n seen e = rw (unswept seen.visit.there)
  where
    unswept : (b : Bool) → (b && not seen.visit.prepared && leb seen.visit.release seen.site.clock) ≡ false
    unswept true = rw e
    unswept false = refl

-- a crash leaves every visit there
pub there_after_crashed : (site n : ℕ) (seen : Seen) → There seen → There (crashed_slot site n seen)
unfolding crashed_slot
there_after_crashed site n seen e =
    there_after_change
    seen.visit
    _
    e
    (cond_keeps (λ (v : Visit). v.there ≡ true) (loses_home site seen.passage || not seen.visit.prepared) _ seen.visit e e)

-- what is kept on the way is kept by each slot
firm_after_turned : (trip : Trip) (n : ℕ) (seen : Seen) → Firm trip seen.visit → Firm trip (turn_seen trip n seen).visit
unfolding crashed_slot
firm_after_turned Trip.Nowhere n seen k = k
firm_after_turned (Trip.Sweep site) n seen k = rw (prepared_not_swept site n seen k.1) k
firm_after_turned (Trip.Crash site) n seen k = there_after_crashed site n seen k

-- ---- steps, for the visit of one slot at one site

-- what holds of the visit that a store leaves in its own place, and of every other, holds of all
pub stored_has :
    (P : Visit → Type 0) (t : Tables) (at : Places) (left : Seen) → Sized t → Placed at → (s p : ℕ) → p < 16
    → (s ≡ at.site → p ≡ at.slot → P left.visit)
    → P (visit_at t s p)
    → P (visit_at (stored t at left) s p)
stored_has P t at left z h s p l own other = place (same_or_other s at.site) (same_or_other p at.slot)
  where
    place : (s ≡ at.site) ⊎ (s ≢ at.site) → (p ≡ at.slot) ⊎ (p ≢ at.slot) → P (visit_at (stored t at left) s p)
    place (inl a) (inl b) = rw (a, b, visit_after_stored t at left z h) (own a b)
    place (inr a) b =
        rw (visit_after_stored_other t at left s p (λ y. a (visit_place_same s p at.site at.slot l h.slot y).0)) other
    place (inl a) (inr b) =
        rw (visit_after_stored_other t at left s p (λ y. b (visit_place_same s p at.site at.slot l h.slot y).1)) other

module _ (s p : ℕ) (slot : p < 16) where
  firm_after_head :
      (t : Tables) (step : Step) → Sound t → Promised t s p → is_word t s p step ≡ false
      → Firm (look_of step).trip (visit_at (head_of t step).tables s p)
  unfolding head_of
  firm_after_head t step z k f =
      stored_has
      (Firm (look_of step).trip)
      t
      (places_of t (look_of step))
      _
      z.sized
      (placed_places t (look_of step))
      s
      p
      slot
      (λ a b. firm_after_decided t step _ (subst₂ (λ (x y : ℕ). Promised t x y) a b k) (subst₂ (λ (x y : ℕ). is_word t x y step ≡ false) a b f))
      (firm (look_of step).trip (visit_at t s p) k.there k.prepared)

  firm_after_turn :
      (trip : Trip) (n : ℕ) (o : Outcome) → n < 16 → Sound o.tables → Firm trip (visit_at o.tables s p)
      → Firm trip (visit_at (turn_of trip n o).tables s p)
  firm_after_turn trip n o l z k =
      rw
      (turn_stored_lem trip n o)
      (stored_has
      (Firm trip)
      o.tables
      (trip_places trip n)
      _
      z.sized
      (placed_trip trip n l)
      s
      p
      slot
      (λ a b. firm_after_turned trip n (seen_of o.tables (trip_places trip n)) (subst₂ (λ (x w : ℕ). Firm trip (visit_at o.tables x w)) a b k))
      k)

  -- in any tables: a promised visit is there after every step that is no word of home to it
  pub promised_after_step :
      (t : Tables) (step : Step) → Sound t → Promised t s p → is_word t s p step ≡ false
      → (visit_at (step_of t step).tables s p).there ≡ true
  promised_after_step t step z k f =
      sound_step_has
      t
      step
      z
      (λ n u. Firm (look_of step).trip (visit_at u s p))
      (firm_after_turn (look_of step).trip)
      (λ a. firm_after_head t step z k f)
      (λ u. (visit_at u s p).there ≡ true)
      k.there
      (λ u. firm_there (look_of step).trip (visit_at u s p))

  -- so where it is gone, the step was home's word, and was accepted
  pub promised_until_word :
      (t : Tables) (step : Step) → Sound t → Promised t s p → (visit_at (step_of t step).tables s p).there ≡ false
      → (is_accepted (step_of t step).answer ≡ true) × (is_word t s p step ≡ true)
  promised_until_word t step z k gone = (
    ⊎_elim
        (λ e. e)
        (λ e. absurd (true≢false (sym k.there ∙ ap (λ (u : Tables). (visit_at u s p).there) (sym (refused_leaves t step e)) ∙ gone)))
        (either (is_accepted (step_of t step).answer)),
    ⊎_elim
        (λ e. e)
        (λ e. absurd (true≢false (sym (promised_after_step t step z k e) ∙ gone)))
        (either (is_word t s p step)),
  )

-- A station that has promised keeps its promise until home's word: in every run, a step after which a prepared visit is gone
-- is an accepted close of its passage's commit round, at home, or an accepted delivery there of a commit's phase 2 for its slot
pub promise_kept_until_word :
    {t₀ : Tables} → Started t₀ → (ss : List Step) (step : Step) (s p : ℕ) → p < 16 → Promised (run_of t₀ ss) s p
    → (visit_at (step_of (run_of t₀ ss) step).tables s p).there ≡ false
    → (is_accepted (step_of (run_of t₀ ss) step).answer ≡ true) × (is_word (run_of t₀ ss) s p step ≡ true)
promise_kept_until_word {t₀} fresh ss step s p slot = promised_until_word s p slot (run_of t₀ ss) step (sound_run fresh ss)
