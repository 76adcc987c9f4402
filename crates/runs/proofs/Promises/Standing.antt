-- A promise stands until home lets the station off: no step but home's own takes a prepared visit or its mark. Assumes nothing.
use Rattle.std.specs.Prelude.{ℕ, ◌%◌, ◌<◌, ◌≡◌, refl, true, cond, ◌&&◌, ◌||◌, eqb}
use Rattle.std.proofs.Common.{sym, ◌∙◌, subst₂, ⊎_elim, true≢false, eq-eqb}
use Rattle.std.proofs.Math.Path.{subst}
use Rattle.std.proofs.Math.Bool.{Bool, false}
use mathlib.Core.List.{List, [], ◌∷◌, ◌++◌}
use Rattle.rules.specs.declared.looking.Trip.{Trip}
use Rattle.rules.specs.Types.{Check}
use Rattle.rules.specs.LoopsLaws.{either, or_left, or_right, not_false, cond_keeps}
use Rattle.rules.specs.Tables.{passage_at, visit_at, message_at, slot_of}
use Rattle.rules.specs.Answers.{is_accepted, first_refusal, settle_of}
use Rattle.rules.specs.AnswersLaws.{Fine}
use Rattle.rules.specs.Parts.{is_free, aborted_passage, where_there, told_of, told_visit, asked_visit}
use Rattle.rules.specs.Stations.{crash_checks, crash_of, loses_home, crashed_slot}
use Rattle.rules.specs.Passages.{begin_of, abort_of}
use Rattle.rules.specs.Rounds.{open_of, terminate_of, prepare_of, close_of}
use Rattle.rules.specs.Calls.{deliver_call_of, deliver_phase_one_of, deliver_phase_two_of, deliver_body_of}
use Rattle.rules.specs.Machine.{look_of, places_of, seen_of, decide_of, stored, head_of, turn_of, step_of, trip_site, trip_places, turn_seen}
use Rattle.rules.specs.StoredLaws.{Sized, Placed, passage_after_stored, passage_after_stored_other, turn_stored_lem}
use Rattle.rules.proofs.RangesLaws.{placed_places, placed_trip}
use Rattle.rules.proofs.RefusedLaws.{refused_leaves}
use Rattle.rules.specs.Runs.{Started, run_of}
use Rattle.rules.proofs.Views.{settled, Marks, Mail, mail_deed, Goes, deed_of}
use Rattle.runs.specs.Types.{Kind, Passage, Visit, Asked, Told, Body, Tables, Step, Places, Seen, Outcome, Found}
use Rattle.runs.specs.Walk.Says.{is_prepare, is_terminate, tells_prepare, carries_commit, asks_terminate}
use Rattle.runs.specs.Walk.Put.{same_or_other}
use Rattle.runs.proofs.Fits.Life.{free_says}
use Rattle.runs.proofs.Walk.Steps.{run_on}
use Rattle.runs.proofs.Walk.Sound.{Sound, sound_run, sound_step_has}
use Rattle.runs.proofs.Times.RunLaws.{free_no_visit}
use Rattle.runs.proofs.Promises.Promised.{stored_has, prepared_not_swept, word_here}
use Rattle.runs.proofs.Promises.HeldFast.{let_go_with_visit}
use Rattle.runs.specs.Promises.Definitions.{Promised, lets_off, let_off_in, StandsFrom}

-- ---- what a decision leaves of its visit

-- there and prepared
abbrev PromiseStands : Visit → Type 0
PromiseStands v = (v.there ≡ true) × (v.prepared ≡ true)

-- an accepted decision leaves what was decided where no check holds
stands_after_settled :
    (cs : List Check) (v : ℕ) (seen left : Seen) → (Fine cs → PromiseStands left.visit) → PromiseStands seen.visit
    → PromiseStands (settle_of (record { answer = first_refusal cs v; left = left }) seen).left.visit
stands_after_settled cs v seen left = settled (λ (x : Seen). PromiseStands x.visit) cs v seen left

-- a round of another kind opens or closes: the mark stays
stands_after_closed : (k : Kind) (m : ℕ) (v : Visit) → PromiseStands v → is_prepare k ≡ false → PromiseStands (where_there v (told_visit (told_of k m) v))
stands_after_closed Kind.None m v e f = cond_keeps PromiseStands v.there _ v e e
stands_after_closed (Kind.Refresh q r) m v e f = cond_keeps PromiseStands v.there _ v e e
stands_after_closed Kind.Terminate m v e f = cond_keeps PromiseStands v.there _ v e e
stands_after_closed Kind.Prepare m v e f = absurd (true≢false f)

stands_after_asked : (asked : Asked) (n clock : ℕ) (v : Visit) → PromiseStands v → is_terminate asked ≡ false → PromiseStands (asked_visit asked n clock v)
stands_after_asked (Asked.Refresh r) n clock v k f = k
stands_after_asked Asked.Terminate n clock v k f = absurd (true≢false f)
stands_after_asked Asked.Prepare n clock v k f = (k.0, refl)

stands_after_told : (told : Told) (v : Visit) → PromiseStands v → tells_prepare told ≡ false → PromiseStands (told_visit told v)
stands_after_told (Told.Refresh q) v k f = k
stands_after_told (Told.Terminate m) v k f = k
stands_after_told Told.Prepare v k f = absurd (true≢false f)

stands_after_mail :
    (body : Body) (m : ℕ) (seen : Seen) → Mail body → PromiseStands seen.visit → (carries_commit body || asks_terminate body) ≡ false
    → PromiseStands (deliver_body_of body m seen).left.visit
unfolding deliver_body_of deliver_call_of deliver_phase_one_of deliver_phase_two_of
stands_after_mail _ m seen (Mail.Calls c) k f = stands_after_settled _ _ seen _ (λ g. rw k.0 (refl, k.1)) k
stands_after_mail _ m seen (Mail.Asks n asked) k f = stands_after_settled _ _ seen _ (λ g. stands_after_asked asked n _ seen.visit k f) k
stands_after_mail _ m seen (Mail.Tells n told) k f = stands_after_settled _ _ seen _ (λ g. stands_after_told told seen.visit k (or_left (tells_prepare told) false f)) k
stands_after_mail _ m seen (Mail.Quiet body objects visit) k f = rw (visit m seen) k

-- at its own slot and site a step of home lets off
home_here : (a b : ℕ) → (eqb a a && eqb b b) ≡ false → ⊥
home_here a b f = true≢false (rw (eq-eqb a a refl, eq-eqb b b refl) at f)

-- a slot in use is not begun
stands_after_marked :
    (t : Tables) (step : Step) (found : Found) → Marks step → PromiseStands (visit_at t (places_of t (look_of step)).site (places_of t (look_of step)).slot)
    → is_free (passage_at t (places_of t (look_of step)).slot).status ≡ false
    → lets_off t (places_of t (look_of step)).site (places_of t (look_of step)).slot step ≡ false
    → PromiseStands (decide_of step found (seen_of t (places_of t (look_of step)))).left.visit
unfolding places_of decide_of begin_of abort_of terminate_of prepare_of open_of close_of
stands_after_marked t _ found (Marks.Begins home slot q r) k u f =
    stands_after_settled _ _ _ _ (λ g. absurd (true≢false (sym (not_false (is_free (passage_at t (slot_of slot)).status) g.state) ∙ u))) k
stands_after_marked t _ found (Marks.Terminates h) k u f = absurd (home_here (slot_of h) ((passage_at t (slot_of h)).home % 8) f)
stands_after_marked t _ found (Marks.Prepares h) k u f = stands_after_settled _ _ _ _ (λ g. (k.0, refl)) k
stands_after_marked t _ found (Marks.Closes h) k u f =
    stands_after_settled
    _
    _
    _
    _
    (λ g. stands_after_closed (passage_at t (slot_of h)).round.kind _ _ k (word_here (slot_of h) ((passage_at t (slot_of h)).home % 8) _ f))
    k
stands_after_marked t _ found (Marks.Aborts h) k u f = absurd (home_here (slot_of h) ((passage_at t (slot_of h)).home % 8) f)
stands_after_marked t _ found (Marks.Delivers m) k u f =
    stands_after_mail
    (message_at t (m % 32)).body
    m
    _
    (mail_deed (message_at t (m % 32)).body)
    k
    (word_here (slot_of (message_at t (m % 32)).handle) ((message_at t (m % 32)).destination % 8) _ f)
stands_after_marked t _ found (Marks.Stay step there prepared) k u f =
    let seen = seen_of t (places_of t (look_of step)) in
    (there found seen ∙ k.0, prepared found seen ∙ k.1)

stands_after_decided :
    (t : Tables) (step : Step) (found : Found) → PromiseStands (visit_at t (places_of t (look_of step)).site (places_of t (look_of step)).slot)
    → is_free (passage_at t (places_of t (look_of step)).slot).status ≡ false
    → lets_off t (places_of t (look_of step)).site (places_of t (look_of step)).slot step ≡ false
    → PromiseStands (decide_of step found (seen_of t (places_of t (look_of step)))).left.visit
stands_after_decided t step found = stands_after_marked t step found (deed_of step).marks

-- ---- what one slot of a sweep or of a crash leaves of its visit and its passage

-- a crash is not that of the passage's home
abbrev StaysOff : Trip → Passage → Type 0
StaysOff Trip.Nowhere x = Unit {0}
StaysOff (Trip.Sweep site) x = Unit {0}
StaysOff (Trip.Crash site) x = loses_home site x ≡ false

stands_after_turned : (trip : Trip) (n : ℕ) (seen : Seen) → StaysOff trip seen.passage → PromiseStands seen.visit → PromiseStands (turn_seen trip n seen).visit
unfolding crashed_slot
stands_after_turned Trip.Nowhere n seen w k = k
stands_after_turned (Trip.Sweep site) n seen w k = rw (prepared_not_swept site n seen k.1) k
stands_after_turned (Trip.Crash site) n seen w k = cond_keeps PromiseStands seen.visit.there _ seen.visit (rw (w, k.1) (k.0, refl)) k

way_after_turned : (trip : Trip) (n : ℕ) (seen : Seen) → StaysOff trip seen.passage → StaysOff trip (turn_seen trip n seen).passage
unfolding crashed_slot
way_after_turned Trip.Nowhere n seen w = tt
way_after_turned (Trip.Sweep site) n seen w = tt
way_after_turned (Trip.Crash site) n seen w =
    subst (λ (c : Bool). loses_home site (cond c (aborted_passage seen.passage) seen.passage) ≡ false) (sym w) w

-- ---- steps, for the visit of one slot at one site

-- what holds of the passage that a store leaves in its own slot, and of every other, holds of all
pub passage_has :
    (P : Passage → Type 0) (t : Tables) (at : Places) (left : Seen) → Sized t → Placed at → (p : ℕ)
    → (p ≡ at.slot → P left.passage)
    → P (passage_at t p)
    → P (passage_at (stored t at left) p)
passage_has P t at left z h p own other =
    ⊎_elim
    (λ (e : p ≡ at.slot). rw (e, passage_after_stored t at left z h) (own e))
    (λ n. rw (passage_after_stored_other t at left p n) other)
    (same_or_other p at.slot)

module _ (s p : ℕ) (slot : p < 16) where
  -- what is kept on a step's way: the visit, and that a crash at its own site is not that of its passage's home
  abbrev Away : Trip → Passage → Type 0
  Away trip x = s ≡ trip_site trip % 8 → StaysOff trip x

  abbrev OnWay : Trip → Tables → Type 0
  OnWay trip u = PromiseStands (visit_at u s p) × Away trip (passage_at u p)

  stands_after_head :
      (t : Tables) (step : Step) → Sound t → Promised t s p → is_free (passage_at t p).status ≡ false → lets_off t s p step ≡ false
      → PromiseStands (visit_at (head_of t step).tables s p)
  unfolding head_of
  stands_after_head t step z k u f =
      stored_has
      PromiseStands
      t
      (places_of t (look_of step))
      _
      z.sized
      (placed_places t (look_of step))
      s
      p
      slot
      (λ a b.
      stands_after_decided
      t
      step
      _
      (subst₂ (λ (x y : ℕ). PromiseStands (visit_at t x y)) a b (k.there, k.prepared))
      (subst (λ (y : ℕ). is_free (passage_at t y).status ≡ false) b u)
      (subst₂ (λ (x y : ℕ). lets_off t x y step ≡ false) a b f))
      (k.there, k.prepared)

  -- a crash's own store leaves the passages
  crash_away : (t : Tables) (site : ℕ) → Sound t → (P : Passage → Type 0) → P (passage_at t p) → P (passage_at (head_of t (Step.Crash site)).tables p)
  unfolding head_of decide_of crash_of
  crash_away t site z P k =
      let at : Places = places_of t (look_of (Step.Crash site)) in
      passage_has
      P
      t
      at
      _
      z.sized
      (placed_places t (look_of (Step.Crash site)))
      p
      (λ b. cond_keeps (λ (x : Seen). P x.passage) (is_accepted (first_refusal (crash_checks site (seen_of t at)) 0)) _ (seen_of t at) (subst (λ (y : ℕ). P (passage_at t y)) b k) (subst (λ (y : ℕ). P (passage_at t y)) b k))
      k

  goes_away :
      (t : Tables) (step : Step) → Goes step → Sound t → lets_off t s p step ≡ false → Away (look_of step).trip (passage_at (head_of t step).tables p)
  goes_away t _ (Goes.Sweeps site) z f = λ e. tt
  goes_away t _ (Goes.Crashes site) z f =
      crash_away
      t
      site
      z
      (λ x. s ≡ site % 8 → loses_home site x ≡ false)
      (λ e. rw (eq-eqb (site % 8) s (sym e)) at f)
  goes_away t _ (Goes.Nowhere step none) z f = rw none (λ e. tt)

  head_away :
      (t : Tables) (step : Step) → Sound t → lets_off t s p step ≡ false → Away (look_of step).trip (passage_at (head_of t step).tables p)
  head_away t step = goes_away t step (deed_of step).goes

  turn_on_way :
      (trip : Trip) (n : ℕ) (o : Outcome) → n < 16 → Sound o.tables → OnWay trip o.tables → OnWay trip (turn_of trip n o).tables
  turn_on_way trip n o l z (k, w) =
      let at : Places = trip_places trip n in
      let here : s ≡ at.site → p ≡ at.slot → StaysOff trip (passage_at o.tables n) =
      λ a b. subst (λ (x : ℕ). StaysOff trip (passage_at o.tables x)) b (w a) in
      rw (turn_stored_lem trip n o) (
        stored_has PromiseStands o.tables at _ z.sized (placed_trip trip n l) s p slot
            (λ a b. stands_after_turned trip n (seen_of o.tables at) (here a b) (subst₂ (λ (x y : ℕ). PromiseStands (visit_at o.tables x y)) a b k))
            k,
        λ a. passage_has (StaysOff trip) o.tables at _ z.sized (placed_trip trip n l) p (λ b. way_after_turned trip n (seen_of o.tables at) (here a b)) (w a),
      )

  -- in any tables: the promise to a passage in use stands after every step that does not let the station off
  pub promise_after_step :
      (t : Tables) (step : Step) → Sound t → Promised t s p → is_free (passage_at t p).status ≡ false → lets_off t s p step ≡ false
      → Promised (step_of t step).tables s p
  promise_after_step t step z k u f =
      sound_step_has
      t
      step
      z
      (λ n x. OnWay (look_of step).trip x)
      (turn_on_way (look_of step).trip)
      (λ a. (stands_after_head t step z k u f, head_away t step z f))
      (λ x. Promised x s p)
      k
      (λ x y. record { there = y.0.0; prepared = y.0.1 })

-- ---- runs

module _ {t₀ : Tables} (fresh : Started t₀) (s p : ℕ) (slot : p < 16) where
  -- in a run the slot of a visit is in use
  slot_in_use : (ss : List Step) → (visit_at (run_of t₀ ss) s p).there ≡ true → is_free (passage_at (run_of t₀ ss) p).status ≡ false
  slot_in_use ss there =
      ⊎_elim
      (λ e. absurd (true≢false (sym there ∙ free_no_visit fresh ss p slot (free_says (passage_at (run_of t₀ ss) p).status e) s)))
      (λ e. e)
      (either (is_free (passage_at (run_of t₀ ss) p).status))

  stands_one_step :
      (ss : List Step) (x : Step) → Promised (run_of t₀ ss) s p → (is_accepted (step_of (run_of t₀ ss) x).answer && lets_off (run_of t₀ ss) s p x) ≡ false
      → StandsFrom (run_of t₀ ss) (step_of (run_of t₀ ss) x).tables s p
  stands_one_step ss x k f =
      record {
        promised = next;
        objects =
            λ j y held.
            ⊎_elim
            (λ e. e)
            (λ gone. absurd (true≢false (sym next.there ∙ subst (λ (a : ℕ). (visit_at (step_of (run_of t₀ ss) x).tables a p).there ≡ false) y gone)))
            (let_go_with_visit j p slot (run_of t₀ ss) x (sound_run fresh ss) held);
      }
    where
      next : Promised (step_of (run_of t₀ ss) x).tables s p
      next =
          ⊎_elim
          (λ e. promise_after_step s p slot (run_of t₀ ss) x (sound_run fresh ss) k (slot_in_use ss k.there) (rw e at f))
          (λ e. rw (refused_leaves (run_of t₀ ss) x e) k)
          (either (is_accepted (step_of (run_of t₀ ss) x).answer))

  stands_after_run :
      (ss after : List Step) → Promised (run_of t₀ ss) s p → let_off_in (run_of t₀ ss) s p after ≡ false
      → StandsFrom (run_of t₀ ss) (run_of (run_of t₀ ss) after) s p
  unfolding run_of let_off_in
  stands_after_run ss [] k f = record { promised = k; objects = λ j y held. held }
  stands_after_run ss (x ∷ xs) k f =
      let now : Bool = is_accepted (step_of (run_of t₀ ss) x).answer && lets_off (run_of t₀ ss) s p x in
      let e : run_of t₀ (ss ++ (x ∷ [])) ≡ (step_of (run_of t₀ ss) x).tables = run_on t₀ ss (x ∷ []) in
      let a : StandsFrom (run_of t₀ ss) (step_of (run_of t₀ ss) x).tables s p = stands_one_step ss x k (or_left now _ f) in
      let b : StandsFrom (step_of (run_of t₀ ss) x).tables (run_of (step_of (run_of t₀ ss) x).tables xs) s p =
      subst
      (λ (t : Tables). Promised t s p → let_off_in t s p xs ≡ false → StandsFrom t (run_of t xs) s p)
      e
      (stands_after_run (ss ++ (x ∷ [])) xs)
      a.promised
      (or_right now _ f) in
      record { promised = b.promised; objects = λ j y held. b.objects j y (a.objects j y held) }

-- A promise stands until home lets the station off: in every run, as long as no accepted step does,
-- the visit is there and prepared, and every object that the passage held at the site is held by it
pub promise_stands_until_let_off :
    {t₀ : Tables} → Started t₀ → (before after : List Step) (s p : ℕ) → p < 16 → Promised (run_of t₀ before) s p
    → let_off_in (run_of t₀ before) s p after ≡ false
    → StandsFrom (run_of t₀ before) (run_of t₀ (before ++ after)) s p
promise_stands_until_let_off {t₀} fresh before after s p slot k f =
    rw (run_on t₀ before after) (stands_after_run fresh s p slot before after k f)
