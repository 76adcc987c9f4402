-- How something that is true of a passage at one moment is carried along a run until its slot is retired: by every move and every turn.
-- The idea: a store for another slot is a move in which this slot rests. Assumes nothing.
use Prim.Native.Nat.{ℕ, ◌%◌, ◌≤◌, ◌<◌}
use Rattle.std.specs.Prelude.{◌≡◌, refl, ◌≢◌, Bool, true, cond, ◌&&◌, ◌||◌}
use Rattle.std.proofs.Common.{sym, ap, ◌∙◌, subst₂, inl, true≢false, eq-eqb}
use Rattle.std.proofs.Math.Path.{subst}
use Rattle.std.proofs.Math.Logic.{⊎_elim}
use Rattle.std.proofs.Math.Bool.{false}
use mathlib.Core.List.{List, [], ◌∷◌}
use Rattle.rules.specs.declared.looking.Trip.{Trip}
use Rattle.rules.specs.LoopsLaws.{either, cond_keeps, or_left, or_right}
use Rattle.rules.specs.Tables.{site_at, passage_at, message_at, slot_of}
use Rattle.rules.specs.Answers.{is_accepted}
use Rattle.rules.specs.Parts.{is_free, aborted_passage, asked_of, asked_status, told_status}
use Rattle.rules.specs.Rounds.{round_told}
use Rattle.rules.specs.Machine.{look_of, places_of, seen_of, decide_of, found_of, stored, head_of, trip_site, trip_places, turn_seen, turn_of, step_of}
use Rattle.rules.proofs.RefusedLaws.{refused_leaves}
use Rattle.rules.specs.StoredLaws.{Sized, Placed, turn_stored_lem}
use Rattle.rules.proofs.RangesLaws.{placed_places, placed_trip}
use Rattle.rules.specs.Record.{is_step}
use Rattle.rules.specs.Runs.{run_of, history_of}
use Rattle.rules.proofs.Views.{Generation, deed_of}
use Rattle.runs.specs.Types.{Site, Status, Passage, Visit, Asked, Told, Message, Tables, Step, Outcome, Places, Seen}
use Rattle.runs.proofs.Walk.Plain.{when_false}
use Rattle.runs.specs.Walk.Put.{put, put_same, put_other, put_back, same_or_other}
use Rattle.runs.specs.Walk.Seen.{places_at, seen_at}
use Rattle.runs.proofs.Walk.Steps.{turned_of, ghost_turns, accepted_has}
use Rattle.runs.proofs.Walk.Sound.{Sound}
use Rattle.runs.proofs.Walk.Clocks.{turned_site, turned_message, turn_not_back}
use Rattle.runs.specs.Times.View.{View, Ledger, mail_of, view_of, no_ledger, ledger_noted}
use Rattle.runs.specs.Times.Clauses.{Holds}
use Rattle.runs.proofs.Times.Store.{left_view, next_ledgers, next_ledger, Fitting, mail_after_other, own_view, other_view, noted_same}
use Rattle.runs.proofs.Times.Ledgers.{head_ledgers, turn_ledgers, fitting_after_decided, fitting_after_turned}
use Rattle.runs.specs.Orphans.Orphans.{retires, is_retired}
use Rattle.runs.proofs.Events.HoldSteps.{and_false}
use Rattle.runs.specs.Moves.Definitions.{Move, Turn}
use Rattle.runs.proofs.Moves.Steps.{MoveAt, move_of, turn_of_lem}
use Rattle.runs.specs.Commits.Vow.{Vow}
use Rattle.runs.proofs.Commits.Pledged.{Pledged, pledged_after_head, pledged_after_turn}

-- ---- a slot in use stays in use until it is retired

used_aborted : (b : Bool) (p : Passage) → is_free p.status ≡ false → is_free (cond b (aborted_passage p) p).status ≡ false
used_aborted b p u = cond_keeps (λ (x : Passage). is_free x.status ≡ false) b (aborted_passage p) p refl u

used_asked : (asked : Asked) (s : Status) → is_free s ≡ false → is_free (asked_status asked s) ≡ false
used_asked (Asked.Refresh r) s u = u
used_asked Asked.Terminate s u = u
used_asked Asked.Prepare s u = refl

used_told : (told : Told) (s : Status) → is_free s ≡ false → is_free (told_status told s) ≡ false
used_told (Told.Refresh q) s u = u
used_told (Told.Terminate m) s u = u
used_told Told.Prepare s u = refl

used_moved :
    {step : Step} {w : View} {a k c : ℕ} {p : Passage} {v : Visit} {m : Message} → Move step w a k p v c m
    → is_step 16 step ≡ false → is_free w.passage.status ≡ false → is_free p.status ≡ false
used_moved (Move.Rests e x i y) g u = rw e u
used_moved (Move.Sends d b e was x i y f) g u = rw e u
used_moved (Move.Tells e x i home two silent word uncalled) g u = rw e u
used_moved (Move.Begins free status round unmarked i y) g u = rw status
used_moved (Move.Retires y status round x i) g u = absurd (true≢false (sym y ∙ g))
used_moved {w = w} (Move.Opens kind from home was e x i y) g u = rw e (used_asked (asked_of kind) w.passage.status u)
used_moved {w = w} (Move.Closes home one closed e x i y fits) g u = rw e (used_told (round_told w.passage.round) w.passage.status u)
used_moved (Move.Aborts runs e x i y) g u = rw e
used_moved (Move.Receives call body at e x early i y) g u = rw e u
used_moved (Move.Answers n asked body e was live below x i silent back uncalled) g u = rw e u
used_moved (Move.Hears n told body e was x i y) g u = rw e u
used_moved (Move.Keeps n r q body number at e x i stamp y) g u = rw e u

pub used_turned :
    {w : View} {a : ℕ} {p : Passage} {v : Visit} {trip : Trip} → Turn w a p v trip → is_free w.passage.status ≡ false
    → is_free p.status ≡ false
used_turned (Turn.Stays trip e x) u = rw e u
used_turned {w = w} (Turn.Sweeps site aborts active e was unprepared x) u = rw e (used_aborted aborts w.passage u)
used_turned {w = w} (Turn.Crashes site aborts hits runs e unhit x) u = rw e (used_aborted aborts w.passage u)

-- a step that does not retire its own slot is no retire
own_retire : (t : Tables) (step : Step) → Generation step → retires (places_at t step).slot step ≡ false → is_step 16 step ≡ false
unfolding places_of
own_retire t _ (Generation.Retires h) r = absurd (true≢false (sym (eq-eqb (slot_of h) (slot_of h) refl) ∙ r))
own_retire t _ (Generation.Stays step never stays) r = never

-- ---- one store, for one slot

module _ (t : Tables) (at : Places) (left : Seen) (z : Sized t) (h : Placed at) (x : Fitting t at left) (p : ℕ) (slot : p < 16) (n : p ≢ at.slot) where
  -- another slot's store changes a clock at most
  abbrev Rested : View
  Rested = left_view (view_of t p) at.site at.message (passage_at t p) ((view_of t p).visit at.site) left.site.clock ((view_of t p).mail at.message)

  rested_view : view_of (stored t at left) p ≡ Rested
  rested_view =
      other_view t at left z h p slot n
      ∙ (λ i.
      record {
        passage = passage_at t p;
        visit = sym (put_back (view_of t p).visit at.site ((view_of t p).visit at.site) refl) i;
        clock = put (view_of t p).clock at.site left.site.clock;
        mail =
            put
            (view_of t p).mail
            at.message
            (mail_after_other at.slot p (message_at t at.message) left.message x.mail n i);
      })

-- what is true of the view and the ledger that a store makes of its own slot is true of that slot in the tables, if it leaves the slot in use
pub own_leads :
    (P : View → Ledger → Type 0) (t : Tables) (at : Places) (left : Seen) → Sized t → Placed at → (ls : ℕ → Ledger)
    → is_free left.passage.status ≡ false
    → P
    (left_view (view_of t at.slot) at.site at.message left.passage left.visit left.site.clock (mail_of at.slot left.message))
    (ledger_noted (ls at.slot) at.site (message_at t at.message).source left.visit)
    → P (view_of (stored t at left) at.slot) (next_ledgers ls at (seen_of t at) left at.slot)
own_leads P t at left z h ls free x =
    subst₂ P
    (sym (own_view t at left z h))
    (sym
    (when_false
    (λ (l : Ledger). l ≡ ledger_noted (ls at.slot) at.site (message_at t at.message).source left.visit)
    (is_free left.passage.status)
    no_ledger
    _
    free
    refl)
    ∙ sym (put_same ls at.slot (next_ledger (ls at.slot) at.site (seen_of t at) left)))
    x

-- no accepted step of a list retires the slot: not the first, and none of the rest
pub not_retired :
    (p : ℕ) (t : Tables) (s : Step) (ss : List Step) → is_retired p (history_of t (s ∷ ss)) ≡ false
    → ((is_accepted (step_of t s).answer && retires p s) ≡ false) × (is_retired p (history_of (step_of t s).tables ss) ≡ false)
unfolding history_of is_retired
not_retired p t s ss r =
    ⊎_elim
    (λ e.
    let both : (retires p s || is_retired p (history_of (step_of t s).tables ss)) ≡ false = rw e at r in
    let none : retires p s ≡ false = or_left _ _ both in
    (rw none (and_false (is_accepted (step_of t s).answer)), or_right (retires p s) _ both))
    (λ e. (rw e, rw e at r))
    (either (is_accepted (step_of t s).answer))

-- ---- what is carried

-- at these tables P is true of slot p, with ledgers that are as they must be
pub record Carried (P : View → Ledger → Type 0) (p : ℕ) (t : Tables) : Type 0 where
  pub ledgers : ℕ → Ledger
  pub pledged : Pledged t ledgers
  pub has : P (view_of t p) (ledgers p)

-- P is kept by every move and every turn. Way is what a sweep or a crash has beside it while it goes through its slots
pub record Carries (P : View → Ledger → Type 0) (Way : Trip → View → Type 0) : Type 0 where
  pub moved :
      {step : Step} {w : View} {a k c : ℕ} {p : Passage} {v : Visit} {m : Message} (l : Ledger) (source : ℕ) → Holds w l → Vow w l → P w l
      → Move step w a k p v c m → is_free p.status ≡ false → P (left_view w a k p v c m) (ledger_noted l a source v)
  pub turned :
      {w : View} {a : ℕ} {p : Passage} {v : Visit} (trip : Trip) (l : Ledger) (source k : ℕ) → a ≡ trip_site trip % 8
      → Holds w l → Vow w l → P w l → Way trip w → Turn w a p v trip → P (left_view w a k p v (w.clock a) (w.mail k)) (ledger_noted l a source v)
  pub used : {w : View} {l : Ledger} → Holds w l → P w l → is_free w.passage.status ≡ false
  pub sets_out :
      (t : Tables) (step : Step) (p : ℕ) (l : Ledger) → Sound t → is_accepted (head_of t step).answer ≡ true → P (view_of t p) l
      → Way (look_of step).trip (view_of (head_of t step).tables p)
  pub goes_on : (trip : Trip) (w u : View) → ((s : ℕ) → w.clock s ≤ u.clock s) → Way trip w → Way trip u

module _ (P : View → Ledger → Type 0) (Way : Trip → View → Type 0) (carries : Carries P Way) (p : ℕ) (slot : p < 16) where
  -- a store for another slot
  rested :
      (t : Tables) (at : Places) (left : Seen) → Sized t → Placed at → Fitting t at left → p ≢ at.slot → (ls : ℕ → Ledger)
      → Pledged t ls → P (view_of t p) (ls p) → P (view_of (stored t at left) p) (next_ledgers ls at (seen_of t at) left p)
  rested t at left z h x n ls k y =
      let w : View = view_of t p in
      let hold : Holds w (ls p) = k.kept.slots p slot in
      subst₂ P
      (sym (rested_view t at left z h x p slot n))
      (noted_same w (ls p) at.site 0 hold ∙ sym (put_other ls at.slot _ p n))
      (carries.moved {step = Step.Recover 0} (ls p) 0 hold (k.vows p slot) y
      (Move.Rests refl refl x.clock (inl refl))
      (carries.used hold y))

  head_carried :
      (t : Tables) (step : Step) (ls : ℕ → Ledger) → Pledged t ls → is_accepted (head_of t step).answer ≡ true → retires p step ≡ false
      → P (view_of t p) (ls p) → P (view_of (head_of t step).tables p) (head_ledgers t step ls p)
  unfolding head_of
  head_carried t step ls k e r y =
      let at : Places = places_at t step in
      let left : Seen = (decide_of step (found_of t at) (seen_at t step)).left in
      ⊎_elim
      (λ (own : p ≡ at.slot).
      let here : P (view_of t at.slot) (ls at.slot) = subst (λ (q : ℕ). P (view_of t q) (ls q)) own y in
      let hold : Holds (view_of t at.slot) (ls at.slot) = k.kept.slots at.slot (placed_places t (look_of step)).slot in
      let move : MoveAt step t at left = move_of t k.kept.range (ls at.slot) step hold e in
      let free : is_free left.passage.status ≡ false =
      used_moved move (own_retire t step (deed_of step).generation (subst (λ (q : ℕ). retires q step ≡ false) own r)) (carries.used hold here) in
      subst (λ (q : ℕ). P (view_of (stored t at left) q) (next_ledgers ls at (seen_of t at) left q)) (sym own)
      (own_leads P t at left k.kept.sound.sized (placed_places t (look_of step)) ls free
      (carries.moved (ls at.slot) (message_at t at.message).source hold (k.vows at.slot (placed_places t (look_of step)).slot) here move free)))
      (λ n.
      rested t at left k.kept.sound.sized (placed_places t (look_of step)) (fitting_after_decided t k.kept.range step e) n ls k y)
      (same_or_other p at.slot)

  turn_carried :
      (trip : Trip) (n : ℕ) (o : Outcome) (ls : ℕ → Ledger) → n < 16 → Pledged o.tables ls → P (view_of o.tables p) (ls p)
      → Way trip (view_of o.tables p) → P (view_of (turn_of trip n o).tables p) (turn_ledgers trip n o.tables ls p)
  turn_carried trip n o ls i k y way =
      let t : Tables = o.tables in
      let at : Places = trip_places trip n in
      let left : Seen = turn_seen trip n (seen_of t at) in
      rw
      (turn_stored_lem trip n o)
      (⊎_elim
      (λ (own : p ≡ n).
      let here : P (view_of t n) (ls n) = subst (λ (q : ℕ). P (view_of t q) (ls q)) own y in
      let hold : Holds (view_of t n) (ls n) = k.kept.slots n i in
      let free : is_free left.passage.status ≡ false = used_turned (turn_of_lem t trip n) (carries.used hold here) in
      let clock : left.site.clock ≡ (site_at t at.site).clock = ap (λ (x : Site). x.clock) (turned_site trip n (seen_of t at)) in
      let mail : mail_of n left.message ≡ mail_of n (message_at t 0) = ap (mail_of n) (turned_message trip n (seen_of t at)) in
      subst (λ (q : ℕ). P (view_of (stored t at left) q) (next_ledgers ls at (seen_of t at) left q)) (sym own)
      (subst₂ P
      (sym
      (own_view t at left k.kept.sound.sized (placed_trip trip n i)
      ∙ ap (λ (c : ℕ). left_view (view_of t n) at.site 0 left.passage left.visit c (mail_of n left.message)) clock
      ∙ ap (λ (m : Message). left_view (view_of t n) at.site 0 left.passage left.visit (site_at t at.site).clock m) mail))
      (sym
      (when_false
      (λ (l : Ledger). l ≡ ledger_noted (ls n) at.site (message_at t 0).source left.visit)
      (is_free left.passage.status)
      no_ledger
      _
      free
      refl)
      ∙ sym (put_same ls n (next_ledger (ls n) at.site (seen_of t at) left)))
      (carries.turned trip (ls n) (message_at t 0).source 0 refl hold (k.vows n i) here
      (subst (λ (q : ℕ). Way trip (view_of t q)) own way)
      (turn_of_lem t trip n))))
      (λ other. rested t at left k.kept.sound.sized (placed_trip trip n i) (fitting_after_turned t trip n) other ls k y)
      (same_or_other p n))

  -- ---- steps and runs

  -- what is true of the slot on a step's way
  abbrev OnWay : Trip → Tables → (ℕ → Ledger) → Type 0
  OnWay trip t ls = Pledged t ls × P (view_of t p) (ls p) × Way trip (view_of t p)

  accepted_carried :
      (t : Tables) (step : Step) → Carried P p t → is_accepted (step_of t step).answer ≡ true → retires p step ≡ false
      → Carried P p (step_of t step).tables
  unfolding ghost_turns
  accepted_carried t step c e r =
      let trip : Trip = (look_of step).trip in
      let first : ℕ → Ledger = head_ledgers t step c.ledgers in
      let done = accepted_has t step
      (λ n u. OnWay trip u (ghost_turns head_ledgers turn_ledgers trip (head_of t step) n first))
      (λ n i x. (
        pledged_after_turn trip n (turned_of t step n) _ i x.0,
        turn_carried trip n (turned_of t step n) _ i x.0 x.1 x.2,
        carries.goes_on trip (view_of (turned_of t step n).tables p) (view_of (turn_of trip n (turned_of t step n)).tables p)
            (λ s. turn_not_back trip n (turned_of t step n) i x.0.kept.sound s)
            x.2,
      ))
      (λ a. (
        pledged_after_head t step c.ledgers c.pledged a,
        head_carried t step c.ledgers c.pledged a r c.has,
        carries.sets_out t step p (c.ledgers p) c.pledged.kept.sound a c.has,
      ))
      e in
      record { ledgers = _; pledged = done.0; has = done.1 }

  pub step_carried :
      (t : Tables) (step : Step) → Carried P p t → (is_accepted (step_of t step).answer && retires p step) ≡ false
      → Carried P p (step_of t step).tables
  step_carried t step c r =
      ⊎_elim
      (λ e. accepted_carried t step c e (rw e at r))
      (λ e. rw (refused_leaves t step e) c)
      (either (is_accepted (step_of t step).answer))

  pub run_carried : (t : Tables) (ss : List Step) → Carried P p t → is_retired p (history_of t ss) ≡ false → Carried P p (run_of t ss)
  unfolding run_of
  run_carried t [] c r = c
  run_carried t (s ∷ ss) c r =
      let each = not_retired p t s ss r in
      run_carried (step_of t s).tables ss (step_carried t s c each.0) each.1
