-- The ledgers along a run, and the invariant of every slot in every run. Assumes nothing.
use Rattle.std.specs.Prelude.{ℕ, ◌<◌, ◌≡◌, refl, true, false, not, ◌||◌, List}
use Rattle.std.proofs.Common.{arith, ap}
use Rattle.std.proofs.lemmas.List.{get_or-replicate}
use Rattle.rules.specs.Tables.{start, passage_at, visit_place, past_passage, past_visit, past_message, no_visit, no_message, free_slot}
use Rattle.rules.specs.Answers.{is_accepted}
use Rattle.rules.specs.AnswersLaws.{accepted_fine}
use Rattle.rules.specs.Ranges.{in_range}
use Rattle.rules.proofs.RangesLaws.{placed_places, placed_trip, seen_in_range, stored_in_range}
use Rattle.rules.proofs.RangesKept.{decided_in_range, turned_in_range, start_in_range}
use Rattle.rules.specs.StoredLaws.{turn_stored_lem}
use Rattle.rules.specs.Checks.{bad_handle, bad_times}
use Rattle.rules.specs.Parts.{is_active, is_aborted, is_running}
use Rattle.rules.specs.Stations.{tick_of, tick_done, sweep_of, sweep_done, crash_of, crash_done, recover_of, recover_done}
use Rattle.rules.specs.Passages.{begin_of, begin_done, abort_of, abort_done, retire_of, retire_done}
use Rattle.rules.specs.Rounds.{refresh_of, terminate_of, prepare_of, open_of, open_done, ask_of, ask_done, close_of, close_done, tell_of, tell_done}
use Rattle.rules.specs.Calls.{invoke_of, invoke_done, drop_of, drop_done}
use Rattle.rules.specs.Machine.{look_of, places_of, seen_of, remains, decide_of, head_of, trip_places, turn_seen, turn_of, found_of}
use Rattle.rules.specs.Runs.{Started, start_started, run_of}
use Rattle.runs.specs.Types.{Kind, Passage, Body, Tables, Step, Outcome}
use Rattle.rules.specs.declared.looking.Trip.{Trip}
use Rattle.runs.proofs.Walk.Plain.{repeat_has}
use Rattle.runs.specs.Times.View.{Ledger, mail_of, view_of, no_ledger}
use Rattle.runs.specs.Times.Clauses.{Holds}
use Rattle.runs.proofs.Kept.Life.{holds_of_free}
use Rattle.runs.proofs.Times.Store.{next_ledgers, Fitting, fitting_after_settled, holds_after_fitting}
use Rattle.runs.proofs.Fits.Stations.{fitting_after_site, fitting_after_same, fitting_after_lost, fitting_after_swept, fitting_after_crashed}
use Rattle.runs.proofs.Fits.Life.{fitting_after_begin, fitting_after_abort, fitting_after_retire}
use Rattle.runs.proofs.Fits.Open.{fitting_after_refresh, fitting_after_terminate, fitting_after_prepare}
use Rattle.runs.proofs.Fits.Mail.{fitting_after_ask, fitting_after_tell}
use Rattle.runs.proofs.Fits.Close.{fitting_after_close}
use Rattle.runs.proofs.Fits.Invoke.{fitting_after_invoke}
use Rattle.runs.proofs.Fits.Deliver.{fitting_after_deliver}
use Rattle.runs.specs.Walk.Seen.{places_at, seen_at}
use Rattle.runs.proofs.Walk.Steps.{ghost_run, good_after_run}
use Rattle.runs.proofs.Walk.Sound.{Sound, sound_head, sound_turn, sound_started}

-- ---- the ledgers after a run

abbrev pub head_ledgers : Tables → Step → (ℕ → Ledger) → ℕ → Ledger
head_ledgers t step ls =
    next_ledgers
    ls
    (places_at t step)
    (seen_at t step)
    (decide_of step (found_of t (places_at t step)) (seen_at t step)).left

abbrev pub turn_ledgers : Trip → ℕ → Tables → (ℕ → Ledger) → ℕ → Ledger
turn_ledgers trip slot t ls =
    next_ledgers
    ls
    (trip_places trip slot)
    (seen_of t (trip_places trip slot))
    (turn_seen trip slot (seen_of t (trip_places trip slot)))

-- where a run begins no slot has a ledger
unfoldable pub ledgers_of : Tables → List Step → ℕ → Ledger
ledgers_of t₀ ss = ghost_run head_ledgers turn_ledgers t₀ ss (λ p. no_ledger)

-- ---- the invariant

pub record Kept (t : Tables) (ls : ℕ → Ledger) : Type 0 where
  pub range : in_range t ≡ true
  pub sound : Sound t
  pub slots : (p : ℕ) → p < 16 → Holds (view_of t p) (ls p)

-- ---- every accepted step's own store fits

-- a message is dropped by the slot that its handle names
fitting_after_dropped : (t : Tables) (m : ℕ) → Fitting t (places_of t (look_of (Step.Drop m))) (drop_done m (seen_of t (places_of t (look_of (Step.Drop m))))).left
unfolding places_of
fitting_after_dropped t m = fitting_after_lost t (places_of t (look_of (Step.Drop m))) refl

module _ (t : Tables) (range : in_range t ≡ true) where
  pub fitting_after_decided :
      (step : Step)
      → is_accepted
      (decide_of step (found_of t (places_at t step)) (seen_at t step)).answer
      ≡ true
      → Fitting
      t
      (places_at t step)
      (decide_of step (found_of t (places_at t step)) (seen_at t step)).left
  unfolding decide_of tick_of sweep_of crash_of recover_of begin_of abort_of retire_of refresh_of terminate_of prepare_of open_of ask_of close_of tell_of invoke_of drop_of
  fitting_after_decided (Step.Tick site n) e =
      fitting_after_settled t (places_at t (Step.Tick site n)) (tick_done site n (seen_at t (Step.Tick site n))) e (fitting_after_site t (places_at t (Step.Tick site n)) _ (omega arith))
  fitting_after_decided (Step.Begin home slot q r) e =
      fitting_after_settled t (places_at t (Step.Begin home slot q r)) (begin_done home slot q r (seen_at t (Step.Begin home slot q r))) e (fitting_after_begin t home slot q r (accepted_fine _ _ e))
  fitting_after_decided (Step.Invoke h site write object value) e =
      fitting_after_settled t (places_at t (Step.Invoke h site write object value)) (invoke_done h site write object value (places_at t (Step.Invoke h site write object value)).message (seen_at t (Step.Invoke h site write object value))) e (fitting_after_invoke t h site write object value (places_at t (Step.Invoke h site write object value)).message range (accepted_fine _ _ e))
  fitting_after_decided (Step.Refresh h q r) e =
      fitting_after_settled t (places_at t (Step.Refresh h q r)) (open_done h (Kind.Refresh q r) (bad_handle h || bad_times q r) (not (is_active (seen_at t (Step.Refresh h q r)).passage.status)) (seen_at t (Step.Refresh h q r))) e (fitting_after_refresh t h q r (accepted_fine _ _ e))
  fitting_after_decided (Step.Terminate h) e =
      fitting_after_settled t (places_at t (Step.Terminate h)) (open_done h Kind.Terminate (bad_handle h) (not (is_aborted (seen_at t (Step.Terminate h)).passage.status)) (seen_at t (Step.Terminate h))) e (fitting_after_terminate t h (accepted_fine _ _ e))
  fitting_after_decided (Step.Prepare h) e =
      fitting_after_settled t (places_at t (Step.Prepare h)) (open_done h Kind.Prepare (bad_handle h) (not (is_running (seen_at t (Step.Prepare h)).passage.status)) (seen_at t (Step.Prepare h))) e (fitting_after_prepare t h (accepted_fine _ _ e))
  fitting_after_decided (Step.Ask h site) e =
      fitting_after_settled t (places_at t (Step.Ask h site)) (ask_done h site (places_at t (Step.Ask h site)).message (seen_at t (Step.Ask h site))) e (fitting_after_ask t h site (places_at t (Step.Ask h site)).message (accepted_fine _ _ e))
  fitting_after_decided (Step.Close h) e =
      fitting_after_settled t (places_at t (Step.Close h)) (close_done h (seen_at t (Step.Close h))) e (fitting_after_close t h range (accepted_fine _ _ e))
  fitting_after_decided (Step.Tell h site) e =
      fitting_after_settled t (places_at t (Step.Tell h site)) (tell_done h site (places_at t (Step.Tell h site)).message (seen_at t (Step.Tell h site))) e (fitting_after_tell t h site (places_at t (Step.Tell h site)).message range (accepted_fine _ _ e))
  fitting_after_decided (Step.Abort h) e =
      fitting_after_settled t (places_at t (Step.Abort h)) (abort_done h (seen_at t (Step.Abort h))) e (fitting_after_abort t h)
  fitting_after_decided (Step.Deliver m) e = fitting_after_deliver t m range e
  fitting_after_decided (Step.Drop m) e =
      fitting_after_settled t (places_at t (Step.Drop m)) (drop_done m (seen_at t (Step.Drop m))) e (fitting_after_dropped t m)
  fitting_after_decided (Step.Sweep site) e =
      fitting_after_settled t (places_at t (Step.Sweep site)) (sweep_done site (seen_at t (Step.Sweep site))) e (fitting_after_site t (places_at t (Step.Sweep site)) _ (omega arith))
  fitting_after_decided (Step.Crash site) e =
      fitting_after_settled t (places_at t (Step.Crash site)) (crash_done site (seen_at t (Step.Crash site))) e (fitting_after_site t (places_at t (Step.Crash site)) _ (omega arith))
  fitting_after_decided (Step.Recover site) e =
      fitting_after_settled t (places_at t (Step.Recover site)) (recover_done site (seen_at t (Step.Recover site))) e (fitting_after_site t (places_at t (Step.Recover site)) _ (omega arith))
  fitting_after_decided (Step.Retire h) e =
      fitting_after_settled t (places_at t (Step.Retire h)) (retire_done h (remains t (places_at t (Step.Retire h)).slot) (seen_at t (Step.Retire h))) e (fitting_after_retire t h (accepted_fine _ _ e))

-- ---- so the invariant is kept

pub kept_after_head :
    (t : Tables) (step : Step) (ls : ℕ → Ledger) → Kept t ls → is_accepted (head_of t step).answer ≡ true
    → Kept (head_of t step).tables (head_ledgers t step ls)
unfolding head_of
kept_after_head t step ls k e =
    record {
      range =
          stored_in_range
          t
          (places_at t step)
          _
          k.range
          (decided_in_range
          step
          _
          _
          (seen_in_range t (places_at t step) k.range (placed_places t (look_of step))));
      sound = sound_head t step k.sound;
      slots =
          holds_after_fitting
          t
          (places_at t step)
          _
          k.sound.sized
          (placed_places t (look_of step))
          (fitting_after_decided t k.range step e)
          ls
          k.slots;
    }

pub fitting_after_turned :
    (t : Tables) (trip : Trip) (slot : ℕ)
    → Fitting t (trip_places trip slot) (turn_seen trip slot (seen_of t (trip_places trip slot)))
fitting_after_turned t Trip.Nowhere slot = fitting_after_same t (trip_places Trip.Nowhere slot)
fitting_after_turned t (Trip.Sweep site) slot = fitting_after_swept t site slot
fitting_after_turned t (Trip.Crash site) slot = fitting_after_crashed t site slot

pub kept_after_turn :
    (trip : Trip) (slot : ℕ) (o : Outcome) (ls : ℕ → Ledger) → slot < 16 → Kept o.tables ls
    → Kept (turn_of trip slot o).tables (turn_ledgers trip slot o.tables ls)
kept_after_turn trip slot o ls i k =
    rw
    (turn_stored_lem trip slot o)
    (record {
      range =
          stored_in_range
          o.tables
          (trip_places trip slot)
          _
          k.range
          (turned_in_range trip slot _ (seen_in_range o.tables (trip_places trip slot) k.range (placed_trip trip slot i)));
      sound = rw (turn_stored_lem trip slot o) at (sound_turn trip slot o i k.sound);
      slots =
          holds_after_fitting
          o.tables
          (trip_places trip slot)
          _
          k.sound.sized
          (placed_trip trip slot i)
          (fitting_after_turned o.tables trip slot)
          ls
          k.slots;
    })

-- ---- and holds at the start

pub kept_at_start : Kept start (λ p. no_ledger)
unfolding start
kept_at_start =
    record {
      range = start_in_range;
      sound = sound_started start_started;
      slots =
          λ p i.
          let e : passage_at start p ≡ free_slot 0 = get_or-replicate 16 p (free_slot 0) past_passage i in
          holds_of_free
          (view_of start p)
          (rw (ap (λ (x : Passage). x.home) e) (omega arith))
          (ap (λ (x : Passage). x.round) e)
          (λ s. repeat_has (λ v. v.there ≡ false) 128 no_visit past_visit refl refl (visit_place s p))
          (λ k. repeat_has (λ m. (mail_of p m).body ≡ Body.Empty) 32 no_message past_message refl refl k);
    }

-- ---- so it holds in every run
pub kept_run : {t₀ : Tables} → Started t₀ → (ss : List Step) → Kept (run_of t₀ ss) (ledgers_of t₀ ss)
unfolding ledgers_of
kept_run {t₀} fresh ss =
    good_after_run head_ledgers turn_ledgers Kept kept_after_head kept_after_turn t₀ ss (λ p. no_ledger) (rw fresh.empty kept_at_start)
