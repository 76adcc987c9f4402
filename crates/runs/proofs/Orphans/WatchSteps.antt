-- Every accepted step's store, and every slot's turn of a sweep or a crash, keeps the invariant behind demand 3. Assumes nothing.
use Rattle.std.specs.Prelude.{ℕ, ◌<◌, ◌≡◌, true, false, not, ◌&&◌, ◌||◌, List}
use Rattle.std.proofs.Common.{arith}
use Rattle.std.proofs.Math.Path.{refl}
use Rattle.std.proofs.lemmas.Bool.{false≢true}
use Rattle.rules.specs.declared.looking.Trip.{Trip}
use Rattle.rules.specs.LoopsLaws.{and_left}
use Rattle.rules.specs.Tables.{start, passage_at, visit_place, past_passage, past_visit, past_message, no_visit, no_message, free_slot}
use Rattle.rules.specs.Answers.{is_accepted, settle_of}
use Rattle.rules.specs.AnswersLaws.{accepted_fine}
use Rattle.rules.specs.Checks.{bad_handle, bad_times}
use Rattle.rules.specs.Parts.{is_active, is_aborted, is_running}
use Rattle.rules.specs.Stations.{tick_of, tick_done, sweep_of, sweep_done, crash_of, crash_done, recover_of, recover_done}
use Rattle.rules.specs.Passages.{begin_of, begin_done, abort_of, abort_done, retire_of, retire_done}
use Rattle.rules.specs.Rounds.{refresh_of, terminate_of, prepare_of, open_of, open_done, ask_of, ask_done, close_of, close_done, tell_of, tell_done}
use Rattle.rules.specs.Calls.{invoke_of, invoke_done, drop_of, drop_done}
use Rattle.rules.specs.Machine.{look_of, places_of, seen_of, remains, decide_of, head_of, trip_places, turn_of, found_of}
use Rattle.rules.specs.StoredLaws.{turn_stored_lem}
use Rattle.rules.proofs.RangesLaws.{placed_places, placed_trip}
use Rattle.rules.specs.Runs.{Started, run_of}
use Rattle.runs.specs.Types.{Kind, Status, Passage, Body, Tables, Step, Places, Seen, Decision, Outcome}
use Rattle.runs.proofs.Walk.Plain.{repeat_has}
use Rattle.runs.specs.Times.View.{mail_of, view_of}
use Rattle.runs.specs.Walk.Seen.{places_at, seen_at}
use Rattle.runs.proofs.Walk.Steps.{ghost_run, good_after_run}
use Rattle.runs.proofs.Walk.Sound.{Sound, sound_head, sound_turn}
use Rattle.runs.specs.Orphans.Watch.{Known, Watch}
use Rattle.runs.proofs.Orphans.WatchKept.{Follows, follows_same, watch_unwatched, plain_free, aborted_free}
use Rattle.runs.proofs.Orphans.WatchStore.{known_head, known_turn, KeepsWatch, Guards, guards_of_kept, guarded}
use Rattle.runs.proofs.Orphans.WatchStations.{watch_after_site, watch_after_turned}
use Rattle.runs.proofs.Orphans.WatchLife.{watch_after_begin, watch_after_abort, watch_after_retire}
use Rattle.runs.proofs.Orphans.WatchRounds.{watch_after_refresh, watch_after_terminate, watch_after_prepare, watch_after_asked_out, watch_after_told_out, watch_after_close}
use Rattle.runs.proofs.Orphans.WatchCalls.{watch_after_invoked, watch_after_delivered, watch_after_lost}

-- ---- every accepted step

module _ (latest site : ℕ) (t : Tables) (g : Known) where
  -- all other steps leave what is known
  abbrev still_known : Known
  still_known = record { commit = g.commit; watched = g.watched && true; cleared = g.cleared }

  still_follows : Follows g still_known
  still_follows = record { commit = λ y. y; watched = λ y. and_left g.watched true y; cleared = λ y. y }

  guards_after_kept : (at : Places) (left : Seen) → KeepsWatch latest t at left → Guards latest site t at g (λ p. still_known) left
  guards_after_kept at left x = guards_of_kept latest site t at g (λ p. still_known) left (λ p. still_follows) x

  -- an accepted decision leaves what it decided
  watch_after_settled :
      (at : Places) (d : Decision) → is_accepted d.answer ≡ true → KeepsWatch latest t at d.left
      → Guards latest site t at g (λ p. still_known) (settle_of d (seen_of t at)).left
  watch_after_settled at d e x = rw e (guards_after_kept at d.left x)

  guards_after_settled :
      (at : Places) (next : ℕ → Known) (d : Decision) → is_accepted d.answer ≡ true
      → Guards latest site t at g next d.left
      → Guards latest site t at g next (settle_of d (seen_of t at)).left
  guards_after_settled at next d e x = rw e x

  watch_after_decided :
      (step : Step) → Sound t
      → is_accepted
      (decide_of step (found_of t (places_at t step)) (seen_at t step)).answer
      ≡ true
      → Guards
      latest
      site
      t
      (places_at t step)
      g
      (λ p. known_head p t step g)
      (decide_of step (found_of t (places_at t step)) (seen_at t step)).left
  unfolding places_of decide_of tick_of sweep_of crash_of recover_of begin_of abort_of retire_of refresh_of terminate_of prepare_of open_of ask_of close_of tell_of invoke_of drop_of
  watch_after_decided (Step.Tick a n) z e =
      watch_after_settled (places_at t (Step.Tick a n)) (tick_done a n (seen_at t (Step.Tick a n))) e (watch_after_site latest t (places_at t (Step.Tick a n)) _ (omega arith))
  watch_after_decided (Step.Begin home slot q r) z e =
      guards_after_settled (places_at t (Step.Begin home slot q r)) _ (begin_done home slot q r (seen_at t (Step.Begin home slot q r))) e (watch_after_begin latest site t (places_at t (Step.Begin home slot q r)) g home slot q r refl (accepted_fine _ _ e))
  watch_after_decided (Step.Invoke h a write object value) z e =
      watch_after_settled (places_at t (Step.Invoke h a write object value)) (invoke_done h a write object value (places_at t (Step.Invoke h a write object value)).message (seen_at t (Step.Invoke h a write object value))) e (watch_after_invoked latest t (places_at t (Step.Invoke h a write object value)) h a write object value (places_at t (Step.Invoke h a write object value)).message refl (accepted_fine _ _ e))
  watch_after_decided (Step.Refresh h q r) z e =
      watch_after_settled (places_at t (Step.Refresh h q r)) (open_done h (Kind.Refresh q r) (bad_handle h || bad_times q r) (not (is_active (seen_at t (Step.Refresh h q r)).passage.status)) (seen_at t (Step.Refresh h q r))) e (watch_after_refresh latest t (places_at t (Step.Refresh h q r)) h q r _ (accepted_fine _ _ e))
  watch_after_decided (Step.Terminate h) z e =
      watch_after_settled (places_at t (Step.Terminate h)) (open_done h Kind.Terminate (bad_handle h) (not (is_aborted (seen_at t (Step.Terminate h)).passage.status)) (seen_at t (Step.Terminate h))) e (watch_after_terminate latest t (places_at t (Step.Terminate h)) h (bad_handle h) (not (is_aborted (seen_at t (Step.Terminate h)).passage.status)))
  watch_after_decided (Step.Prepare h) z e =
      guards_after_settled (places_at t (Step.Prepare h)) _ (open_done h Kind.Prepare (bad_handle h) (not (is_running (seen_at t (Step.Prepare h)).passage.status)) (seen_at t (Step.Prepare h))) e (watch_after_prepare latest site t (places_at t (Step.Prepare h)) g h _ refl (accepted_fine _ _ e))
  watch_after_decided (Step.Ask h a) z e =
      watch_after_settled (places_at t (Step.Ask h a)) (ask_done h a (places_at t (Step.Ask h a)).message (seen_at t (Step.Ask h a))) e (watch_after_asked_out latest t (places_at t (Step.Ask h a)) h a (places_at t (Step.Ask h a)).message refl (accepted_fine _ _ e))
  watch_after_decided (Step.Close h) z e =
      watch_after_settled (places_at t (Step.Close h)) (close_done h (seen_at t (Step.Close h))) e (watch_after_close latest t (places_at t (Step.Close h)) h (accepted_fine _ _ e))
  watch_after_decided (Step.Tell h a) z e =
      watch_after_settled (places_at t (Step.Tell h a)) (tell_done h a (places_at t (Step.Tell h a)).message (seen_at t (Step.Tell h a))) e (watch_after_told_out latest t (places_at t (Step.Tell h a)) h a (places_at t (Step.Tell h a)).message refl (accepted_fine _ _ e))
  watch_after_decided (Step.Abort h) z e =
      watch_after_settled (places_at t (Step.Abort h)) (abort_done h (seen_at t (Step.Abort h))) e (watch_after_abort latest t (places_at t (Step.Abort h)) h)
  watch_after_decided (Step.Deliver m) z e =
      guards_after_kept (places_at t (Step.Deliver m)) _ (watch_after_delivered latest t (places_at t (Step.Deliver m)) m refl (seen_at t (Step.Deliver m)).message.body refl e)
  watch_after_decided (Step.Drop m) z e =
      watch_after_settled (places_at t (Step.Drop m)) (drop_done m (seen_at t (Step.Drop m))) e (watch_after_lost latest t (places_at t (Step.Drop m)) refl)
  watch_after_decided (Step.Sweep a) z e =
      watch_after_settled (places_at t (Step.Sweep a)) (sweep_done a (seen_at t (Step.Sweep a))) e (watch_after_site latest t (places_at t (Step.Sweep a)) _ (omega arith))
  watch_after_decided (Step.Crash a) z e =
      watch_after_settled (places_at t (Step.Crash a)) (crash_done a (seen_at t (Step.Crash a))) e (watch_after_site latest t (places_at t (Step.Crash a)) _ (omega arith))
  watch_after_decided (Step.Recover a) z e =
      watch_after_settled (places_at t (Step.Recover a)) (recover_done a (seen_at t (Step.Recover a))) e (watch_after_site latest t (places_at t (Step.Recover a)) _ (omega arith))
  watch_after_decided (Step.Retire h) z e =
      guards_after_settled (places_at t (Step.Retire h)) _ (retire_done h (remains t (places_at t (Step.Retire h)).slot) (seen_at t (Step.Retire h))) e (watch_after_retire latest site t (places_at t (Step.Retire h)) g h z.sized refl (accepted_fine _ _ e))

-- ---- so the invariant is kept, for any slot, any latest time and any site

module _ (latest site p : ℕ) (place : p < 16) where
  pub watch_head :
      (t : Tables) (step : Step) (g : Known) → Sound t → Watch latest site g (view_of t p)
      → is_accepted (head_of t step).answer ≡ true
      → Watch latest site (known_head p t step g) (view_of (head_of t step).tables p)
  unfolding head_of
  watch_head t step g z k e =
      guarded
      latest
      site
      t
      (places_at t step)
      g
      (λ q. known_head q t step g)
      _
      z.sized
      (placed_places t (look_of step))
      (watch_after_decided latest site t g step z e)
      p
      place
      k

  pub watch_turn :
      (trip : Trip) (slot : ℕ) (o : Outcome) (g : Known) → slot < 16 → Sound o.tables
      → Watch latest site g (view_of o.tables p)
      → Watch latest site g (view_of (turn_of trip slot o).tables p)
  watch_turn trip slot o g i z k =
      rw
      (turn_stored_lem trip slot o)
      (guarded
      latest
      site
      o.tables
      (trip_places trip slot)
      g
      (λ q. g)
      _
      z.sized
      (placed_trip trip slot i)
      (guards_of_kept latest site o.tables (trip_places trip slot) g (λ q. g) _ (λ q. follows_same g) (watch_after_turned latest o.tables trip slot))
      p
      place
      k)

  pub watch_run :
      (t : Tables) (us : List Step) (g : Known) → Sound t → Watch latest site g (view_of t p)
      → Sound (run_of t us) × Watch latest site (ghost_run (known_head p) known_turn t us g) (view_of (run_of t us) p)
  watch_run t us g z k =
      good_after_run
      (known_head p)
      known_turn
      (λ u h. Sound u × Watch latest site h (view_of u p))
      (λ u s h x e. (sound_head u s x.0, watch_head u s h x.0 x.1 e))
      (λ trip slot o h i x. (sound_turn trip slot o i x.0, watch_turn trip slot o h i x.0 x.1))
      t
      us
      g
      (z, k)

-- ---- and holds at the start

-- nothing is known yet
abbrev pub known_nothing : Known
known_nothing = record { commit = false; watched = false; cleared = false }

watch_start : (latest site p : ℕ) → Watch latest site known_nothing (view_of start p)
unfolding start
watch_start latest site p =
    watch_unwatched
    latest
    site
    known_nothing
    (view_of start p)
    false≢true
    (λ e. absurd (aborted_free _ e free))
    (λ e.
    plain_free
    (view_of start p)
    free
    (repeat_has (λ (x : Passage). x.round.kind ≡ Kind.None) 16 (free_slot 0) past_passage refl refl p)
    (λ s. repeat_has (λ v. v.there ≡ false) 128 no_visit past_visit refl refl (visit_place s p))
    (λ k. repeat_has (λ m. (mail_of p m).body ≡ Body.Empty) 32 no_message past_message refl refl k))
  where
    free : (passage_at start p).status ≡ Status.Free
    free = repeat_has (λ (x : Passage). x.status ≡ Status.Free) 16 (free_slot 0) past_passage refl refl p

pub watch_started : {t₀ : Tables} → Started t₀ → (latest site p : ℕ) → Watch latest site known_nothing (view_of t₀ p)
watch_started fresh latest site p = rw fresh.empty (watch_start latest site p)
