-- In every run the passage that holds an object has a visit at the object's site, and every call in a message slot goes to its object's site.
-- Assumes nothing.
use Rattle.std.specs.Prelude.{ℕ, ◌<◌, ◌≡◌, refl, true, List, ltb}
use Rattle.std.proofs.Common.{sym, ap, ◌∙◌, ⊎_elim, true≢false, ltb-true, ltb-false}
use Rattle.rules.specs.declared.tables.Object.{Object}
use Rattle.rules.specs.declared.looking.Trip.{Trip}
use Rattle.rules.specs.LoopsLaws.{either}
use Rattle.rules.specs.Tables.{past_object, object_at, visit_at, message_at, object_site, no_object, no_message, past_message, start}
use Rattle.rules.specs.Parts.{is_unheld, is_held_by}
use Rattle.rules.proofs.PartsLaws.{unheld_not_held, none_unheld}
use Rattle.rules.specs.Rounds.{refresh_of, terminate_of, prepare_of, ask_of, tell_of}
use Rattle.rules.specs.Stations.{tick_of, sweep_of, crash_of, recover_of}
use Rattle.rules.specs.Machine.{look_of, places_of, seen_of, decide_of, head_of, trip_places, turn_of, step_of}
use Rattle.rules.specs.StoredLaws.{turn_stored_lem}
use Rattle.rules.proofs.RangesLaws.{placed_places, placed_trip}
use Rattle.rules.specs.Runs.{Started, start_started, run_of}
use Rattle.rules.specs.Events.{is_holding}
use Rattle.runs.specs.Types.{Call, Body, Message, Tables, Step, Outcome, Found}
use Rattle.runs.proofs.Walk.Plain.{repeat_has, past_reads}
use Rattle.runs.proofs.Walk.Sound.{step_holds, run_holds, sound_head, sound_turn, sound_started}
use Rattle.runs.proofs.Holders.HeldStore.{GoesHome, Held, KeepsHeld, held_stored}
use Rattle.runs.proofs.Holders.HeldSteps.{no_call, held_after_station, held_after_begin, held_after_retire, held_after_drop, held_after_sent, held_after_invoke, held_after_open, held_after_abort, held_after_close, held_after_deliver, held_after_turned}

-- ---- every step and every turn

held_after_decided :
    (t : Tables) (step : Step) (found : Found) → Held t
    → KeepsHeld t (places_of t (look_of step)) (decide_of step found (seen_of t (places_of t (look_of step)))).left
unfolding places_of decide_of tick_of refresh_of terminate_of prepare_of ask_of tell_of sweep_of crash_of recover_of
held_after_decided t (Step.Tick site n) found k = held_after_station t _ k _ _ _
held_after_decided t (Step.Begin home slot q r) found k = held_after_begin t _ k home slot q r
held_after_decided t (Step.Invoke h site write object value) found k = held_after_invoke t _ k h site write object value found.place
held_after_decided t (Step.Refresh h q r) found k = held_after_open t _ k h _ _ _
held_after_decided t (Step.Terminate h) found k = held_after_open t _ k h _ _ _
held_after_decided t (Step.Prepare h) found k = held_after_open t _ k h _ _ _
held_after_decided t (Step.Ask h site) found k = held_after_sent t _ k _ _ _ h site _ refl
held_after_decided t (Step.Close h) found k = held_after_close t _ k h refl refl
held_after_decided t (Step.Tell h site) found k = held_after_sent t _ k _ _ _ h site _ refl
held_after_decided t (Step.Abort h) found k = held_after_abort t _ k h
held_after_decided t (Step.Deliver m) found k = held_after_deliver t _ k _ m refl refl refl refl
held_after_decided t (Step.Drop m) found k = held_after_drop t _ k m
held_after_decided t (Step.Sweep site) found k = held_after_station t _ k _ _ _
held_after_decided t (Step.Crash site) found k = held_after_station t _ k _ _ _
held_after_decided t (Step.Recover site) found k = held_after_station t _ k _ _ _
held_after_decided t (Step.Retire h) found k = held_after_retire t _ k h found.remains

held_head : (t : Tables) (step : Step) → Held t → Held (head_of t step).tables
unfolding head_of
held_head t step k = held_stored t _ _ k (placed_places t (look_of step)) (held_after_decided t step _ k) (sound_head t step k.sound)

held_turn : (trip : Trip) (slot : ℕ) (o : Outcome) → slot < 16 → Held o.tables → Held (turn_of trip slot o).tables
held_turn trip slot o l k =
    rw
    (turn_stored_lem trip slot o)
    (held_stored o.tables (trip_places trip slot) _ k (placed_trip trip slot l) (held_after_turned o.tables (trip_places trip slot) k trip refl) (rw (turn_stored_lem trip slot o) at (sound_turn trip slot o l k.sound)))

-- ---- the start, and every run

start_unheld : (k : ℕ) → is_unheld (object_at start k) ≡ true
unfolding start
start_unheld = repeat_has (λ (o : Object). is_unheld o ≡ true) 32 no_object past_object none_unheld.0 none_unheld.1

pub started_unheld : {t₀ : Tables} → Started t₀ → (k : ℕ) → is_unheld (object_at t₀ k) ≡ true
started_unheld fresh k = rw fresh.empty (start_unheld k)

-- nothing is held, and there is no message
held_start : Held start
unfolding start
held_start =
    record {
      sound = sound_started start_started;
      visits =
          λ j p l e.
          absurd (true≢false (sym e ∙ unheld_not_held p (object_at start j) (start_unheld j)));
      calls =
          λ m c.
          repeat_has
          (λ (x : Message). x.body ≡ Body.Call c → GoesHome x c)
          32
          no_message
          past_message
          (no_call no_message refl c)
          (no_call past_message refl c)
          m;
    }

pub held_step : (t : Tables) (step : Step) → Held t → Held (step_of t step).tables
held_step t step k = step_holds Held (λ u s h e. held_head u s h) held_turn t step k

pub held_from : (t : Tables) (ss : List Step) → Held t → Held (run_of t ss)
held_from = run_holds Held (λ u s h e. held_head u s h) held_turn

pub held_started : {t₀ : Tables} → Started t₀ → Held t₀
held_started fresh = rw fresh.empty held_start

pub held_run : {t₀ : Tables} → Started t₀ → (ss : List Step) → Held (run_of t₀ ss)
held_run {t₀} fresh ss = held_from t₀ ss (held_started fresh)

-- an object that is held is one of 32, and its holder one of sixteen slots
pub held_below : (t : Tables) (p k : ℕ) → Held t → is_holding t p k ≡ true → (p < 16) × (k < 32)
held_below t p k held e =
    ⊎_elim
    (λ b. let i : k < 32 = ltb-true k 32 b in ((held.visits k p i e).0, i))
    (λ b.
    absurd
    (true≢false
    (sym e
    ∙ ap (is_held_by p) (past_reads t.objects k past_object (rw held.sound.sized.objects (ltb-false k 32 b)))
    ∙ unheld_not_held p past_object none_unheld.1)))
    (either (ltb k 32))

-- who holds an object has a visit at its site
pub held_has_visit :
    {t₀ : Tables} → Started t₀ → (ss : List Step) (k p : ℕ) → k < 32 → is_holding (run_of t₀ ss) p k ≡ true
    → (p < 16) × ((visit_at (run_of t₀ ss) (object_site k) p).there ≡ true)
held_has_visit {t₀} fresh ss = (held_run fresh ss).visits

-- a call goes to its object's site
pub call_goes_home :
    {t₀ : Tables} → Started t₀ → (ss : List Step) (m : ℕ) (c : Call) → (message_at (run_of t₀ ss) m).body ≡ Body.Call c
    → ((message_at (run_of t₀ ss) m).destination ≡ object_site c.object) × (c.object < 32)
call_goes_home {t₀} fresh ss = (held_run fresh ss).calls
