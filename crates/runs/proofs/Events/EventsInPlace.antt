-- Where an event stands: its slot is one of the sixteen, its object one of the 32, and its site the one at which the object stands. Assumes nothing.
use Rattle.std.specs.Prelude.{ℕ, zero, suc, ◌+◌, ◌*◌, ◌<◌, ◌≡◌, Bool, true, cond, List, [], ◌∷◌, ◌++◌}
use Rattle.std.proofs.Common.{arith, ⊎_elim}
use Rattle.rules.specs.LoopsLaws.{either, cond_keeps}
use Rattle.rules.specs.Tables.{object_at, object_site}
use Rattle.rules.specs.Answers.{is_accepted}
use Rattle.rules.proofs.RangesLaws.{placed_places}
use Rattle.rules.specs.Machine.{look_of, places_of, head_of, step_of}
use Rattle.rules.specs.Runs.{Started, acts_at_site, run_of}
use Rattle.rules.specs.Events.{EventKind, Event, event_in, is_holding, took_of, body_events, is_freed, join_up_to, freed_by, freed_of, events_of}
use Rattle.runs.specs.Types.{Call, Body, Tables, Step}
use Rattle.runs.proofs.Walk.Steps.{head_accepted}
use Rattle.runs.proofs.Holders.HeldStore.{Held}
use Rattle.runs.proofs.Holders.Holders.{held_run}
use Rattle.runs.specs.Events.Uses.{All, InPlace, AllInPlace}
use Rattle.runs.proofs.Events.HoldSteps.{Did, took, let_go, idle, decided_did}
use Rattle.runs.proofs.Events.HoldStores.{left_by}
use Rattle.runs.proofs.Events.EventsLaws.{refused_no_event, acting_events, idle_no_event}

-- ---- lists

pub all_joined : {A : Type 0} (P : A → Type 0) (xs ys : List A) → All P xs → All P ys → All P (xs ++ ys)
all_joined P [] ys f g = g
all_joined P (x ∷ xs) ys f g = (f.0, all_joined P xs ys f.1 g)

pub all_up_to : (P : Event → Type 0) (f : ℕ → List Event) (n : ℕ) → ((i : ℕ) → i < n → All P (f i)) → All P (join_up_to f n)
unfolding join_up_to
all_up_to P f zero h = tt
all_up_to P f (suc n) h = all_joined P (join_up_to f n) (f n) (all_up_to P f n (λ i l. h i (omega arith))) (h n (omega arith))

-- an event or none
if_in_place : (t : Tables) (step : Step) (b : Bool) (e : Event) → InPlace t step e → AllInPlace t step (cond b (e ∷ []) [])
if_in_place t step b e h = cond_keeps (AllInPlace t step) b (e ∷ []) [] (h, tt) tt

if_not_in_place : (t : Tables) (step : Step) (b : Bool) (e : Event) → InPlace t step e → AllInPlace t step (cond b [] (e ∷ []))
if_not_in_place t step b e h = cond_keeps (AllInPlace t step) b [] (e ∷ []) tt (h, tt)

-- ---- the events of a step that acts at a site

module _ (t : Tables) (step : Step) (acts : acts_at_site step ≡ true) where
  event_in_place :
      (kind : EventKind) (slot object : ℕ) → slot < 16 → object < 32 → (places_of t (look_of step)).site ≡ object_site object
      → InPlace t step (event_in t step kind slot object)
  event_in_place kind slot object p k s = record { slot = p; object = k; site = s; stamp = rw acts }

  freed_in_place : AllInPlace t step (freed_of t step)
  unfolding freed_of
  freed_in_place =
      let s : (places_of t (look_of step)).site < 8 = (placed_places t (look_of step)).site in
      all_up_to (InPlace t step) (freed_by t step) 16 λ slot p.
      all_up_to (InPlace t step) _ 4 λ i l.
      if_in_place
      t
      step
      (is_freed t step slot (4 * (places_of t (look_of step)).site + i))
      _
      (event_in_place EventKind.Freed slot (4 * (places_of t (look_of step)).site + i) p (omega arith) (omega arith))

  call_in_place :
      (c : Call) → c.object < 32 → (places_of t (look_of step)).site ≡ object_site c.object
      → AllInPlace t step (body_events t step (places_of t (look_of step)).slot (Body.Call c))
  call_in_place c k s =
      let p : (places_of t (look_of step)).slot < 16 = (placed_places t (look_of step)).slot in
      all_joined
      (InPlace t step)
      (took_of t step (places_of t (look_of step)).slot c.object)
      _
      (if_not_in_place t step (is_holding t (places_of t (look_of step)).slot c.object) _ (event_in_place EventKind.Took _ c.object p k s))
      (event_in_place (EventKind.Operated c.write (object_at t c.object).value c.value) _ c.object p k s, tt)

-- ---- every step

accepted_in_place :
    (t : Tables) (step : Step) → is_accepted (step_of t step).answer ≡ true → Did t step (left_by t step) → AllInPlace t step (events_of t step)
accepted_in_place t step a (took c f) =
    rw
    (acting_events t step a f.acts, f.delivers)
    (all_joined
    (InPlace t step)
    (body_events t step (places_of t (look_of step)).slot (Body.Call c))
    (freed_of t step)
    (call_in_place t step f.acts c f.object f.site)
    (freed_in_place t step f.acts))
accepted_in_place t step a (let_go f) = rw (acting_events t step a f.acts, f.delivers) (freed_in_place t step f.acts)
accepted_in_place t step a (idle f) = rw (idle_no_event t step f.acts) tt

pub events_in_place_from : (t : Tables) (step : Step) → Held t → AllInPlace t step (events_of t step)
unfolding head_of
events_in_place_from t step held =
    ⊎_elim
    (λ a. accepted_in_place t step a (decided_did t step _ held (head_accepted t step a)))
    (λ a. rw (refused_no_event t step a) tt)
    (either (is_accepted (step_of t step).answer))

-- in every run each event is of a slot and an object that there are, at the site where the object stands, at that site's clock
pub events_in_place : {t₀ : Tables} → Started t₀ → (ss : List Step) (step : Step) → AllInPlace (run_of t₀ ss) step (events_of (run_of t₀ ss) step)
events_in_place {t₀} fresh ss step = events_in_place_from (run_of t₀ ss) step (held_run fresh ss)
