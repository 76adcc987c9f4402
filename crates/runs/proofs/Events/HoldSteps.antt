-- What a step decides of who holds an object: a delivered call takes its own, any other step lets go at its site or does nothing. Assumes nothing.
use Rattle.std.specs.Prelude.{ℕ, ◌/◌, ◌%◌, ◌<◌, ◌≡◌, refl, Bool, true, false, ◌&&◌, ◌||◌, List, [], eqb, get_or}
use Rattle.std.proofs.Common.{arith, sym, ⊎_elim, get_or-set_same, get_or-set_other, eq-eqb, ne_eqb}
use Rattle.rules.specs.declared.tables.Object.{Object}
use Rattle.rules.specs.Types.{Check}
use Rattle.rules.specs.declared.looking.Trip.{Trip}
use Rattle.rules.specs.LoopsLaws.{cond_keeps}
use Rattle.rules.specs.Tables.{past_object, message_at, bank_at, object_site, slot_of}
use Rattle.rules.specs.Answers.{is_accepted, first_refusal, settle_of}
use Rattle.rules.specs.AnswersLaws.{accepted_fine}
use Rattle.rules.specs.Parts.{next_clock, is_held_by, is_held_by_other, taken, operated, freed, restored, told_objects}
use Rattle.rules.proofs.PartsLaws.{take_one, freed_lets_go, restored_lets_go, let_go_holder}
use Rattle.rules.specs.Stations.{tick_of, sweep_of, crash_of, recover_of, is_swept, swept_slot}
use Rattle.rules.specs.Passages.{begin_of, abort_of, retire_of}
use Rattle.rules.specs.Rounds.{refresh_of, terminate_of, prepare_of, open_of, ask_of, close_of, tell_of, closed, round_told}
use Rattle.rules.specs.Calls.{mail_clock, mail_slot, called_object, called, invoke_of, empty_of, deliver_call_of, deliver_phase_one_of, deliver_phase_two_of, deliver_answer_of, deliver_reply_of, deliver_body_of, drop_of}
use Rattle.rules.specs.Machine.{look_of, places_of, seen_of, decide_of}
use Rattle.rules.specs.Record.{flat_of, is_step}
use Rattle.rules.specs.Runs.{acts_at_site}
use Rattle.rules.proofs.StoredObjects.{each_at}
use Rattle.rules.specs.Events.{body_events, delivered_of}
use Rattle.runs.specs.Types.{Call, Told, Body, Tables, Step, Places, Seen, Found}
use Rattle.runs.specs.Walk.Put.{same_or_other}
use Rattle.runs.proofs.Holders.HeldStore.{Held}

-- ---- single objects

pub and_true : (b : Bool) → (b && true) ≡ b
and_true true = refl
and_true false = refl

pub and_false : (b : Bool) → (b && false) ≡ false
and_false true = refl
and_false false = refl

-- after a change that lets go at most: who holds it held it
abbrev pub LetsGo : Object → Object → Type 0
LetsGo o left = (p : ℕ) → is_held_by p left ≡ true → is_held_by p o ≡ true

-- ---- the four objects that a step looks at

abbrev pub AllLetGo : List Object → List Object → Type 0
AllLetGo os left = (i : ℕ) → i < 4 → LetsGo (get_or os i past_object) (get_or left i past_object)

-- the call's own object is held by the slot too, and nothing else changes
abbrev pub TakesIn : Call → ℕ → List Object → List Object → Type 0
TakesIn c slot os left =
    (i p : ℕ) → i < 4
    → is_held_by p (get_or left i past_object)
    ≡ ((eqb slot p && eqb (c.object % 4) i) || is_held_by p (get_or os i past_object))

told_lets_go : (told : Told) (p : ℕ) (os : List Object) → AllLetGo os (told_objects told p os)
told_lets_go (Told.Refresh q) p os i l = λ r e. e
told_lets_go (Told.Terminate m) p os i l = λ r e. e
told_lets_go Told.Prepare p os i l =
    rw (each_at (freed p) os i l) (λ r e. (let_go_holder p r (freed p) (freed_lets_go p) (get_or os i past_object) e).0)

closed_lets_go : (told : Told) (p clock : ℕ) (seen : Seen) → AllLetGo seen.objects (closed told p clock seen).objects
closed_lets_go told p clock seen =
    cond_keeps
    (AllLetGo seen.objects)
    seen.visit.there
    _
    seen.objects
    (told_lets_go told p seen.objects)
    (λ i l r e. e)

pub swept_lets_go : (site slot : ℕ) (seen : Seen) → AllLetGo seen.objects (swept_slot site slot seen).objects
unfolding swept_slot
swept_lets_go site slot seen =
    cond_keeps
    (λ (x : Seen). AllLetGo seen.objects x.objects)
    (is_swept seen)
    _
    seen
    (λ i l. rw (each_at (restored slot) seen.objects i l) (λ r e. (let_go_holder slot r (restored slot) (restored_lets_go slot) (get_or seen.objects i past_object) e).0))
    (λ i l r e. e)

-- the objects seen are four
called_takes :
    (t : Tables) (at : Places) (c : Call) (clock : ℕ)
    → is_held_by_other (mail_slot (seen_of t at)) (called_object c (seen_of t at)) ≡ false
    → TakesIn c (mail_slot (seen_of t at)) (bank_at t at.bank) (called c clock (seen_of t at)).objects
called_takes t at c clock free i p l =
    let now : Object = operated c (taken (mail_slot (seen_of t at)) (called_object c (seen_of t at))) in
    ⊎_elim
    (λ (y : i ≡ c.object % 4).
    rw
    (y, get_or-set_same (bank_at t at.bank) (c.object % 4) now past_object (omega arith), eq-eqb (c.object % 4) (c.object % 4) refl, and_true)
    (take_one (mail_slot (seen_of t at)) (called_object c (seen_of t at)) p c free))
    (λ n.
    rw (get_or-set_other (bank_at t at.bank) (c.object % 4) i now past_object n, ne_eqb (c.object % 4) i (λ e. n (sym e)), and_false))
    (same_or_other i (c.object % 4))

-- ---- what a decision does

-- the site of a sweep or a crash
abbrev pub TripAt : Trip → ℕ → Type 0
TripAt Trip.Nowhere s = Unit {0}
TripAt (Trip.Sweep site) s = site % 8 ≡ s
TripAt (Trip.Crash site) s = site % 8 ≡ s

-- a call: it took its object, which stands at the acting site
pub record Takes (t : Tables) (step : Step) (c : Call) (left : Seen) : Type 0 where
  pub code : is_step 11 step ≡ true
  pub body : (message_at t ((flat_of step).c % 32)).body ≡ Body.Call c
  pub slot : slot_of (message_at t ((flat_of step).c % 32)).handle ≡ (places_of t (look_of step)).slot
  pub acts : acts_at_site step ≡ true
  pub trip : (look_of step).trip ≡ Trip.Nowhere
  pub delivers : delivered_of t step ≡ body_events t step (places_of t (look_of step)).slot (Body.Call c)
  pub bank : (places_of t (look_of step)).bank ≡ object_site c.object
  pub site : (places_of t (look_of step)).site ≡ object_site c.object
  pub object : c.object < 32
  pub takes : TakesIn c (places_of t (look_of step)).slot (bank_at t (places_of t (look_of step)).bank) left.objects

-- any other step at a site: it let go of objects of that site at most
pub record LetGo (t : Tables) (step : Step) (left : Seen) : Type 0 where
  pub acts : acts_at_site step ≡ true
  pub trip : TripAt (look_of step).trip (places_of t (look_of step)).site
  pub delivers : delivered_of t step ≡ []
  pub bank : (places_of t (look_of step)).bank ≡ (places_of t (look_of step)).site
  pub lets_go : AllLetGo (bank_at t (places_of t (look_of step)).bank) left.objects

-- drop and retire: the objects stay
pub record Idle (t : Tables) (step : Step) (left : Seen) : Type 0 where
  pub acts : acts_at_site step ≡ false
  pub trip : (look_of step).trip ≡ Trip.Nowhere
  pub stays : left.objects ≡ bank_at t (places_of t (look_of step)).bank

pub data Did (t : Tables) (step : Step) (left : Seen) : Type 0 where
  took : (c : Call) → Takes t step c left → Did t step left
  let_go : LetGo t step left → Did t step left
  idle : Idle t step left → Did t step left

-- what a settled decision leaves of the objects
settled_lets_go :
    (cs : List Check) (v : ℕ) (seen left : Seen) → AllLetGo seen.objects left.objects
    → AllLetGo seen.objects (settle_of (record { answer = first_refusal cs v; left = left }) seen).left.objects
settled_lets_go cs v seen left h =
    cond_keeps (λ (x : Seen). AllLetGo seen.objects x.objects) (is_accepted (first_refusal cs v)) left seen h (λ i l r e. e)

objects_after_settled :
    (cs : List Check) (v : ℕ) (seen left : Seen) → left.objects ≡ seen.objects
    → (settle_of (record { answer = first_refusal cs v; left = left }) seen).left.objects ≡ seen.objects
objects_after_settled cs v seen left e = cond_keeps (λ (x : Seen). x.objects ≡ seen.objects) (is_accepted (first_refusal cs v)) left seen e refl

close_lets_go : (h : ℕ) (seen : Seen) → AllLetGo seen.objects (close_of h seen).left.objects
unfolding close_of
close_lets_go h seen = settled_lets_go _ _ seen _ (closed_lets_go (round_told seen.passage.round) (slot_of h) (next_clock seen.site) seen)

-- by what the message slot holds
module _ (t : Tables) (m : ℕ) (held : Held t) where
  abbrev At : Places
  At = places_of t (look_of (Step.Deliver m))

  delivered_did :
      (body : Body) → (message_at t At.message).body ≡ body → is_accepted (deliver_body_of body m (seen_of t At)).answer ≡ true
      → Did t (Step.Deliver m) (deliver_body_of body m (seen_of t At)).left
  unfolding delivered_of places_of deliver_body_of empty_of deliver_call_of deliver_phase_one_of deliver_phase_two_of deliver_answer_of deliver_reply_of
  delivered_did Body.Empty e a =
      let_go (record { acts = refl; trip = tt; delivers = rw e; bank = rw e; lets_go = settled_lets_go _ _ (seen_of t At) _ (λ i l r h. h) })
  delivered_did (Body.Call c) e a =
      let to : (message_at t At.message).destination ≡ c.object / 4 = (held.calls At.message c e).0 in
      let l : c.object < 32 = (held.calls At.message c e).1 in
      took
      c
      (record {
        code = refl;
        body = e;
        slot = refl;
        acts = refl;
        trip = refl;
        delivers = rw e;
        bank = rw e (omega arith);
        site = rw to (omega arith);
        object = l;
        takes = rw a (called_takes t At c (mail_clock (seen_of t At)) (accepted_fine _ _ a).unheld);
      })
  delivered_did (Body.PhaseOne n asked) e a =
      let_go (record { acts = refl; trip = tt; delivers = rw e; bank = rw e; lets_go = settled_lets_go _ _ (seen_of t At) _ (λ i l r h. h) })
  delivered_did (Body.PhaseTwo n told) e a =
      let_go
      (record {
        acts = refl;
        trip = tt;
        delivers = rw e;
        bank = rw e;
        lets_go = settled_lets_go _ _ (seen_of t At) _ (told_lets_go told (mail_slot (seen_of t At)) (bank_at t At.bank));
      })
  delivered_did (Body.Answer n r q) e a =
      let_go (record { acts = refl; trip = tt; delivers = rw e; bank = rw e; lets_go = settled_lets_go _ _ (seen_of t At) _ (λ i l r h. h) })
  delivered_did (Body.Reply value) e a =
      let_go (record { acts = refl; trip = tt; delivers = rw e; bank = rw e; lets_go = settled_lets_go _ _ (seen_of t At) _ (λ i l r h. h) })

-- a step of a site that is no delivery and leaves the objects
quiet_did :
    (t : Tables) (step : Step) (cs : List Check) (v : ℕ) (left : Seen) → acts_at_site step ≡ true
    → TripAt (look_of step).trip (places_of t (look_of step)).site
    → delivered_of t step ≡ []
    → (places_of t (look_of step)).bank ≡ (places_of t (look_of step)).site
    → left.objects ≡ bank_at t (places_of t (look_of step)).bank
    → Did t step (settle_of (record { answer = first_refusal cs v; left = left }) (seen_of t (places_of t (look_of step)))).left
quiet_did t step cs v left a trip d b e =
    let_go
    (record {
      acts = a;
      trip = trip;
      delivers = d;
      bank = b;
      lets_go = settled_lets_go cs v (seen_of t (places_of t (look_of step))) left (λ i l. rw e (λ r h. h));
    })

pub decided_did :
    (t : Tables) (step : Step) (found : Found) → Held t
    → is_accepted (decide_of step found (seen_of t (places_of t (look_of step)))).answer ≡ true
    → Did t step (decide_of step found (seen_of t (places_of t (look_of step)))).left
unfolding delivered_of places_of decide_of tick_of sweep_of crash_of recover_of begin_of abort_of retire_of refresh_of terminate_of prepare_of open_of ask_of tell_of invoke_of drop_of
decided_did t (Step.Tick site n) found k a = quiet_did t (Step.Tick site n) _ _ _ refl tt refl refl refl
decided_did t (Step.Begin home slot q r) found k a = quiet_did t (Step.Begin home slot q r) _ _ _ refl tt refl refl refl
decided_did t (Step.Invoke h site write object value) found k a = quiet_did t (Step.Invoke h site write object value) _ _ _ refl tt refl refl refl
decided_did t (Step.Refresh h q r) found k a = quiet_did t (Step.Refresh h q r) _ _ _ refl tt refl refl refl
decided_did t (Step.Terminate h) found k a = quiet_did t (Step.Terminate h) _ _ _ refl tt refl refl refl
decided_did t (Step.Prepare h) found k a = quiet_did t (Step.Prepare h) _ _ _ refl tt refl refl refl
decided_did t (Step.Ask h site) found k a = quiet_did t (Step.Ask h site) _ _ _ refl tt refl refl refl
decided_did t (Step.Close h) found k a =
    let_go (record { acts = refl; trip = tt; delivers = refl; bank = refl; lets_go = close_lets_go h (seen_of t (places_of t (look_of (Step.Close h)))) })
decided_did t (Step.Tell h site) found k a = quiet_did t (Step.Tell h site) _ _ _ refl tt refl refl refl
decided_did t (Step.Abort h) found k a = quiet_did t (Step.Abort h) _ _ _ refl tt refl refl refl
decided_did t (Step.Deliver m) found k a = delivered_did t m k _ refl a
decided_did t (Step.Drop m) found k a =
    idle (record { acts = refl; trip = refl; stays = objects_after_settled _ _ (seen_of t (places_of t (look_of (Step.Drop m)))) _ refl })
decided_did t (Step.Sweep site) found k a = quiet_did t (Step.Sweep site) _ _ _ refl refl refl refl refl
decided_did t (Step.Crash site) found k a = quiet_did t (Step.Crash site) _ _ _ refl refl refl refl refl
decided_did t (Step.Recover site) found k a = quiet_did t (Step.Recover site) _ _ _ refl tt refl refl refl
decided_did t (Step.Retire h) found k a =
    idle (record { acts = refl; trip = refl; stays = objects_after_settled _ _ (seen_of t (places_of t (look_of (Step.Retire h)))) _ refl })
