-- What the laws of single steps speak of: an operation of an object, a visit that is still open, a call as it was sent, a message as it was stamped,
-- a visit that a sweep took or a crash struck, what a begin makes, how clocks move, and what becomes of a message. Assumes nothing.
use Rattle.std.specs.Prelude.{ℕ, ◌+◌, ◌%◌, ◌≤◌, ◌<◌, max, ◌≡◌, ◌≢◌, ◌⊎◌, Bool, true, false, cond, ◌&&◌, List, ◌∷◌, ◌++◌, eqb}
use Rattle.rules.specs.Tables.{site_at, passage_at, visit_at, message_at, object_site, slot_of}
use Rattle.rules.specs.Answers.{is_accepted, answer_value}
use Rattle.rules.specs.Parts.{is_empty, plain_message}
use Rattle.rules.specs.Stations.{is_sweepable}
use Rattle.rules.specs.Machine.{look_of, places_of, step_of}
use Rattle.rules.specs.Record.{flat_of, is_step}
use Rattle.rules.specs.Runs.{acts_at_site, run_of}
use Rattle.runs.specs.Types.{Phase, Status, Visit, Call, Body, Message, Tables, Step}
use Rattle.runs.specs.Walk.Says.{by_saying}

-- ---- operations

-- the message that a delivery names. (Messages are 0..31, so the remainder changes nothing; of any other step it says nothing.)
abbrev pub mail_named : Tables → Step → Message
mail_named t s = message_at t ((flat_of s).c % 32)

-- is it a call for object k?
abbrev pub calls_for : ℕ → Body → Bool
calls_for k = by_saying false (λ c. eqb c.object k) (λ a. false) (λ d. false)

-- s is an accepted delivery (code 11) of a call of slot p for object k, read off the tables before it.
-- (So k is one of 0..31 and p one of 0..15: tables with another number in a call are refused by 20, and a handle names a slot by a remainder.)
abbrev pub operates : Tables → ℕ → ℕ → Step → Bool
operates t p k s =
    is_accepted (step_of t s).answer && (is_step 11 s && (eqb (slot_of (mail_named t s).handle) p && calls_for k (mail_named t s).body))

-- whether the operation writes, and the value that the call brings
abbrev pub is_write : Body → Bool
is_write = by_saying false (λ c. c.write) (λ a. false) (λ d. false)

abbrev pub to_write : Body → ℕ
to_write = by_saying 0 (λ c. c.value) (λ a. 0) (λ d. 0)

-- the times that a call brings to a station that has no visit of its passage yet
abbrev pub said_quiesce : Body → ℕ
said_quiesce = by_saying 0 (λ c. c.quiesce) (λ a. 0) (λ d. 0)

abbrev pub said_release : Body → ℕ
said_release = by_saying 0 (λ c. c.release) (λ a. 0) (λ d. 0)

-- the station that the operation is at. (Of tables of a run it is the object's.)
abbrev pub operated_at : Tables → Step → ℕ
operated_at t s = (mail_named t s).destination % 8

-- a reply to the call that the operation delivers: with this value, from its station to the one that called, for the call's handle,
-- stamped with its station's clock after it, and with nothing else
abbrev pub reply_for : Tables → Step → ℕ → Message
reply_for t s v =
    plain_message
    (Body.Reply v)
    (mail_named t s).destination
    (mail_named t s).source
    (mail_named t s).handle
    (site_at (step_of t s).tables (operated_at t s)).clock

-- what the operation found: the reply that it leaves in its message slot carries this value
abbrev pub Finds : Tables → Step → ℕ → Type 0
Finds t s v = (mail_named (step_of t s).tables s).body ≡ Body.Reply v

-- ---- before the quiesce time

-- the station is up, the passage's visit is there and not dead, and its quiesce time is still to come
pub record StillOpen (t : Tables) (site slot : ℕ) : Type 0 where
  pub up : (site_at t site).up ≡ true
  pub there : (visit_at t site slot).there ≡ true
  pub early : (site_at t site).clock < (visit_at t site slot).quiesce
  pub alive : (visit_at t site slot).dead ≡ false

-- what a station needs before it: it is up, and the passage's visit there, if it has one, is not dead
pub record Living (t : Tables) (site slot : ℕ) : Type 0 where
  pub up : (site_at t site).up ≡ true
  pub alive : (visit_at t site slot).there ≡ true → (visit_at t site slot).dead ≡ false

-- ---- a call as it was sent

-- the message that an invoke h, a=site, b, c=k, u left in this place, by the fields of the step, the visit before it and the clock after it
pub record SaysCall (before after : Tables) (h site b k u place : ℕ) : Type 0 where
  -- the place is a message slot that was empty
  pub place_below : place < 32
  pub empty : is_empty (message_at before place).body ≡ true
  -- a call for this object: this operation, with this value
  pub call : Call
  pub body : (message_at after place).body ≡ Body.Call call
  pub object : call.object ≡ k
  pub operation : call.write ≡ eqb b 1
  pub value : call.value ≡ u
  -- "a call goes out with the visit's Q, R and round"
  pub quiesce : call.quiesce ≡ (visit_at before site (slot_of h)).quiesce
  pub release : call.release ≡ (visit_at before site (slot_of h)).release
  pub round : call.round ≡ (visit_at before site (slot_of h)).round
  -- from the site to the object's, for this handle, stamped with the moved clock
  pub source : (message_at after place).source ≡ site
  pub destination : (message_at after place).destination ≡ object_site k
  pub handle : (message_at after place).handle ≡ h
  pub stamp : (message_at after place).stamp ≡ (site_at after site).clock

-- the visit keeps its quiesce and release time and its round
pub record SameTimes (before after : Visit) : Type 0 where
  pub quiesce : after.quiesce ≡ before.quiesce
  pub release : after.release ≡ before.release
  pub round : after.round ≡ before.round

-- ---- deliveries

-- this clock of the destination is above the message's stamp, and above what it was
pub record AfterSent (before after : Tables) (m : Message) : Type 0 where
  pub sent : m.stamp < (site_at after (m.destination % 8)).clock
  pub moved : (site_at before (m.destination % 8)).clock < (site_at after (m.destination % 8)).clock

-- ---- sweeps

-- the step is an accepted sweep of the site, and it took the slot's visit there: one that a sweep may take, whose release time had come
pub record SweptAt (t : Tables) (step : Step) (site slot : ℕ) : Type 0 where
  pub accepted : is_accepted (step_of t step).answer ≡ true
  pub sweeps : step ≡ Step.Sweep site
  pub there : (visit_at t site slot).there ≡ true
  pub sweepable : is_sweepable (visit_at t site slot) ≡ true
  pub released : (visit_at t site slot).release ≤ (site_at (step_of t step).tables site).clock
  pub gone : (visit_at (step_of t step).tables site slot).there ≡ false

-- ---- statuses

-- committed or aborted, by the words of document 01 and not by the test of a retire
abbrev pub IsOver : Status → Type 0
IsOver s = (s ≡ Status.Committed) ⊎ (s ≡ Status.Aborted)

-- active or committing, by the words of document 01 and not by a test of the rules
abbrev pub IsRunning : Status → Type 0
IsRunning s = (s ≡ Status.Active) ⊎ (s ≡ Status.Committing)

-- ---- crashes

-- a visit that a crash has struck: it is there, dead and unprepared, and its quiesce time is not after this clock
pub record Dead (clock : ℕ) (v : Visit) : Type 0 where
  pub there : v.there ≡ true
  pub dead : v.dead ≡ true
  pub prepared : v.prepared ≡ false
  pub quiesced : v.quiesce ≤ clock

-- what a crash of the station does to a slot: to its unprepared visit there, and to its active or committing passage whose home the station is
pub record Struck (before after : Tables) (s p : ℕ) : Type 0 where
  pub unprepared :
      (visit_at before s p).there ≡ true → (visit_at before s p).prepared ≡ false → Dead (site_at after s).clock (visit_at after s p)
  pub aborted : IsRunning (passage_at before p).status → (passage_at before p).home ≡ s → (passage_at after p).status ≡ Status.Aborted
  pub phaseless : IsRunning (passage_at before p).status → (passage_at before p).home ≡ s → (passage_at after p).round.phase ≡ Phase.None
  pub homeless :
      IsRunning (passage_at before p).status → (passage_at before p).home ≡ s → (visit_at before s p).there ≡ true
      → Dead (site_at after s).clock (visit_at after s p)

-- what a crash does: the station is one of the eight and is down after it, and every slot is struck
pub record Strikes (before after : Tables) (s : ℕ) : Type 0 where
  pub station_below : s < 8
  pub down : (site_at after s).up ≡ false
  pub slots : (p : ℕ) → p < 16 → Struck before after s p

-- ---- messages that home and stations send

-- in this message slot stands a message with this body, from this site to that one, for this handle, stamped with its sender's clock
pub record Stamped (t : Tables) (place : ℕ) (says : Body) (from to h : ℕ) : Type 0 where
  pub place_below : place < 32
  pub body : (message_at t place).body ≡ says
  pub source : (message_at t place).source ≡ from
  pub destination : (message_at t place).destination ≡ to
  pub handle : (message_at t place).handle ≡ h
  pub stamp : (message_at t place).stamp ≡ (site_at t from).clock

-- ---- begin

-- what a begin a=home, b=slot, u=q, v=r does
pub record BeginsSo (before after : Tables) (home slot q r : ℕ) : Type 0 where
  pub home_below : home < 8
  pub slot_below : slot < 16
  pub was_free : (passage_at before slot).status ≡ Status.Free
  pub active : (passage_at after slot).status ≡ Status.Active
  pub lives : (passage_at after slot).home ≡ home
  pub there : (visit_at after home slot).there ≡ true
  pub quiesce : (visit_at after home slot).quiesce ≡ q
  pub release : (visit_at after home slot).release ≡ r
  pub unprepared : (visit_at after home slot).prepared ≡ false
  pub alive : (visit_at after home slot).dead ≡ false

-- ---- clocks

-- "tick by n; a delivery to 1 + max(clock, message stamp); any other by 1", from this clock
abbrev pub moved_from : Tables → Step → ℕ → ℕ
moved_from t step clock =
    cond (is_step 1 step) (clock + (flat_of step).u) (cond (is_step 11 step) (max clock (mail_named t step).stamp + 1) (clock + 1))

-- the site where the step acts has the moved clock, and every other site the clock that it had
pub record ClocksMoved (t after : Tables) (step : Step) : Type 0 where
  pub own :
      acts_at_site step ≡ true
      → (site_at after (places_of t (look_of step)).site).clock ≡ moved_from t step (site_at t (places_of t (look_of step)).site).clock
  pub idle : acts_at_site step ≡ false → (site_at after (places_of t (look_of step)).site).clock ≡ (site_at t (places_of t (look_of step)).site).clock
  pub others : (s : ℕ) → s ≢ (places_of t (look_of step)).site → (site_at after s).clock ≡ (site_at t s).clock

-- ---- what becomes of a message

-- the step is an accepted invoke, and m is the message slot that it answers
pub record InvokedInto (t : Tables) (step : Step) (m : ℕ) : Type 0 where
  pub handle : ℕ
  pub site : ℕ
  pub operation : ℕ
  pub object : ℕ
  pub value : ℕ
  pub invokes : step ≡ Step.Invoke handle site operation object value
  pub accepted : is_accepted (step_of t (Step.Invoke handle site operation object value)).answer ≡ true
  pub answers : answer_value (step_of t (Step.Invoke handle site operation object value)).answer ≡ m

-- the step is an accepted delivery of the call in message slot m
pub record RepliedInto (t : Tables) (step : Step) (m : ℕ) : Type 0 where
  pub delivers : step ≡ Step.Deliver m
  pub call : Call
  pub body : (message_at t m).body ≡ Body.Call call
  pub accepted : is_accepted (step_of t (Step.Deliver m)).answer ≡ true

-- among these steps is one that is accepted and delivers or drops message m; until then the message waits as it was
pub record TakenUp (t : Tables) (m : ℕ) (steps : List Step) : Type 0 where
  pub first : List Step
  pub step : Step
  pub rest : List Step
  pub all : steps ≡ first ++ step ∷ rest
  pub waits : message_at (run_of t first) m ≡ message_at t m
  pub accepted : is_accepted (step_of (run_of t first) step).answer ≡ true
  pub own : (step ≡ Step.Deliver m) ⊎ (step ≡ Step.Drop m)

-- the step operates object k for the slot of h, as an invoke with these fields says: it writes u, or it reads
pub record DoneAsSaid (t : Tables) (h b k u : ℕ) (s : Step) : Type 0 where
  pub does : operates t (slot_of h) k s ≡ true
  pub operation : is_write (mail_named t s).body ≡ eqb b 1
  pub value : to_write (mail_named t s).body ≡ u
