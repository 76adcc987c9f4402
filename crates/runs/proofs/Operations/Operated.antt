-- What an operation finds and leaves, of any sound tables: the object was free or the passage's own and is held after it, the reply carries the value before,
-- a write leaves its value and a read the old one, and the visit that operated is still open after it.
-- The idea: an accepted delivery of a call is one store, and its object stands where the call's bank says. Assumes nothing.
use Prim.Native.Nat.{ℕ, ◌/◌, ◌%◌, ◌≤◌, ◌<◌}
use Rattle.std.proofs.Common.{arith, sym, ◌∙◌, ⊎_elim, inl, inr, true≢false, get_or-set_same, get_or-set_other, Ok}
use Rattle.std.specs.Prelude.{◌≡◌, ◌≢◌, ◌⊎◌, true, false, cond, eqb, leb}
use Rattle.std.proofs.Math.Path.{refl, ap}
use Rattle.std.proofs.lemmas.Bool.{false≢true}
use borrow.Author.Tests.{eqb-true, leb-false}
use Rattle.rules.specs.declared.tables.Object.{Object}
use Rattle.rules.specs.LoopsLaws.{either, and_left, and_right, or_left, or_right, not_false}
use Rattle.rules.specs.Tables.{past_object, site_at, object_at, visit_at, message_at, object_site, slot_of}
use Rattle.rules.specs.Answers.{is_accepted, first_refusal}
use Rattle.rules.specs.AnswersLaws.{Fine, accepted_fine, accepted_value, settle_accepted}
use Rattle.rules.specs.Parts.{is_unheld, is_held_by, is_held_by_other, taken, operated, plain_message}
use Rattle.rules.proofs.PartsLaws.{value_of_read, value_of_written, before_of_called, holder_of_called, held_not_unheld}
use Rattle.rules.specs.Calls.{mail_clock, mail_slot, called_visit, called_object, call_checks, called, call_done, deliver_call_of, deliver_body_of}
use Rattle.rules.specs.Machine.{look_of, places_of, decide_of, stored, step_of}
use Rattle.rules.proofs.RangesLaws.{placed_places}
use Rattle.rules.proofs.RangesFits.{call_range_says}
use Rattle.rules.specs.StoredLaws.{site_after_stored, visit_after_stored, message_after_stored}
use Rattle.rules.proofs.StoredObjects.{seen_object, object_after_stored, object_after_stored_other}
use Rattle.rules.specs.Record.{is_step}
use Rattle.rules.specs.Events.{is_holding}
use Rattle.rules.proofs.Views.{Objects, deed_of}
use Rattle.runs.specs.Types.{Site, Visit, Call, Body, Message, Tables, Step, Places, Seen, Decision}
use Rattle.runs.specs.Walk.Put.{same_or_other}
use Rattle.runs.specs.Walk.Seen.{places_at, seen_at}
use Rattle.runs.proofs.Walk.Sound.{Sound}
use Rattle.runs.proofs.Holders.HeldStore.{Held}
use Rattle.runs.proofs.Orphans.Rests.{standing, standing_after_call}
use Rattle.runs.specs.Operations.Definitions.{mail_named, calls_for, operates, is_write, to_write, said_quiesce, said_release, operated_at, reply_for, Finds, StillOpen, Living}
use Rattle.runs.proofs.Operations.Single.{decision_at, accepted_seen, decision_accepted, single_answer, single_stored}

-- ---- an accepted delivery of a call

module _ (t : Tables) (m : ℕ) (c : Call) (z : Sound t) (a : is_accepted (step_of t (Step.Deliver m)).answer ≡ true)
    (b : (message_at t (m % 32)).body ≡ Body.Call c) where
  abbrev At : Places
  At = places_at t (Step.Deliver m)

  abbrev Saw : Seen
  Saw = seen_at t (Step.Deliver m)

  decided : decision_at t (Step.Deliver m) ≡ deliver_call_of m c Saw
  unfolding places_of decide_of deliver_body_of
  decided = rw b

  checked : is_accepted (first_refusal (call_checks m c Saw) 0) ≡ true
  unfolding deliver_call_of
  checked = rw decided at (decision_accepted t (Step.Deliver m) a)

  fine : Fine (call_checks m c Saw)
  fine = accepted_fine (call_checks m c Saw) 0 checked

  answered : (step_of t (Step.Deliver m)).answer ≡ Ok 0
  unfolding deliver_call_of
  answered =
      single_answer t (Step.Deliver m) refl a ∙ ap (λ (d : Decision). d.answer) decided
      ∙ accepted_value (call_checks m c Saw) 0 checked

  left_there : (step_of t (Step.Deliver m)).tables ≡ stored t At (called c (mail_clock Saw) Saw)
  unfolding deliver_call_of
  left_there =
      single_stored t (Step.Deliver m) refl a
      ∙ ap (λ (d : Decision). stored t At d.left) decided
      ∙ ap (stored t At) (settle_accepted (call_done m c Saw) Saw checked)

  -- a call in tables that are in range is for one of the 32 objects
  object_below : c.object ≤ 31
  unfolding places_of
  object_below = (call_range_says c (rw b at (accepted_seen t (Step.Deliver m) a).message.body)).object

  -- so its bank is its own
  bank_here : object_site c.object ≡ At.bank
  unfolding places_of
  bank_here = let l : c.object ≤ 31 = object_below in rw b (omega arith)

  object_seen : called_object c Saw ≡ object_at t c.object
  object_seen = seen_object t c.object At.bank bank_here

  -- the object after it
  object_left : object_at (step_of t (Step.Deliver m)).tables c.object ≡ operated c (taken (mail_slot Saw) (object_at t c.object))
  object_left =
      ap (λ (u : Tables). object_at u c.object) left_there
      ∙ object_after_stored t At (called c (mail_clock Saw) Saw) z.sized (placed_places t (look_of (Step.Deliver m))) c.object bank_here
      ∙ get_or-set_same Saw.objects (c.object % 4) (operated c (taken (mail_slot Saw) (called_object c Saw))) past_object (omega arith)
      ∙ ap (λ (o : Object). operated c (taken (mail_slot Saw) o)) object_seen

  -- every other object
  objects_left : (j : ℕ) → j ≢ c.object → object_at (step_of t (Step.Deliver m)).tables j ≡ object_at t j
  objects_left j n =
      ap (λ (u : Tables). object_at u j) left_there
      ∙ ⊎_elim
      (λ (e : object_site j ≡ At.bank).
      let x : j / 4 ≡ At.bank = e in
      let y : c.object / 4 ≡ At.bank = bank_here in
      object_after_stored t At (called c (mail_clock Saw) Saw) z.sized (placed_places t (look_of (Step.Deliver m))) j e
      ∙ get_or-set_other Saw.objects (c.object % 4) (j % 4) _ past_object (λ (q : j % 4 ≡ c.object % 4). n (omega arith))
      ∙ seen_object t j At.bank e)
      (λ d. object_after_stored_other t At (called c (mail_clock Saw) Saw) j d)
      (same_or_other (object_site j) At.bank)

  site_left : site_at (step_of t (Step.Deliver m)).tables At.site ≡ (called c (mail_clock Saw) Saw).site
  site_left =
      ap (λ (u : Tables). site_at u At.site) left_there
      ∙ site_after_stored t At (called c (mail_clock Saw) Saw) z.sized (placed_places t (look_of (Step.Deliver m)))

  -- in the message slot stands the reply
  reply_left : message_at (step_of t (Step.Deliver m)).tables (m % 32) ≡ reply_for t (Step.Deliver m) (object_at t c.object).value
  unfolding places_of
  reply_left =
      ap (λ (u : Tables). message_at u (m % 32)) left_there
      ∙ message_after_stored t At (called c (mail_clock Saw) Saw) z.sized (placed_places t (look_of (Step.Deliver m)))
      ∙ ap (λ (o : Object). reply o.value (mail_clock Saw)) object_seen
      ∙ ap (reply (object_at t c.object).value) (ap (λ (s : Site). s.clock) (sym site_left))
    where
      reply : ℕ → ℕ → Message
      reply v = plain_message (Body.Reply v) (message_at t (m % 32)).destination (message_at t (m % 32)).source (message_at t (m % 32)).handle

  visit_left : visit_at (step_of t (Step.Deliver m)).tables At.site At.slot ≡ (called c (mail_clock Saw) Saw).visit
  visit_left =
      ap (λ (u : Tables). visit_at u At.site At.slot) left_there
      ∙ visit_after_stored t At (called c (mail_clock Saw) Saw) z.sized (placed_places t (look_of (Step.Deliver m)))

  visit_made : (v : Visit) → (called_visit c v).there ≡ true
  visit_made v = ⊎_elim (λ e. rw e) (λ e. rw e) (either v.there)

  open_left : StillOpen (step_of t (Step.Deliver m)).tables At.site At.slot
  open_left =
      record {
        up = ap (λ (s : Site). s.up) site_left ∙ not_false _ fine.up;
        there = ap (λ (v : Visit). v.there) visit_left ∙ visit_made Saw.visit;
        early = rw (site_left, visit_left) (leb-false _ _ (or_left _ _ fine.early));
        alive = ap (λ (v : Visit). v.dead) visit_left ∙ or_right (leb (called_visit c Saw.visit).quiesce (mail_clock Saw)) _ fine.early;
      }

  living_before : Living t At.site At.slot
  living_before =
      record {
        up = not_false _ fine.up;
        alive = λ (e : Saw.visit.there ≡ true). rw e at (or_right (leb (called_visit c Saw.visit).quiesce (mail_clock Saw)) _ fine.early);
      }

-- ---- what an operation is

-- all that the laws below say, of the call that the step delivers
record Operation (t : Tables) (p k : ℕ) (s : Step) : Type 0 where
  call : Call
  writes : is_write (mail_named t s).body ≡ call.write
  value : to_write (mail_named t s).body ≡ call.value
  below : k < 32
  free : is_held_by_other p (object_at t k) ≡ false
  answer : (step_of t s).answer ≡ Ok 0
  reply : mail_named (step_of t s).tables s ≡ reply_for t s (object_at t k).value
  after : object_at (step_of t s).tables k ≡ operated call (taken p (object_at t k))
  others : (j : ℕ) → j ≢ k → object_at (step_of t s).tables j ≡ object_at t j
  station : Held t → operated_at t s ≡ object_site k
  living : Living t (operated_at t s) p
  opened : StillOpen (step_of t s).tables (operated_at t s) p
  times :
      ((visit_at (step_of t s).tables (operated_at t s) p).quiesce
      ≡ cond (visit_at t (operated_at t s) p).there (visit_at t (operated_at t s) p).quiesce (said_quiesce (mail_named t s).body))
      × ((visit_at (step_of t s).tables (operated_at t s) p).release
      ≡ cond (visit_at t (operated_at t s) p).there (visit_at t (operated_at t s) p).release (said_release (mail_named t s).body))

module _ (t : Tables) (z : Sound t) where
  call_operation :
      (m p k : ℕ) (body : Body) → (message_at t (m % 32)).body ≡ body → is_accepted (step_of t (Step.Deliver m)).answer ≡ true
      → slot_of (message_at t (m % 32)).handle ≡ p
      → calls_for k body ≡ true
      → Operation t p k (Step.Deliver m)
  unfolding places_of
  call_operation m p k Body.Empty b a e f = absurd (false≢true f)
  call_operation m p k (Body.Call c) b a e f =
      let o : c.object ≡ k = eqb-true c.object k f in
      let l : c.object ≤ 31 = object_below t m c z a b in
      let v : Visit = visit_at t ((message_at t (m % 32)).destination % 8) (slot_of (message_at t (m % 32)).handle) in
      record {
        call = c;
        writes = rw b;
        value = rw b;
        below = rw (← o) (omega arith);
        free = rw (← e, ← o) (rw (object_seen t m c z a b) at (fine t m c z a b).unheld);
        answer = answered t m c z a b;
        reply = rw (← o) (reply_left t m c z a b);
        after = rw (← e, ← o) (object_left t m c z a b);
        others = λ j n. objects_left t m c z a b j (λ y. n (y ∙ o));
        station =
            λ held.
            let d : (message_at t (m % 32)).destination ≡ c.object / 4 = (held.calls (m % 32) c b).0 in
            rw (← o, d) (omega arith);
        living = rw (← e) (living_before t m c z a b);
        opened = rw (← e) (open_left t m c z a b);
        times =
            rw
            (← e, b)
            (⊎_elim
            (λ (y : v.there ≡ true). rw (visit_left t m c z a b, y) (refl, refl))
            (λ (y : v.there ≡ false). rw (visit_left t m c z a b, y) (refl, refl))
            (either v.there));
      }
  call_operation m p k (Body.PhaseOne n asked) b a e f = absurd (false≢true f)
  call_operation m p k (Body.PhaseTwo n told) b a e f = absurd (false≢true f)
  call_operation m p k (Body.Answer n r q) b a e f = absurd (false≢true f)
  call_operation m p k (Body.Reply v) b a e f = absurd (false≢true f)

  step_operation : (p k : ℕ) (s : Step) → Objects s → operates t p k s ≡ true → Operation t p k s
  step_operation p k _ (Objects.Closes h) f = absurd (false≢true (and_right (is_accepted (step_of t (Step.Close h)).answer) _ f))
  step_operation p k _ (Objects.Delivers m) f =
      let g = and_right (is_accepted (step_of t (Step.Deliver m)).answer) _ f in
      call_operation
      m
      p
      k
      (message_at t (m % 32)).body
      refl
      (and_left _ _ f)
      (eqb-true _ p (and_left _ _ g))
      (and_right (eqb (slot_of (message_at t (m % 32)).handle) p) _ g)
  step_operation p k _ (Objects.Stay s c d stay) f =
      absurd (true≢false (sym (and_left (is_step 11 s) _ (and_right (is_accepted (step_of t s).answer) _ f)) ∙ d))

-- ---- the laws

module _ (t : Tables) (p k : ℕ) (s : Step) (z : Sound t) (operating : operates t p k s ≡ true) where
  op : Operation t p k s
  op = step_operation t z p k s (deed_of s).objects operating

  -- an operation is of one of the 32 objects
  pub operated_below : k < 32
  operated_below = op.below

  -- before an operation nobody holds the object, or its own passage does
  pub operated_was_free_or_own : (is_unheld (object_at t k) ≡ true) ⊎ (is_holding t p k ≡ true)
  operated_was_free_or_own =
      ⊎_elim
      (λ e. inl e)
      (λ (e : is_unheld (object_at t k) ≡ false). inr (rw e at (holder_of_called p (object_at t k) read op.free)))
      (either (is_unheld (object_at t k)))
    where
      -- a read of an object that is held leaves it as it is
      read : Call
      read = record { quiesce = 0; release = 0; round = 0; object = 0; write = false; value = 0 }

  -- after an operation its passage holds the object
  pub operated_is_held : is_holding (step_of t s).tables p k ≡ true
  operated_is_held = ap (is_held_by p) op.after ∙ holder_of_called p (object_at t k) op.call op.free

  -- an operation answers nothing
  pub operated_answers : (step_of t s).answer ≡ Ok 0
  operated_answers = op.answer

  -- it leaves in its message slot a reply with the value that the object had before it
  pub operated_replies : mail_named (step_of t s).tables s ≡ reply_for t s (object_at t k).value
  operated_replies = op.reply

  -- so what it found is the value that the object had
  pub operated_finds : Finds t s (object_at t k).value
  operated_finds = ap (λ (x : Message). x.body) operated_replies

  pub found_before : (v : ℕ) → Finds t s v → (object_at t k).value ≡ v
  found_before v found = let same : Body.Reply (object_at t k).value ≡ Body.Reply v = sym operated_finds ∙ found in cc

  -- after a write the object has the value that the call brought
  pub operated_writes : is_write (mail_named t s).body ≡ true → (object_at (step_of t s).tables k).value ≡ to_write (mail_named t s).body
  operated_writes e =
      ap (λ (o : Object). o.value) op.after ∙ value_of_written p (object_at t k) op.call (sym op.writes ∙ e) ∙ sym op.value

  -- a read leaves the value
  pub operated_read_leaves : is_write (mail_named t s).body ≡ false → (object_at (step_of t s).tables k).value ≡ (object_at t k).value
  operated_read_leaves e =
      ap (λ (o : Object). o.value) op.after ∙ value_of_read p (object_at t k) op.call (sym op.writes ∙ e)

  before_after : (object_at (step_of t s).tables k).before ≡ standing (object_at t k)
  before_after = ap (λ (o : Object). o.before) op.after ∙ before_of_called p (object_at t k) op.call

  -- where nobody held the object, the value that it had is saved
  pub operated_saves : is_unheld (object_at t k) ≡ true → (object_at (step_of t s).tables k).before ≡ (object_at t k).value
  operated_saves e = rw e at before_after

  -- where its passage held it, what was saved stays
  pub operated_keeps_saved : is_holding t p k ≡ true → (object_at (step_of t s).tables k).before ≡ (object_at t k).before
  operated_keeps_saved e = rw (held_not_unheld p (object_at t k) e) at before_after

  -- so the width that stands is as it was
  pub standing_after_operated : standing (object_at (step_of t s).tables k) ≡ standing (object_at t k)
  standing_after_operated = ap standing op.after ∙ standing_after_call p op.call (object_at t k)

  -- an operation leaves every other object as it was
  pub others_after_operated : (j : ℕ) → j ≢ k → object_at (step_of t s).tables j ≡ object_at t j
  others_after_operated = op.others

  -- before an operation the station is up, and the passage's visit there, if it has one, is not dead
  pub operated_while_living : Living t (operated_at t s) p
  operated_while_living = op.living

  -- after an operation the station is up, and the passage's visit there is there, not dead, and before its quiesce time
  pub nothing_after_quiesce : StillOpen (step_of t s).tables (operated_at t s) p
  nothing_after_quiesce = op.opened

  -- and an operation moves no quiesce time: it is the visit's own, or the call's where there was no visit
  pub quiesce_after_operated :
      (visit_at (step_of t s).tables (operated_at t s) p).quiesce
      ≡ cond (visit_at t (operated_at t s) p).there (visit_at t (operated_at t s) p).quiesce (said_quiesce (mail_named t s).body)
  quiesce_after_operated = op.times.0

  -- nor a release time
  pub release_after_operated :
      (visit_at (step_of t s).tables (operated_at t s) p).release
      ≡ cond (visit_at t (operated_at t s) p).there (visit_at t (operated_at t s) p).release (said_release (mail_named t s).body)
  release_after_operated = op.times.1

  -- in tables of a run the station is the object's
  pub station_of_operated : Held t → operated_at t s ≡ object_site k
  station_of_operated = op.station

  -- so there a passage operates an object only before its quiesce time at the object's own station
  pub nothing_after_quiesce_there : Held t → StillOpen (step_of t s).tables (object_site k) p
  nothing_after_quiesce_there held = rw (op.station held) at nothing_after_quiesce
