-- What the delivery of a round's messages needed and left: phase 1, phase 2, and an answer.
-- In each record x is the message that stood in slot m, for this site, and p the passage in the slot that its handle names. Assumes nothing.
use Rattle.std.specs.Prelude.{ℕ, ◌<◌, ◌≡◌, ◌≢◌, Bool, true, false, ◌||◌, leb, eqb, Ok}
use Rattle.std.proofs.Math.Path.{refl}
use Rattle.std.proofs.Math.Bool.{not}
use borrow.Author.Tests.{leb-false, eqb-true, eq-eqb, ne_eqb}
use Rattle.rules.specs.Types.{Phase, Passage, Asked, Told, Body, Message, Tables, Step, Seen}
use Rattle.rules.specs.LoopsLaws.{not_false}
use Rattle.rules.specs.Tables.{site_at, passage_at, visit_at, message_at, bank_at, slot_of, no_message}
use Rattle.rules.specs.Parts.{clock_to, delivery_clock, is_free, is_phase_one, with_status, with_round, with_answer, asked_visit, asked_status, told_visit, told_status, asks_life, tells_life, answer_message}
use Rattle.rules.specs.Calls.{mail_clock, round_checks, asked_at, deliver_phase_one_of, told_at, deliver_phase_two_of, answer_checks, answered_at, deliver_answer_of, deliver_body_of}
use Rattle.rules.specs.Machine.{seen_of, step_of}
use Rattle.rules.specs.StoredLaws.{Sized}
use Rattle.rules.proofs.RangesLaws.{neither}
use Rattle.rules.proofs.EffectsLaws.{OnlyPassage, OnlyVisit, OnlyMessage, OnlyObjects, ClockMoves, Done, only_passage, only_visit, only_message, only_objects, passages_stay, visits_stay, objects_stay, clock_moves}
use Rattle.rules.proofs.EffectsCalls.{deliver_below, deliver_places, deliver_done}
use Rattle.rules.proofs.EffectsRounds.{phase_one_is, told_object, told_object_at}

-- ---- what phase 1 and phase 2 share

-- the visit was there, and alive where the message asks that
pub record Reached (t t' : Tables) (m : ℕ) (x : Message) (site slot : ℕ) (life : Bool) (v : ℕ) : Type 0 where
  pub below : m < 32
  pub there : (visit_at t site slot).there ≡ true
  pub alive : life ≡ true → (visit_at t site slot).dead ≡ false
  pub value : v ≡ 0
  pub clock : ClockMoves t t' site (delivery_clock (site_at t site) x)

-- ---- a delivered phase 1 message

pub record AskDelivered (t t' : Tables) (m : ℕ) (x : Message) (site slot : ℕ) (p : Passage) (n : ℕ) (asked : Asked) (v : ℕ) : Type 0 where
  pub reached : Reached t t' m x site slot (asks_life asked) v
  pub newer : (visit_at t site slot).round < n
  pub visit :
      OnlyVisit t t' site slot
      (asked_visit asked n (delivery_clock (site_at t site) x) (visit_at t site slot))
  pub objects : t'.objects ≡ t.objects
  -- away from home, which is where every ask goes: the slot holds the answer
  pub passages : site ≢ p.home → t'.passages ≡ t.passages
  pub answer :
      site ≢ p.home
      → OnlyMessage t t' m
      (answer_message
      (asked_visit asked n (delivery_clock (site_at t site) x) (visit_at t site slot))
      site
      p.home
      x.handle
      (delivery_clock (site_at t site) x))
  -- at home
  pub home_passage : site ≡ p.home → OnlyPassage t t' slot (with_status p (asked_status asked p.status))
  pub home_message : site ≡ p.home → OnlyMessage t t' m no_message

-- ---- a delivered phase 2 message

pub record TellDelivered (t t' : Tables) (m : ℕ) (x : Message) (site slot : ℕ) (p : Passage) (n : ℕ) (told : Told) (v : ℕ) : Type 0 where
  pub reached : Reached t t' m x site slot (tells_life told) v
  pub same : n ≡ (visit_at t site slot).round
  pub visit : OnlyVisit t t' site slot (told_visit told (visit_at t site slot))
  pub message : OnlyMessage t t' m no_message
  pub objects : OnlyObjects t t' site (told_object told slot)
  -- away from home, which is where every tell goes
  pub passages : site ≢ p.home → t'.passages ≡ t.passages
  -- at home
  pub home_passage : site ≡ p.home → OnlyPassage t t' slot (with_status p (told_status told p.status))

-- ---- a delivered answer

pub record AnswerDelivered (t t' : Tables) (m : ℕ) (x : Message) (site slot : ℕ) (p : Passage) (n received q v : ℕ) : Type 0 where
  pub below : m < 32
  pub used : is_free p.status ≡ false
  pub phase : p.round.phase ≡ Phase.One
  pub number : n ≡ p.round.number
  pub value : v ≡ 0
  pub clock : ClockMoves t t' site (delivery_clock (site_at t site) x)
  pub passage :
      OnlyPassage t t' slot
      (with_round p (with_answer p.round x.source (record { sent = x.sent; received = received; quiesce = q })))
  pub message : OnlyMessage t t' m no_message
  pub visits : t'.visits ≡ t.visits
  pub objects : t'.objects ≡ t.objects

-- ---- each follows from the delivery's acceptance and the message's body

module _ (t : Tables) (m v : ℕ) (z : Sized t) (a : (step_of t (Step.Deliver m)).answer ≡ Ok v) where
  reached_by :
      (b : Body) (life wrong : Bool) (left : Seen)
      → let seen : Seen = seen_of t (deliver_places (message_at t m) b m) in
      Done t (step_of t (Step.Deliver m)).tables v (deliver_places (message_at t m) b m) (round_checks m life wrong (mail_clock seen) seen) 0 left
      → left.site ≡ clock_to seen.site (mail_clock seen)
      → let x : Message = message_at t m in
      Reached t (step_of t (Step.Deliver m)).tables m x x.destination (slot_of x.handle) life v
  reached_by b life wrong left d s =
      record {
        below = deliver_below t m v a;
        there = not_false _ d.fine.there;
        alive = λ l. rw l at d.fine.early;
        value = d.value;
        clock = clock_moves d _ s d.fine.up d.fine.clock;
      }

  pub ask_delivered_effects :
      (n : ℕ) (asked : Asked) → (message_at t m).body ≡ Body.PhaseOne n asked
      → let x : Message = message_at t m in
      AskDelivered t (step_of t (Step.Deliver m)).tables m x x.destination (slot_of x.handle) (passage_at t (slot_of x.handle)) n asked v
  unfolding deliver_body_of deliver_phase_one_of
  ask_delivered_effects n asked e =
      let d =
      deliver_done t m v (Body.PhaseOne n asked)
      (λ seen. round_checks m (asks_life asked) (leb n seen.visit.round) (mail_clock seen) seen)
      (λ seen. 0)
      (λ seen. asked_at n asked (mail_clock seen) seen) z a e (λ seen. refl) in
      record {
        reached = reached_by (Body.PhaseOne n asked) (asks_life asked) _ _ d refl;
        newer = leb-false _ _ d.fine.round;
        visit = only_visit d;
        objects = objects_stay d refl;
        passages = λ w. passages_stay d (rw (ne_eqb _ _ w));
        answer = λ w. rw (ne_eqb _ _ w) at (only_message d);
        home_passage = λ w. rw (eq-eqb _ _ w) at (only_passage d);
        home_message = λ w. rw (eq-eqb _ _ w) at (only_message d);
      }

  pub tell_delivered_effects :
      (n : ℕ) (told : Told) → (message_at t m).body ≡ Body.PhaseTwo n told
      → let x : Message = message_at t m in
      TellDelivered t (step_of t (Step.Deliver m)).tables m x x.destination (slot_of x.handle) (passage_at t (slot_of x.handle)) n told v
  unfolding deliver_body_of deliver_phase_two_of
  tell_delivered_effects n told e =
      let d =
      deliver_done t m v (Body.PhaseTwo n told)
      (λ seen. round_checks m (tells_life told) (not (eqb n seen.visit.round)) (mail_clock seen) seen)
      (λ seen. 0)
      (λ seen. told_at told (mail_clock seen) seen) z a e (λ seen. refl) in
      record {
        reached = reached_by (Body.PhaseTwo n told) (tells_life told) _ _ d refl;
        same = eqb-true _ _ (not_false _ d.fine.round);
        visit = only_visit d;
        message = only_message d;
        objects = only_objects d _ (told_object_at told (slot_of (message_at t m).handle) (bank_at t (message_at t m).destination));
        passages = λ w. passages_stay d (rw (ne_eqb _ _ w));
        home_passage = λ w. rw (eq-eqb _ _ w) at (only_passage d);
      }

  pub answer_delivered_effects :
      (n received q : ℕ) → (message_at t m).body ≡ Body.Answer n received q
      → let x : Message = message_at t m in
      AnswerDelivered t (step_of t (Step.Deliver m)).tables m x x.destination (slot_of x.handle) (passage_at t (slot_of x.handle)) n received q v
  unfolding deliver_body_of deliver_answer_of
  answer_delivered_effects n received q e =
      let d =
      deliver_done t m v (Body.Answer n received q) (answer_checks m n) (λ seen. 0)
      (λ seen. answered_at (record { sent = seen.message.sent; received = received; quiesce = q }) (mail_clock seen) seen) z a e
      (λ seen. refl) in
      let p : Passage = passage_at t (slot_of (message_at t m).handle) in
      neither {a = is_free p.status || not (is_phase_one p.round.phase)} d.fine.round λ w k.
      neither {a = is_free p.status} w λ f ph.
      record {
        below = deliver_below t m v a;
        used = f;
        phase = phase_one_is _ (not_false _ ph);
        number = eqb-true _ _ (not_false _ k);
        value = d.value;
        clock = clock_moves d _ refl d.fine.up d.fine.clock;
        passage = only_passage d;
        message = only_message d;
        visits = visits_stay d refl;
        objects = objects_stay d refl;
      }
