-- A message is stamped when it is sent, of any sound tables: an ask and a tell leave theirs with home's clock after the step,
-- and a phase 1 message that is delivered away from home is answered with the clock of its station after the step. Assumes nothing.
use Rattle.std.specs.Prelude.{ℕ, ◌%◌, ◌<◌, ◌≤◌, ◌≡◌, ◌≢◌, true, false, not, List}
use native.Mathlib.Omega.{arith}
use Rattle.std.proofs.Math.Path.{refl, ap}
use Rattle.std.proofs.Common.{sym, ◌∙◌, subst, subst₂, ne_eqb}
use Rattle.rules.specs.Types.{Check}
use Rattle.rules.specs.declared.looking.Trip.{Trip}
use Rattle.rules.specs.LoopsLaws.{not_false}
use Rattle.rules.specs.Tables.{site_at, passage_at, visit_at, message_at, slot_of}
use Rattle.rules.specs.Answers.{is_accepted, answer_value, first_refusal, settle_of}
use Rattle.rules.specs.AnswersLaws.{Fine, accepted_fine, accepted_value, settle_accepted}
use Rattle.rules.specs.Parts.{is_empty, next_clock, asked_visit, answer_message}
use Rattle.rules.specs.Rounds.{sent_out, ask_body, ask_of, tell_body, tell_of}
use Rattle.rules.specs.Calls.{mail_clock, at_home, phase_one_done, asked_at, deliver_phase_one_of, deliver_body_of}
use Rattle.rules.specs.Machine.{look_of, places_of, decide_of, stored, step_of}
use Rattle.rules.proofs.RangesLaws.{placed_places}
use Rattle.rules.specs.StoredLaws.{site_after_stored, visit_after_stored, message_after_stored}
use Rattle.runs.specs.Types.{Site, Visit, Asked, Body, Message, Tables, Step, Places, Seen, Decision}
use Rattle.runs.specs.Walk.Seen.{places_at, seen_at}
use Rattle.runs.proofs.Walk.Sound.{Sound}
use Rattle.runs.proofs.Operations.Single.{decision_at, accepted_seen, decision_accepted, delivery_below, single_answer, single_stored}
use Rattle.runs.specs.Operations.Definitions.{Stamped}

-- ---- what home sends

-- what an ask and a tell decide: with these checks, to send this from home to that site, and to answer the message slot
abbrev sending : List Check → Body → ℕ → ℕ → ℕ → Seen → Decision
sending checks body h site place seen = record { answer = first_refusal checks place; left = sent_out body h site (next_clock seen.site) seen }

-- a step that goes through no slots and decides so
module _ (t : Tables) (step : Step) (h site : ℕ) (body : Body) (checks : List Check)
    (sends : decision_at t step ≡ settle_of (sending checks body h site (places_at t step).message (seen_at t step)) (seen_at t step))
    (alone : (look_of step).trip ≡ Trip.Nowhere)
    (a : is_accepted (step_of t step).answer ≡ true) where
  sent_checked : is_accepted (first_refusal checks (places_at t step).message) ≡ true
  sent_checked = rw sends at (decision_accepted t step a)

  sent_answered : answer_value (step_of t step).answer ≡ (places_at t step).message
  sent_answered =
      ap
      answer_value
      (single_answer t step alone a ∙ ap (λ (d : Decision). d.answer) sends ∙ accepted_value checks _ sent_checked)

  abbrev Sent : Seen
  Sent = (sending checks body h site (places_at t step).message (seen_at t step)).left

  pub sent_left : (step_of t step).tables ≡ stored t (places_at t step) Sent
  sent_left =
      single_stored t step alone a
      ∙ ap (λ (d : Decision). stored t (places_at t step) d.left) sends
      ∙ ap (stored t (places_at t step)) (settle_accepted (sending checks body h site (places_at t step).message (seen_at t step)) (seen_at t step) sent_checked)

  -- if its checks say that the message slot which it sees has room, the slot that it answers was empty
  sent_into_empty :
      (Fine checks → not (is_empty (seen_at t step).message.body) ≡ false)
      → is_empty (message_at t (answer_value (step_of t step).answer)).body ≡ true
  sent_into_empty room = rw sent_answered (not_false _ (room (accepted_fine checks _ sent_checked)))

  sent_stamped :
      Sound t → (places_at t step).site ≡ (passage_at t (slot_of h)).home % 8 → (places_at t step).slot ≡ slot_of h
      → Stamped (step_of t step).tables (answer_value (step_of t step).answer) body (passage_at t (slot_of h)).home site h
  sent_stamped z lies slot =
      let seen : (passage_at t (places_at t step).slot).home ≤ 7 = (accepted_seen t step a).passage.home in
      let home : (passage_at t (slot_of h)).home ≤ 7 = rw slot at seen in
      let at : (places_at t step).site ≡ (passage_at t (slot_of h)).home = lies ∙ (omega arith) in
      let m : message_at (step_of t step).tables (places_at t step).message ≡ Sent.message =
      ap (λ (x : Tables). message_at x (places_at t step).message) sent_left
      ∙ message_after_stored t (places_at t step) _ z.sized (placed_places t (look_of step)) in
      let s : site_at (step_of t step).tables (places_at t step).site ≡ Sent.site =
      ap (λ (x : Tables). site_at x (places_at t step).site) sent_left
      ∙ site_after_stored t (places_at t step) _ z.sized (placed_places t (look_of step)) in
      rw
      sent_answered
      (record {
        place_below = (placed_places t (look_of step)).message;
        body = ap (λ (x : Message). x.body) m;
        source = ap (λ (x : Message). x.source) m ∙ ap (λ (p : ℕ). (passage_at t p).home) slot;
        destination = ap (λ (x : Message). x.destination) m;
        handle = ap (λ (x : Message). x.handle) m;
        stamp =
            ap (λ (x : Message). x.stamp) m ∙ ap (λ (x : Site). x.clock) (sym s)
            ∙ ap (λ (x : ℕ). (site_at (step_of t step).tables x).clock) at;
      })

module _ (t : Tables) (h site : ℕ) (z : Sound t) where
  -- the message slot that an accepted ask answers was empty
  pub asked_into_empty :
      is_accepted (step_of t (Step.Ask h site)).answer ≡ true
      → is_empty (message_at t (answer_value (step_of t (Step.Ask h site)).answer)).body ≡ true
  unfolding decide_of ask_of
  asked_into_empty a = sent_into_empty t (Step.Ask h site) h site _ _ refl refl a (λ f. f.room)

  -- an accepted ask leaves there the phase 1 message of the passage's round, from home to the site that it names, with home's clock after it
  pub stamped_when_asked :
      is_accepted (step_of t (Step.Ask h site)).answer ≡ true
      → Stamped
      (step_of t (Step.Ask h site)).tables
      (answer_value (step_of t (Step.Ask h site)).answer)
      (ask_body (passage_at t (slot_of h)).round)
      (passage_at t (slot_of h)).home
      site
      h
  unfolding decide_of ask_of places_of
  stamped_when_asked a = sent_stamped t (Step.Ask h site) h site _ _ refl refl a z refl refl

  -- the message slot that an accepted tell answers was empty
  pub told_into_empty :
      is_accepted (step_of t (Step.Tell h site)).answer ≡ true
      → is_empty (message_at t (answer_value (step_of t (Step.Tell h site)).answer)).body ≡ true
  unfolding decide_of tell_of
  told_into_empty a = sent_into_empty t (Step.Tell h site) h site _ _ refl refl a (λ f. f.room)

  -- an accepted tell leaves there the phase 2 message of the passage's round, from home to the site that it names, with home's clock after it
  pub stamped_when_told :
      is_accepted (step_of t (Step.Tell h site)).answer ≡ true
      → Stamped
      (step_of t (Step.Tell h site)).tables
      (answer_value (step_of t (Step.Tell h site)).answer)
      (tell_body (passage_at t (slot_of h)).round)
      (passage_at t (slot_of h)).home
      site
      h
  unfolding decide_of tell_of places_of
  stamped_when_told a = sent_stamped t (Step.Tell h site) h site _ _ refl refl a z refl refl

-- ---- what a station answers

module _ (t : Tables) (m n : ℕ) (asked : Asked) (z : Sound t) (a : is_accepted (step_of t (Step.Deliver m)).answer ≡ true)
    (b : (message_at t m).body ≡ Body.PhaseOne n asked) where
  abbrev At : Places
  At = places_at t (Step.Deliver m)

  abbrev Saw : Seen
  Saw = seen_at t (Step.Deliver m)

  -- the delivery looks at the message slot that it names
  mail_here : m % 32 ≡ m
  mail_here = let l : m < 32 = delivery_below t m a in omega arith

  decided : decision_at t (Step.Deliver m) ≡ deliver_phase_one_of m n asked Saw
  unfolding places_of decide_of deliver_body_of
  decided = rw (mail_here, b)

  checked : is_accepted (phase_one_done m n asked Saw).answer ≡ true
  unfolding deliver_phase_one_of
  checked = rw decided at (decision_accepted t (Step.Deliver m) a)

  -- at the message's destination, for the slot that its handle names
  pub asked_at_site : At.site ≡ (message_at t m).destination
  unfolding places_of
  asked_at_site =
      let l : (message_at t (m % 32)).destination ≤ 7 = (accepted_seen t (Step.Deliver m) a).message.destination in
      rw mail_here (rw mail_here at (below l))
    where
      below : {x : ℕ} → x ≤ 7 → x % 8 ≡ x
      below l = omega arith

  pub asked_at_slot : At.slot ≡ slot_of (message_at t m).handle
  unfolding places_of
  asked_at_slot = rw mail_here

  -- what an accepted delivery of a phase 1 message leaves is one store
  pub asked_left : (step_of t (Step.Deliver m)).tables ≡ stored t At (asked_at n asked (mail_clock Saw) Saw)
  unfolding deliver_phase_one_of
  asked_left =
      single_stored t (Step.Deliver m) refl a
      ∙ ap (λ (d : Decision). stored t At d.left) decided
      ∙ ap (stored t At) (settle_accepted (phase_one_done m n asked Saw) Saw checked)

  asked_round : (x : Asked) (c : ℕ) (v : Visit) → (asked_visit x n c v).round ≡ n
  asked_round (Asked.Refresh r) c v = refl
  asked_round Asked.Terminate c v = refl
  asked_round Asked.Prepare c v = refl

  -- the visit as it is left, by which the station answers
  abbrev Left : Visit
  Left = visit_at (step_of t (Step.Deliver m)).tables (message_at t m).destination (slot_of (message_at t m).handle)

  pub asked_visit_lem : Left ≡ asked_visit asked n (mail_clock Saw) Saw.visit
  asked_visit_lem =
      subst₂
      (λ (x y : ℕ). visit_at (step_of t (Step.Deliver m)).tables x y ≡ asked_visit asked n (mail_clock Saw) Saw.visit)
      asked_at_site
      asked_at_slot
      (ap (λ (u : Tables). visit_at u At.site At.slot) asked_left
      ∙ visit_after_stored t At (asked_at n asked (mail_clock Saw) Saw) z.sized (placed_places t (look_of (Step.Deliver m))))

  asked_clock : (site_at (step_of t (Step.Deliver m)).tables (message_at t m).destination).clock ≡ mail_clock Saw
  asked_clock =
      subst
      (λ (x : ℕ). (site_at (step_of t (Step.Deliver m)).tables x).clock ≡ mail_clock Saw)
      asked_at_site
      (ap (λ (u : Tables). (site_at u At.site).clock) asked_left
      ∙ ap
      (λ (x : Site). x.clock)
      (site_after_stored t At (asked_at n asked (mail_clock Saw) Saw) z.sized (placed_places t (look_of (Step.Deliver m)))))

  module _ (away : (message_at t m).destination ≢ (passage_at t (slot_of (message_at t m).handle)).home) where
    away_seen : at_home Saw ≡ false
    unfolding places_of
    away_seen = rw mail_here (ne_eqb _ _ away)

    mail_place_lem : At.message ≡ m
    unfolding places_of
    mail_place_lem = mail_here

    back_sent :
        (asked_at n asked (mail_clock Saw) Saw).message
        ≡ answer_message
        (asked_visit asked n (mail_clock Saw) Saw.visit)
        (message_at t m).destination
        (passage_at t (slot_of (message_at t m).handle)).home
        (message_at t m).handle
        (mail_clock Saw)
    unfolding places_of
    back_sent = rw (away_seen, mail_here)

    sent_back :
        message_at (step_of t (Step.Deliver m)).tables m
        ≡ answer_message
        (asked_visit asked n (mail_clock Saw) Saw.visit)
        (message_at t m).destination
        (passage_at t (slot_of (message_at t m).handle)).home
        (message_at t m).handle
        (mail_clock Saw)
    sent_back =
        subst (λ (x : ℕ). message_at (step_of t (Step.Deliver m)).tables x ≡ (asked_at n asked (mail_clock Saw) Saw).message) mail_place_lem
        (ap (λ (u : Tables). message_at u At.message) asked_left
        ∙ message_after_stored t At (asked_at n asked (mail_clock Saw) Saw) z.sized (placed_places t (look_of (Step.Deliver m))))
        ∙ back_sent

    -- an accepted delivery of a phase 1 message away from its passage's home leaves in that message slot the answer:
    -- its number, and the calls received and the quiesce time of the visit as it is left, from the station to home, with the station's clock after it
    pub stamped_when_answered :
        Stamped
        (step_of t (Step.Deliver m)).tables
        m
        (Body.Answer n Left.received Left.quiesce)
        (message_at t m).destination
        (passage_at t (slot_of (message_at t m).handle)).home
        (message_at t m).handle
    stamped_when_answered =
        record {
          place_below = delivery_below t m a;
          body = ap (λ (x : Message). x.body) sent_back ∙ says;
          source = ap (λ (x : Message). x.source) sent_back;
          destination = ap (λ (x : Message). x.destination) sent_back;
          handle = ap (λ (x : Message). x.handle) sent_back;
          stamp = ap (λ (x : Message). x.stamp) sent_back ∙ sym asked_clock;
        }
      where
        says :
            Body.Answer
            (asked_visit asked n (mail_clock Saw) Saw.visit).round
            (asked_visit asked n (mail_clock Saw) Saw.visit).received
            (asked_visit asked n (mail_clock Saw) Saw.visit).quiesce
            ≡ Body.Answer n Left.received Left.quiesce
        says = rw (asked_visit_lem, asked_round asked (mail_clock Saw) Saw.visit)
