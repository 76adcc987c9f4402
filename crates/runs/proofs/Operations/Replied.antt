-- A reply, of any sound tables: when its delivery is taken, that it answers the value which the reply carries, and that it empties the slot.
-- It comes into a message slot by the delivery of a call alone, so what a caller hears is what its call found.
-- Assumes nothing.
use Rattle.std.specs.Prelude.{ℕ, ◌+◌, ◌%◌, ◌<◌, ◌≤◌, max, ◌≡◌, ◌⊎◌, false, List, Ok}
use native.Mathlib.Omega.{arith}
use Rattle.std.proofs.Math.Path.{refl, ap}
use Rattle.std.proofs.Common.{sym, ◌∙◌, inl, inr, true≢false}
use Rattle.std.proofs.Math.Bool.{true}
use borrow.Author.Tests.{eq-eqb, le-ltb}
use Rattle.rules.specs.Types.{Check}
use Rattle.rules.specs.Limits.{clock_most, message_most}
use Rattle.rules.specs.LoopsLaws.{cond_keeps}
use Rattle.rules.specs.Tables.{site_at, object_at, message_at, no_message, slot_of}
use Rattle.rules.specs.Ranges.{in_range}
use Rattle.rules.specs.Answers.{is_accepted, answer_value, first_refusal, settle_of}
use Rattle.rules.specs.AnswersLaws.{accepted_fine, accepted_value, settle_accepted}
use Rattle.rules.specs.Parts.{is_empty}
use Rattle.rules.specs.Calls.{at_home, reply_checks, reply_done, empty_of, deliver_phase_one_of, deliver_phase_two_of, deliver_answer_of, deliver_reply_of, deliver_body_of, drop_of}
use Rattle.rules.specs.Machine.{look_of, places_of, seen_of, decide_of, head_of, step_of}
use Rattle.rules.proofs.RangesLaws.{placed_places, seen_in_range}
use Rattle.rules.proofs.RangesFits.{seen_says}
use Rattle.rules.specs.StoredLaws.{Placed, message_after_stored}
use Rattle.rules.proofs.Views.{settled_accepted, is_reply, Post, deed_of}
use Rattle.runs.specs.Types.{Call, Body, Message, Tables, Step, Places, Seen, Decision}
use Rattle.runs.specs.Walk.Seen.{places_at, seen_at}
use Rattle.runs.proofs.Walk.Sound.{Sound}
use Rattle.runs.proofs.Walk.Taken.{accepted_with_head}
use Rattle.runs.specs.Operations.Definitions.{operates, Finds, RepliedInto}
use Rattle.runs.proofs.Operations.Single.{decision_at, decision_accepted, single_answer, single_stored, delivery_below}
use Rattle.runs.proofs.Operations.Operated.{operated_finds}
use Rattle.runs.proofs.Operations.Mail.{comes_from}

-- ---- its delivery

module _ (t : Tables) (m v : ℕ) (reply : (message_at t m).body ≡ Body.Reply v) where
  abbrev Saw : Seen
  Saw = seen_at t (Step.Deliver m)

  -- a delivery of it decides by its checks
  decided : m < 32 → decision_at t (Step.Deliver m) ≡ deliver_reply_of m v Saw
  unfolding places_of decide_of deliver_body_of
  decided l = let here : m % 32 ≡ m = omega arith in rw (here, reply)

  -- it is taken where its station is up and the clock has room, whatever the passage, its visit there and their times are
  pub reply_is_taken :
      in_range t ≡ true → m < 32 → (site_at t (message_at t m).destination).up ≡ true
      → max (site_at t (message_at t m).destination).clock (message_at t m).stamp + 1 ≤ clock_most
      → (step_of t (Step.Deliver m)).answer ≡ Ok v
  unfolding head_of places_of decide_of deliver_body_of deliver_reply_of first_refusal
  reply_is_taken r l up room =
      let here : m % 32 ≡ m = omega arith in
      let at : Places = record { site = 0; slot = 0; bank = 0; message = m } in
      let placed : Placed at = record { site = omega arith; slot = omega arith; bank = omega arith; message = l } in
      let there : (message_at t m).destination ≤ 7 = (seen_says (seen_of t at) (seen_in_range t at r placed)).message.destination in
      let site : (message_at t m).destination % 8 ≡ (message_at t m).destination = omega arith in
      let head : (head_of t (Step.Deliver m)).answer ≡ Ok v =
      rw (here, reply, site, le-ltb message_most m (omega arith), up, le-ltb clock_most _ room) in
      let a : is_accepted (step_of t (Step.Deliver m)).answer ≡ true = accepted_with_head t (Step.Deliver m) r (ap is_accepted head) in
      single_answer t (Step.Deliver m) refl a ∙ head

  module _ (a : is_accepted (step_of t (Step.Deliver m)).answer ≡ true) where
    checked : is_accepted (first_refusal (reply_checks m Saw) v) ≡ true
    unfolding deliver_reply_of
    checked = rw (decided (delivery_below t m a)) at (decision_accepted t (Step.Deliver m) a)

    -- an accepted delivery of a reply answers the value that it carries
    pub reply_answers : (step_of t (Step.Deliver m)).answer ≡ Ok v
    unfolding deliver_reply_of
    reply_answers =
        single_answer t (Step.Deliver m) refl a
        ∙ ap (λ (d : Decision). d.answer) (decided (delivery_below t m a))
        ∙ accepted_value (reply_checks m Saw) v checked

    -- and empties its slot
    pub collected_is_gone : Sound t → message_at (step_of t (Step.Deliver m)).tables m ≡ no_message
    unfolding places_of deliver_reply_of
    collected_is_gone z =
        let l : m < 32 = delivery_below t m a in
        let here : m % 32 ≡ m = omega arith in
        ap (message_at (step_of t (Step.Deliver m)).tables) (sym here)
        ∙ ap (λ (u : Tables). message_at u (m % 32)) (single_stored t (Step.Deliver m) refl a)
        ∙ message_after_stored t (places_at t (Step.Deliver m)) _ z.sized (placed_places t (look_of (Step.Deliver m)))
        ∙ ap (λ (d : Decision). d.left.message) (decided l)
        ∙ ap (λ (s : Seen). s.message) (settle_accepted (reply_done m v Saw) Saw checked)

-- ---- where it comes from

-- an accepted decision that leaves no reply
none_left :
    (cs : List Check) (v : ℕ) (seen left : Seen) → is_reply left.message.body ≡ false → is_accepted (first_refusal cs v) ≡ true
    → is_reply (settle_of (record { answer = first_refusal cs v; left = left }) seen).left.message.body ≡ true
    → ⊥
none_left cs v seen left other e r =
    true≢false (sym r ∙ settled_accepted (λ s. is_reply s.message.body ≡ false) cs v seen left (λ f. other) e)

-- a delivery that leaves a reply is that of a call
delivered_replies :
    (body : Body) (m : ℕ) (seen : Seen) → seen.message.body ≡ body → is_accepted (deliver_body_of body m seen).answer ≡ true
    → is_reply (deliver_body_of body m seen).left.message.body ≡ true
    → (c : Call) × (body ≡ Body.Call c)
unfolding deliver_body_of empty_of deliver_phase_one_of deliver_phase_two_of deliver_answer_of deliver_reply_of
delivered_replies Body.Empty m seen b e r = absurd (true≢false (sym (ap is_empty b) ∙ (accepted_fine _ 0 e).found))
delivered_replies (Body.Call c) m seen b e r = (c, refl)
delivered_replies (Body.PhaseOne n asked) m seen b e r =
    absurd (none_left _ _ seen _ (cond_keeps (λ (x : Message). is_reply x.body ≡ false) (at_home seen) no_message _ refl refl) e r)
delivered_replies (Body.PhaseTwo n told) m seen b e r = absurd (none_left _ _ seen _ refl e r)
delivered_replies (Body.Answer n received q) m seen b e r = absurd (none_left _ _ seen _ refl e r)
delivered_replies (Body.Reply v) m seen b e r = absurd (none_left _ _ seen _ refl e r)

-- a message slot that holds a reply after a step held it before, or the step is the accepted delivery of a call there
pub reply_was_left :
    (t : Tables) (m : ℕ) → Sound t → (step : Step) → is_reply (message_at (step_of t step).tables m).body ≡ true
    → (message_at (step_of t step).tables m ≡ message_at t m) ⊎ RepliedInto t step m
unfolding places_of decide_of drop_of
reply_was_left t m z = comes_from t m z is_reply (λ step. RepliedInto t step m) (λ step a e at. by step (deed_of step).post a e at)
  where
    by :
        (step : Step) → Post step → is_accepted (step_of t step).answer ≡ true → is_accepted (decision_at t step).answer ≡ true → m ≡ (places_at t step).message
        → is_reply (decision_at t step).left.message.body ≡ true
        → ((decision_at t step).left.message ≡ (seen_at t step).message) ⊎ RepliedInto t step m
    by _ (Post.Delivers n) a e at c =
        let l : n < 32 = delivery_below t n a in
        let same : n ≡ m = let q : m ≡ n % 32 = at in omega arith in
        let called = delivered_replies (message_at t (n % 32)).body n (seen_at t (Step.Deliver n)) refl e c in
        inr
        (record {
          delivers = ap Step.Deliver same;
          call = called.0;
          body = ap (λ (k : ℕ). (message_at t k).body) at ∙ called.1;
          accepted = rw (← same) a;
        })
    by _ (Post.Drops n) a e at c = absurd (none_left _ _ (seen_at t (Step.Drop n)) _ refl e c)
    by step (Post.Sends _ empty none) a e at c = absurd (true≢false (sym c ∙ none _ (seen_at t step) e))
    by step (Post.Stays _ leaves) a e at c = inl (leaves _ (seen_at t step))

-- the reply that it leaves carries the value that the object had
pub replied_finds :
    (t : Tables) (step : Step) (m : ℕ) → Sound t → (g : RepliedInto t step m)
    → (message_at (step_of t step).tables m).body ≡ Body.Reply (object_at t g.call.object).value
replied_finds t step m z g =
    let l : m < 32 = delivery_below t m g.accepted in
    let here : m % 32 ≡ m = omega arith in
    let same : (message_at t (m % 32)).body ≡ Body.Call g.call = ap (λ (k : ℕ). (message_at t k).body) here ∙ g.body in
    let does : operates t (slot_of (message_at t (m % 32)).handle) g.call.object (Step.Deliver m) ≡ true =
    rw (g.accepted, same, eq-eqb (slot_of (message_at t (m % 32)).handle) _ refl, eq-eqb g.call.object _ refl) in
    let found : Finds t (Step.Deliver m) (object_at t g.call.object).value = operated_finds t _ g.call.object (Step.Deliver m) z does in
    rw g.delivers (rw here at found)

-- an operation, any steps through which its reply waits, and the accepted delivery of it: that answers what the operation found
pub heard_is_found :
    (t : Tables) (p k m v : ℕ) → Sound t → operates t p k (Step.Deliver m) ≡ true → (now : Tables)
    → message_at now m ≡ message_at (step_of t (Step.Deliver m)).tables m
    → (step_of now (Step.Deliver m)).answer ≡ Ok v
    → Finds t (Step.Deliver m) v
heard_is_found t p k m v z does now waits heard =
    let l : m < 32 = delivery_below now m (ap is_accepted heard) in
    let here : m % 32 ≡ m = omega arith in
    let found : (message_at (step_of t (Step.Deliver m)).tables (m % 32)).body ≡ Body.Reply (object_at t k).value =
    operated_finds t p k (Step.Deliver m) z does in
    let carries : (message_at now m).body ≡ Body.Reply (object_at t k).value = ap (λ (x : Message). x.body) waits ∙ (rw here at found) in
    let same : (object_at t k).value ≡ v = ap answer_value (sym (reply_answers now m (object_at t k).value carries (ap is_accepted heard)) ∙ heard) in
    found ∙ ap Body.Reply same
