-- What 11, 13 and 14 say of the tables, by whatever step they are given: no message slot is empty; 1,000 calls have been sent there, or received there;
-- the passage is in round 1,000. And where the tables are so, the step is refused, by that number or by a lower one.
-- The idea: a refusal's own check holds, and none of a lower number; what it asks is read off the step's list. Assumes nothing.
use Rattle.std.specs.Prelude.{ℕ, ◌%◌, ◌<◌, ◌≤◌, min, ◌≡◌, Bool, not, ◌&&◌, ◌||◌, List, eqb, leb}
use native.Mathlib.Omega.{arith}
use Rattle.std.proofs.Math.Path.{refl, subst}
use Rattle.std.proofs.Common.{sym, ◌∙◌, true≢false}
use Rattle.std.proofs.Math.Logic.{⊎_elim}
use Rattle.std.proofs.Math.Bool.{true, false}
use Rattle.std.proofs.lemmas.Bool.{false≢true}
use Rattle.std.proofs.Math.ListN.{get_or}
use borrow.Author.Tests.{leb-true, ltb-false}
use Rattle.rules.specs.Types.{Passage, Visit, Call, Body, Message, Tables, Step, Refusal, Check, Seen}
use Rattle.rules.specs.Limits.{count_most, message_most}
use Rattle.rules.specs.Tables.{object_at, passage_at, visit_at, message_at, bank_at, object_site, slot_of, past_object}
use Rattle.rules.specs.Ranges.{in_range}
use Rattle.rules.specs.LoopsLaws.{and_left, and_right, not_true, not_false, either, first_at, first_below}
use Rattle.rules.specs.Answers.{refusal_number, answer_number}
use Rattle.rules.specs.AnswersLaws.{holds_of}
use Rattle.rules.specs.Parts.{is_empty, is_held_by_other}
use Rattle.rules.specs.Checks.{bad_message}
use Rattle.rules.specs.Calls.{bad_call, called_visit, call_checks}
use Rattle.rules.specs.Machine.{look_of, lowest_empty, places_of, seen_of, found_of, decide_of, head_of, turn_count, step_in_range_of, step_of}
use Rattle.rules.specs.Record.{flat_of, is_step}
use Rattle.rules.proofs.RangesLaws.{in_range_places, seen_in_range, placed_places}
use Rattle.rules.proofs.RangesFits.{round_says, CallFits, call_range_says, SeenFits, seen_says}
use Rattle.rules.proofs.StoredObjects.{seen_object}
use Rattle.rules.proofs.FineLaws.{CallFields, call_fields}
use Rattle.rules.proofs.SettledLaws.{delivery_checks, checks_of, RefusedBy, decided_refused_by, decided_named}
use Rattle.rules.proofs.TwentyLaws.{number_after_turns, twenty_of_step}

-- ---- of a step

abbrev sees : Tables → Step → Seen
sees t step = seen_of t (places_of t (look_of step))

abbrev tries : Tables → Step → List Check
tries t step = checks_of step (found_of t (places_of t (look_of step))) (sees t step)

-- what is seen of tables in range is in range
fits_of : (t : Tables) (step : Step) → in_range t ≡ true → SeenFits (sees t step)
fits_of t step range = seen_says (sees t step) (seen_in_range t (places_of t (look_of step)) range (placed_places t (look_of step)))

-- on tables in range a step has the number of its decision
decided_number :
    (t : Tables) (step : Step) → in_range t ≡ true
    → answer_number (step_of t step).answer
    ≡ answer_number (decide_of step (found_of t (places_of t (look_of step))) (sees t step)).answer
unfolding step_of step_in_range_of head_of
decided_number t step range =
    rw range (number_after_turns (look_of step).trip (head_of t step) (turn_count (look_of step).trip (head_of t step).answer))

-- what it says that a step gives this refusal: so does its decision, on tables in range
record Refused (t : Tables) (step : Step) (r : Refusal) : Type 0 where
  by : RefusedBy r (tries t step)
  range : in_range t ≡ true

refused :
    (t : Tables) (step : Step) (r : Refusal) → eqb (refusal_number r) 20 ≡ false
    → answer_number (step_of t step).answer ≡ refusal_number r
    → Refused t step r
refused t step r other n =
    ⊎_elim
    (λ range.
    record {
      by = decided_refused_by step (found_of t (places_of t (look_of step))) (sees t step) r (sym (decided_number t step range) ∙ n);
      range = range;
    })
    (λ range. absurd (false≢true (sym other ∙ (rw (sym n) (twenty_of_step t step ∙ rw range)))))
    (either (in_range t))

-- ---- what they say

-- invoke, ask and tell
abbrev pub sends_message : Step → Bool
sends_message step = is_step 3 step || is_step 7 step || is_step 9 step

-- refresh, terminate and prepare
abbrev pub opens_round : Step → Bool
opens_round step = is_step 4 step || is_step 5 step || is_step 6 step

-- 11: the step sends a message, and no message slot is empty
abbrev pub TableFull : Tables → Step → Type 0
TableFull t step =
    (sends_message step ≡ true) × ((m : ℕ) → m < 32 → is_empty (message_at t m).body ≡ false)

-- 13: an invoke, and the visit at its site has sent 1,000 calls to the object's, while a message slot is empty;
-- or the delivery of a call, and the visit there has received 1,000, while no other passage holds the object
pub data CallsSpent (t : Tables) : Step → Type 0 where
  Sent :
      (h site write object value m : ℕ) → get_or (visit_at t site (slot_of h)).sent (object_site object) 0 ≡ 1000
      → m < 32
      → is_empty (message_at t m).body ≡ true
      → CallsSpent t (Step.Invoke h site write object value)
  Received :
      (m : ℕ) (c : Call) → m < 32
      → (message_at t m).body ≡ Body.Call c
      → (visit_at t (message_at t m).destination (slot_of (message_at t m).handle)).there ≡ true
      → (visit_at t (message_at t m).destination (slot_of (message_at t m).handle)).received ≡ 1000
      → is_held_by_other (slot_of (message_at t m).handle) (object_at t c.object) ≡ false
      → CallsSpent t (Step.Deliver m)

-- 14: the step opens a round, and its passage is in round 1,000
abbrev pub RoundsSpent : Tables → Step → Type 0
RoundsSpent t step =
    (opens_round step ≡ true) × ((passage_at t (slot_of (flat_of step).h)).round.number ≡ 1000)

-- of a step: what 11 and 14 ask, and that 13 says the above
record Says (t : Tables) (step : Step) : Type 0 where
  full : holds_of Refusal.Full (tries t step) ≡ (sends_message step && not (is_empty (message_at t (min (lowest_empty t) message_most)).body))
  rounds : holds_of Refusal.NoRoundLeft (tries t step) ≡ (opens_round step && leb count_most (passage_at t (slot_of (flat_of step).h)).round.number)
  calls : Refused t step Refusal.NoCallLeft → CallsSpent t step

-- where a message slot is empty, so is the one that a new message takes
pub takes_empty :
    (t : Tables) (m : ℕ) → m < 32 → is_empty (message_at t m).body ≡ true
    → is_empty (message_at t (min (lowest_empty t) message_most)).body ≡ true
unfolding lowest_empty
takes_empty t m below empty =
    let l : lowest_empty t < 32 = first_below (λ k. is_empty (message_at t k).body) 32 m below empty in
    let e : min (lowest_empty t) 31 ≡ lowest_empty t = omega arith in
    rw e (first_at (λ k. is_empty (message_at t k).body) 32 l)

none_empty :
    (t : Tables) → not (is_empty (message_at t (min (lowest_empty t) message_most)).body) ≡ true
    → (m : ℕ) → m < 32 → is_empty (message_at t m).body ≡ false
none_empty t full m below =
    ⊎_elim
    (λ e. absurd (true≢false (sym (takes_empty t m below e) ∙ not_true _ full)))
    (λ e. e)
    (either (is_empty (message_at t m).body))

module _ (t : Tables) where
  -- a step that sends no call and takes none
  no_call :
      (step : Step)
      → holds_of Refusal.Full (tries t step) ≡ (sends_message step && not (is_empty (message_at t (min (lowest_empty t) message_most)).body))
      → holds_of Refusal.NoRoundLeft (tries t step) ≡ (opens_round step && leb count_most (passage_at t (slot_of (flat_of step).h)).round.number)
      → holds_of Refusal.NoCallLeft (tries t step) ≡ false
      → Says t step
  no_call step a b c = record { full = a; rounds = b; calls = λ r. absurd (false≢true (sym c ∙ r.by.holds)) }

  invoke_says : (h site write object value : ℕ) → Says t (Step.Invoke h site write object value)
  unfolding places_of
  invoke_says h site write object value =
      record {
        full = refl;
        rounds = refl;
        calls =
            λ r.
            let g : CallFields h site write object value = call_fields h site write object value (r.by.lower Refusal.BadField (omega arith)) in
            let here : site % 8 ≡ site = omega arith in
            let there : object_site object % 8 ≡ object_site object = omega arith in
            let most : count_most ≤ get_or (visit_at t (site % 8) (slot_of h)).sent (object_site object % 8) 0 = leb-true _ _ r.by.holds in
            let fits : get_or (visit_at t (site % 8) (slot_of h)).sent (object_site object % 8) 0 ≤ count_most =
            (fits_of t (Step.Invoke h site write object value) r.range).visit.sent (object_site object % 8) (omega arith) in
            let same : get_or (visit_at t (site % 8) (slot_of h)).sent (object_site object % 8) 0 ≡ count_most = omega arith in
            CallsSpent.Sent h site write object value (min (lowest_empty t) message_most) (rw (here, there) at same) (omega arith)
            (not_false _ (r.by.lower Refusal.Full (omega arith)));
      }

  -- by what the message slot holds
  delivery_says : (m : ℕ) (b : Body) → (message_at t (m % 32)).body ≡ b → Says t (Step.Deliver m)
  unfolding places_of
  delivery_says m Body.Empty e = no_call (Step.Deliver m) (rw e) (rw e) (rw e)
  delivery_says m (Body.Call c) e =
      record {
        full = rw e;
        rounds = rw e;
        calls =
            λ r.
            let x : Message = message_at t (m % 32) in
            let v : Visit = visit_at t (x.destination % 8) (slot_of x.handle) in
            let lower : (s : Refusal) → refusal_number s < 13 → holds_of s (call_checks m c (sees t (Step.Deliver m))) ≡ false =
            λ s l. subst (λ (b : Body). holds_of s (delivery_checks b m (sees t (Step.Deliver m))) ≡ false) e (r.by.lower s l) in
            let below : bad_message m ≡ false = lower Refusal.BadField (omega arith) in
            let slot : m % 32 ≡ m = omega (arith, ltb-false) in
            let called : count_most ≤ (called_visit c v).received = leb-true _ _ (rw e at r.by.holds) in
            let there : v.there ≡ true =
            ⊎_elim (λ y. y) (λ n. let none : count_most ≤ 0 = rw n at called in absurd (omega arith)) (either v.there) in
            let most : count_most ≤ v.received = rw there at called in
            let fits : v.received ≤ count_most = (fits_of t (Step.Deliver m) r.range).visit.received in
            let d : x.destination ≤ 7 = (fits_of t (Step.Deliver m) r.range).message.destination in
            let at : x.destination % 8 ≡ x.destination = omega arith in
            let same : v.received ≡ count_most = omega arith in
            let call : CallFits c = call_range_says c (rw e at (fits_of t (Step.Deliver m) r.range).message.body) in
            let o : get_or (bank_at t (object_site c.object % 8)) (c.object % 4) past_object ≡ object_at t c.object =
            seen_object t c.object _ (omega arith) in
            CallsSpent.Received m c (omega (arith, ltb-false)) (rw slot at e) (rw slot at (rw at at there)) (rw slot at (rw at at same))
            (rw slot at (rw o at (rw e at (lower Refusal.Held (omega arith)))));
      }
  delivery_says m (Body.PhaseOne n a) e = no_call (Step.Deliver m) (rw e) (rw e) (rw e)
  delivery_says m (Body.PhaseTwo n d) e = no_call (Step.Deliver m) (rw e) (rw e) (rw e)
  delivery_says m (Body.Answer n received q) e = no_call (Step.Deliver m) (rw e) (rw e) (rw e)
  delivery_says m (Body.Reply value) e = no_call (Step.Deliver m) (rw e) (rw e) (rw e)

  -- by the step
  says : (step : Step) → Says t step
  unfolding places_of
  says (Step.Tick site n) = no_call _ refl refl refl
  says (Step.Begin home slot q r) = no_call _ refl refl refl
  says (Step.Invoke h site write object value) = invoke_says h site write object value
  says (Step.Refresh h q r) = no_call _ refl refl refl
  says (Step.Terminate h) = no_call _ refl refl refl
  says (Step.Prepare h) = no_call _ refl refl refl
  says (Step.Ask h site) = no_call _ refl refl refl
  says (Step.Close h) = no_call _ refl refl refl
  says (Step.Tell h site) = no_call _ refl refl refl
  says (Step.Abort h) = no_call _ refl refl refl
  says (Step.Deliver m) = delivery_says m (message_at t (m % 32)).body refl
  says (Step.Drop m) = no_call _ refl refl refl
  says (Step.Sweep site) = no_call _ refl refl refl
  says (Step.Crash site) = no_call _ refl refl refl
  says (Step.Recover site) = no_call _ refl refl refl
  says (Step.Retire h) = no_call _ refl refl refl

  pub eleven_says : (step : Step) → answer_number (step_of t step).answer ≡ 11 → TableFull t step
  eleven_says step n =
      let r : Refused t step Refusal.Full = refused t step Refusal.Full refl n in
      let asks = sym (says step).full ∙ r.by.holds in
      (and_left _ _ asks, none_empty t (and_right (sends_message step) _ asks))

  pub thirteen_says : (step : Step) → answer_number (step_of t step).answer ≡ 13 → CallsSpent t step
  thirteen_says step n = (says step).calls (refused t step Refusal.NoCallLeft refl n)

  pub fourteen_says : (step : Step) → answer_number (step_of t step).answer ≡ 14 → RoundsSpent t step
  fourteen_says step n =
      let r : Refused t step Refusal.NoRoundLeft = refused t step Refusal.NoRoundLeft refl n in
      let asks = sym (says step).rounds ∙ r.by.holds in
      let p : Passage = passage_at t (slot_of (flat_of step).h) in
      let most : count_most ≤ p.round.number = leb-true _ _ (and_right (opens_round step) _ asks) in
      let fits : p.round.number ≤ count_most =
      (round_says p.round (and_right (leb p.home 7) _ ((in_range_places t r.range).passages (slot_of (flat_of step).h) (omega arith)))).number in
      (and_left _ _ asks, omega arith)

  -- and the other way round, on tables in range: where there is ground for 11, 13 or 14, the step is refused, by that number or by a lower one
  abbrev pub RefusedUpTo : Step → ℕ → Type 0
  RefusedUpTo step n = (1 ≤ answer_number (step_of t step).answer) × (answer_number (step_of t step).answer ≤ n)

  module _ (range : in_range t ≡ true) where
    refused_up_to : (step : Step) (r : Refusal) → holds_of r (tries t step) ≡ true → RefusedUpTo step (refusal_number r)
    refused_up_to step r h =
        rw (decided_number t step range) (decided_named step (found_of t (places_of t (look_of step))) (sees t step) r h)

    pub eleven_when : (step : Step) → TableFull t step → RefusedUpTo step 11
    eleven_when step f =
        refused_up_to step Refusal.Full ((says step).full ∙ rw (f.0, f.1 (min (lowest_empty t) message_most) (omega arith)))

    pub fourteen_when : (step : Step) → RoundsSpent t step → RefusedUpTo step 14
    fourteen_when step f = refused_up_to step Refusal.NoRoundLeft ((says step).rounds ∙ rw (f.0, f.1))

    pub thirteen_when : (step : Step) → CallsSpent t step → RefusedUpTo step 13
    unfolding places_of
    thirteen_when step (CallsSpent.Sent h site write object value m sent below empty) =
        ⊎_elim
        (λ bad. let n = refused_up_to (Step.Invoke h site write object value) Refusal.BadField bad in (n.0, let l = n.1 in omega arith))
        (λ good.
        let g : CallFields h site write object value = call_fields h site write object value good in
        let here : site % 8 ≡ site = omega arith in
        let there : object_site object % 8 ≡ object_site object = omega arith in
        refused_up_to (Step.Invoke h site write object value) Refusal.NoCallLeft (rw (here, there, sent)))
        (either (bad_call h site write object value))
    thirteen_when step (CallsSpent.Received m c below e there received unheld) =
        let slot : m % 32 ≡ m = omega arith in
        let x : Message = message_at t m in
        let d : (message_at t (m % 32)).destination ≤ 7 = (fits_of t (Step.Deliver m) range).message.destination in
        let s : x.destination ≤ 7 = rw slot at d in
        let here : x.destination % 8 ≡ x.destination = omega arith in
        refused_up_to (Step.Deliver m) Refusal.NoCallLeft (rw (slot, e, here, there, received))
