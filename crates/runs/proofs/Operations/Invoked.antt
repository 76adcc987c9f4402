-- What an accepted invoke sends, of any sound tables: a call as the step names it, out of a visit that is still open after it. Assumes nothing.
use Rattle.std.specs.Prelude.{ℕ, ◌≤◌, ◌≡◌, true, leb}
use native.Mathlib.Omega.{arith}
use Rattle.std.proofs.Math.Path.{refl, sym, ap}
use Rattle.std.proofs.Common.{◌∙◌, leb-false}
use Rattle.rules.specs.LoopsLaws.{or_left, or_right, not_false}
use Rattle.rules.specs.Tables.{site_at, visit_at, message_at, slot_of}
use Rattle.rules.specs.Answers.{is_accepted, answer_value, first_refusal}
use Rattle.rules.specs.AnswersLaws.{Fine, accepted_fine, accepted_value, settle_accepted}
use Rattle.rules.proofs.FineLaws.{call_fields, invoke_empty}
use Rattle.rules.specs.Parts.{next_clock}
use Rattle.rules.specs.Calls.{invoke_checks, call_of, invoked, invoke_done, invoke_of}
use Rattle.rules.specs.Machine.{look_of, places_of, decide_of, stored, step_of}
use Rattle.rules.proofs.RangesLaws.{placed_places}
use Rattle.rules.specs.StoredLaws.{site_after_stored, visit_after_stored, message_after_stored}
use Rattle.runs.specs.Types.{Site, Visit, Message, Tables, Step, Places, Seen}
use Rattle.runs.specs.Walk.Seen.{places_at, seen_at}
use Rattle.runs.proofs.Walk.Sound.{Sound}
use Rattle.runs.specs.Operations.Definitions.{StillOpen, Living, SaysCall, SameTimes}
use Rattle.runs.proofs.Operations.Single.{decision_accepted, single_answer, single_stored}

module _ (t : Tables) (h site b k u : ℕ) (z : Sound t) (a : is_accepted (step_of t (Step.Invoke h site b k u)).answer ≡ true) where
  abbrev Done : Step
  Done = Step.Invoke h site b k u

  abbrev At : Places
  At = places_at t Done

  abbrev Saw : Seen
  Saw = seen_at t Done

  -- what it leaves
  abbrev Left : Seen
  Left = invoked h site (call_of b k u Saw.visit) (next_clock Saw.site) Saw

  checked : is_accepted (first_refusal (invoke_checks h site b k u Saw) At.message) ≡ true
  unfolding decide_of invoke_of
  checked = decision_accepted t Done a

  fine : Fine (invoke_checks h site b k u Saw)
  fine = accepted_fine (invoke_checks h site b k u Saw) At.message checked

  -- the answer names the message slot
  pub invoked_answers : answer_value (step_of t (Step.Invoke h site b k u)).answer ≡ (places_at t (Step.Invoke h site b k u)).message
  unfolding decide_of invoke_of
  invoked_answers =
      ap answer_value (single_answer t Done refl a ∙ accepted_value (invoke_checks h site b k u Saw) At.message checked)

  left_there : (step_of t Done).tables ≡ stored t At Left
  unfolding decide_of invoke_of
  left_there = single_stored t Done refl a ∙ ap (stored t At) (settle_accepted (invoke_done h site b k u At.message Saw) Saw checked)

  -- the fields are in range
  site_below : site ≤ 7
  site_below = (call_fields h site b k u fine.fields).from

  object_below : k ≤ 31
  object_below = (call_fields h site b k u fine.fields).below

  here : At.site ≡ site
  unfolding places_of
  here = let l : site ≤ 7 = site_below in omega arith

  site_left : site_at (step_of t Done).tables At.site ≡ Left.site
  site_left = ap (λ (x : Tables). site_at x At.site) left_there ∙ site_after_stored t At Left z.sized (placed_places t (look_of Done))

  visit_left : visit_at (step_of t Done).tables At.site At.slot ≡ Left.visit
  visit_left = ap (λ (x : Tables). visit_at x At.site At.slot) left_there ∙ visit_after_stored t At Left z.sized (placed_places t (look_of Done))

  message_left : message_at (step_of t Done).tables At.message ≡ Left.message
  message_left = ap (λ (x : Tables). message_at x At.message) left_there ∙ message_after_stored t At Left z.sized (placed_places t (look_of Done))

  says : SaysCall t (step_of t Done).tables h At.site b k u At.message
  unfolding places_of
  says =
      record {
        place_below = (placed_places t (look_of Done)).message;
        empty = invoke_empty h site b k u Saw fine;
        call = call_of b k u Saw.visit;
        body = ap (λ (x : Message). x.body) message_left;
        object = refl;
        operation = refl;
        value = refl;
        quiesce = refl;
        release = refl;
        round = refl;
        source = ap (λ (x : Message). x.source) message_left ∙ sym here;
        destination = ap (λ (x : Message). x.destination) message_left ∙ (let l : k ≤ 31 = object_below in omega arith);
        handle = ap (λ (x : Message). x.handle) message_left;
        stamp = ap (λ (x : Message). x.stamp) message_left ∙ ap (λ (s : Site). s.clock) (sym site_left);
      }

  -- an accepted invoke leaves a call, in the message slot that it answers, which was empty:
  -- the object, the operation and the value as the step names them, from its site to the object's
  pub invoked_says : SaysCall t (step_of t (Step.Invoke h site b k u)).tables h site b k u (answer_value (step_of t (Step.Invoke h site b k u)).answer)
  invoked_says = rw invoked_answers (rw here at says)

  still_open : StillOpen (step_of t Done).tables At.site At.slot
  still_open =
      record {
        up = ap (λ (s : Site). s.up) site_left ∙ not_false _ fine.up;
        there = ap (λ (v : Visit). v.there) visit_left ∙ not_false _ fine.there;
        early = rw (site_left, visit_left) (leb-false _ _ (or_left _ _ fine.early));
        alive = ap (λ (v : Visit). v.dead) visit_left ∙ or_right (leb Saw.visit.quiesce (next_clock Saw.site)) _ fine.early;
      }

  -- after an accepted invoke the station is up, and the passage's visit there is there, not dead, and before its quiesce time
  pub nothing_sent_after_quiesce : StillOpen (step_of t (Step.Invoke h site b k u)).tables site (slot_of h)
  unfolding places_of
  nothing_sent_after_quiesce = rw here at still_open

  living_before : Living t At.site At.slot
  living_before =
      record { up = not_false _ fine.up; alive = λ e. or_right (leb Saw.visit.quiesce (next_clock Saw.site)) _ fine.early }

  -- and before it the station is up, and the visit is not dead
  pub sent_while_living : Living t site (slot_of h)
  unfolding places_of
  sent_while_living = rw here at living_before

  same_times : SameTimes (visit_at t At.site At.slot) (visit_at (step_of t Done).tables At.site At.slot)
  same_times = rw visit_left (record { quiesce = refl; release = refl; round = refl })

  -- and it leaves the times of that visit as they were
  pub times_after_invoked : SameTimes (visit_at t site (slot_of h)) (visit_at (step_of t (Step.Invoke h site b k u)).tables site (slot_of h))
  unfolding places_of
  times_after_invoked = rw here at same_times
