-- A message waits as it was sent, of any sound tables:
-- a full message slot is left as it was by every step but its own accepted delivery and its own accepted drop.
-- So what an invoke says is what is done where its call is delivered, whatever comes between. Assumes nothing.
use Rattle.std.specs.Prelude.{ℕ, ◌%◌, ◌<◌, ◌≤◌, ◌≡◌, refl, ◌≢◌, ◌⊎◌, Bool, true, false}
use Rattle.std.proofs.Common.{arith, sym, ◌∙◌, subst, true≢false, ltb-false, eq-eqb}
use Rattle.std.proofs.Math.Path.{ap}
use Rattle.std.proofs.Math.Logic.{⊎_elim, inl, inr}
use Rattle.rules.specs.declared.looking.Trip.{Trip}
use Rattle.rules.specs.LoopsLaws.{either}
use Rattle.rules.specs.Tables.{message_at, slot_of}
use Rattle.rules.specs.Answers.{is_accepted, answer_value}
use Rattle.rules.specs.AnswersLaws.{accepted_fine}
use Rattle.rules.specs.Parts.{is_empty}
use Rattle.rules.specs.Calls.{drop_of}
use Rattle.rules.specs.Machine.{look_of, places_of, seen_of, decide_of, stored, head_of, trip_places, turn_seen, turn_of, step_of}
use Rattle.rules.proofs.RangesLaws.{placed_places, placed_trip}
use Rattle.rules.specs.StoredLaws.{turn_stored_lem, message_after_stored, message_after_stored_other}
use Rattle.rules.proofs.RefusedLaws.{refused_leaves}
use Rattle.rules.proofs.SettledLaws.{delivered_named}
use Rattle.rules.proofs.Views.{Post, is_called, Calling, deed_of}
use Rattle.runs.specs.Types.{Body, Message, Tables, Step, Outcome, Seen}
use Rattle.runs.specs.Walk.Put.{same_or_other}
use Rattle.runs.specs.Walk.Seen.{places_at, seen_at}
use Rattle.runs.proofs.Walk.Sound.{Sound, sound_step_has}
use Rattle.runs.proofs.Walk.Clocks.{turned_message}
use Rattle.runs.specs.Operations.Definitions.{DoneAsSaid, InvokedInto}
use Rattle.runs.proofs.Operations.Single.{decision_at}
use Rattle.runs.proofs.Operations.Invoked.{invoked_answers, invoked_says}

-- ---- one step

-- a turn of a sweep or a crash leaves every message
turn_mail : (m : ℕ) (trip : Trip) (n : ℕ) (o : Outcome) → n < 16 → Sound o.tables → message_at (turn_of trip n o).tables m ≡ message_at o.tables m
turn_mail m trip n o l y =
    let left : Seen = turn_seen trip n (seen_of o.tables (trip_places trip n)) in
    rw
    (turn_stored_lem trip n o)
    (⊎_elim
    (λ (at : m ≡ (trip_places trip n).message).
    ap (message_at (stored o.tables (trip_places trip n) left)) at
    ∙ message_after_stored o.tables (trip_places trip n) left y.sized (placed_trip trip n l)
    ∙ turned_message trip n (seen_of o.tables (trip_places trip n))
    ∙ ap (message_at o.tables) (sym at))
    (λ other. message_after_stored_other o.tables (trip_places trip n) left m other)
    (same_or_other m (trip_places trip n).message))

-- a step that is for another message slot than m, or for none
abbrev ForOther : (m : ℕ) {step : Step} → Post step → Type 0
ForOther m (Post.Delivers n) = n ≢ m
ForOther m (Post.Drops n) = n ≢ m
ForOther m (Post.Sends step empty none) = Unit {0}
ForOther m (Post.Stays step leaves) = Unit {0}

module _ (t : Tables) (step : Step) (m : ℕ) (z : Sound t) (full : is_empty (message_at t m).body ≡ false) where
  -- an accepted delivery or drop looks at the slot that it names
  named : (n : ℕ) → n ≤ 31 → m ≡ n % 32 → n ≡ m
  named n l e = omega arith

  own :
      (x : Step) (post : Post x) → ForOther m post → is_accepted (decision_at t x).answer ≡ true → m ≡ (places_at t x).message
      → (decision_at t x).left.message ≡ (seen_at t x).message
  unfolding places_of decide_of drop_of
  own x (Post.Delivers n) other e at =
      absurd (other (named n (ltb-false 31 n (delivered_named (message_at t (n % 32)).body n (seen_at t x) e)) at))
  own x (Post.Drops n) other e at = absurd (other (named n (ltb-false 31 n (accepted_fine _ _ e).fields) at))
  own x (Post.Sends _ empty none) other e at =
      absurd (true≢false (sym (subst (λ (k : ℕ). is_empty (message_at t k).body ≡ true) (sym at) (empty _ (seen_at t x) e)) ∙ full))
  own x (Post.Stays _ leaves) other e at = leaves _ (seen_at t x)

  head_mail : ForOther m (deed_of step).post → is_accepted (head_of t step).answer ≡ true → message_at (head_of t step).tables m ≡ message_at t m
  unfolding head_of
  head_mail other e =
      ⊎_elim
      (λ (at : m ≡ (places_at t step).message).
      ap (message_at (stored t (places_at t step) (decision_at t step).left)) at
      ∙ message_after_stored t (places_at t step) _ z.sized (placed_places t (look_of step))
      ∙ own step (deed_of step).post other e at
      ∙ ap (message_at t) (sym at))
      (λ apart. message_after_stored_other t (places_at t step) _ m apart)
      (same_or_other m (places_at t step).message)

  mail_left : ForOther m (deed_of step).post → message_at (step_of t step).tables m ≡ message_at t m
  mail_left other =
      sound_step_has t step z (λ n u. message_at u m ≡ message_at t m)
      (λ n o l y k. turn_mail m (look_of step).trip n o l y ∙ k)
      (head_mail other)
      (λ u. message_at u m ≡ message_at t m)
      refl
      (λ u k. k)

  -- a step is for another slot, or delivers or drops this one
  for_other : (x : Step) (post : Post x) → ForOther m post ⊎ ((x ≡ Step.Deliver m) ⊎ (x ≡ Step.Drop m))
  for_other x (Post.Delivers n) = ⊎_elim (λ e. inr (inl (ap Step.Deliver e))) (λ other. inl other) (same_or_other n m)
  for_other x (Post.Drops n) = ⊎_elim (λ e. inr (inr (ap Step.Drop e))) (λ other. inl other) (same_or_other n m)
  for_other x (Post.Sends _ empty none) = inl tt
  for_other x (Post.Stays _ leaves) = inl tt

  -- a full message slot is left as it was, or the step is its own delivery or its own drop, and accepted
  pub mail_stays :
      (message_at (step_of t step).tables m ≡ message_at t m)
      ⊎ ((is_accepted (step_of t step).answer ≡ true) × ((step ≡ Step.Deliver m) ⊎ (step ≡ Step.Drop m)))
  mail_stays =
      ⊎_elim
      (λ other. inl (mail_left other))
      (λ own.
      ⊎_elim
      (λ a. inr (a, own))
      (λ a. inl (ap (λ (u : Tables). message_at u m) (refused_leaves t step a)))
      (either (is_accepted (step_of t step).answer)))
      (for_other step (deed_of step).post)

-- ---- where a message of one kind comes from

-- an accepted step that leaves such a message in the slot that it looks at saw it there, or is of this kind
module _ (t : Tables) (m : ℕ) (z : Sound t) (is : Body → Bool) (Into : Step → Type 0)
    (comes :
    (step : Step) → is_accepted (step_of t step).answer ≡ true → is_accepted (decision_at t step).answer ≡ true → m ≡ (places_at t step).message
    → is (decision_at t step).left.message.body ≡ true
    → ((decision_at t step).left.message ≡ (seen_at t step).message) ⊎ Into step) where
  -- by the own store of a step
  head_comes :
      (step : Step) → is_accepted (step_of t step).answer ≡ true → is_accepted (head_of t step).answer ≡ true
      → is (message_at (head_of t step).tables m).body ≡ true
      → (message_at (head_of t step).tables m ≡ message_at t m) ⊎ Into step
  unfolding head_of
  head_comes step a e c =
      ⊎_elim
      (λ (at : m ≡ (places_at t step).message).
      let here : message_at (stored t (places_at t step) (decision_at t step).left) m ≡ (decision_at t step).left.message =
      ap (message_at (stored t (places_at t step) (decision_at t step).left)) at
      ∙ message_after_stored t (places_at t step) _ z.sized (placed_places t (look_of step)) in
      ⊎_elim
      (λ same. inl (here ∙ same ∙ ap (message_at t) (sym at)))
      inr
      (comes step a e at (ap (λ (x : Message). is x.body) (sym here) ∙ c)))
      (λ apart. inl (message_after_stored_other t (places_at t step) _ m apart))
      (same_or_other m (places_at t step).message)

  -- a message slot that holds such a message after a step held that message before it, or the step is of this kind
  pub comes_from :
      (step : Step) → is (message_at (step_of t step).tables m).body ≡ true
      → (message_at (step_of t step).tables m ≡ message_at t m) ⊎ Into step
  comes_from step =
      ⊎_elim
      (λ a.
      sound_step_has t step z
      (λ n u. is (message_at u m).body ≡ true → (message_at u m ≡ message_at t m) ⊎ Into step)
      (λ n o l y k c.
      let same : message_at (turn_of (look_of step).trip n o).tables m ≡ message_at o.tables m = turn_mail m (look_of step).trip n o l y in
      ⊎_elim (λ e. inl (same ∙ e)) inr (k (ap (λ (x : Message). is x.body) (sym same) ∙ c)))
      (λ e c. head_comes step a e c)
      (λ u. is (message_at u m).body ≡ true → (message_at u m ≡ message_at t m) ⊎ Into step)
      (λ c. inl refl)
      (λ u k. k))
      (λ a c. inl (ap (λ (u : Tables). message_at u m) (refused_leaves t step a)))
      (either (is_accepted (step_of t step).answer))

-- a call: the step is the accepted invoke that answers the slot
pub call_was_invoked :
    (t : Tables) (m : ℕ) → Sound t → (step : Step) → is_called (message_at (step_of t step).tables m).body ≡ true
    → (message_at (step_of t step).tables m ≡ message_at t m) ⊎ InvokedInto t step m
call_was_invoked t m z = comes_from t m z is_called (λ step. InvokedInto t step m) (λ step a e at. by step (deed_of step).calling a at)
  where
    by :
        (step : Step) → Calling step → is_accepted (step_of t step).answer ≡ true → m ≡ (places_at t step).message
        → is_called (decision_at t step).left.message.body ≡ true
        → ((decision_at t step).left.message ≡ (seen_at t step).message) ⊎ InvokedInto t step m
    by _ (Calling.Invokes h site b k u) a at c =
        inr (record {
          handle = h;
          site = site;
          operation = b;
          object = k;
          value = u;
          invokes = refl;
          accepted = a;
          answers = invoked_answers t h site b k u z a ∙ sym at;
        })
    by step (Calling.Stands _ stands) a at c = inl (stands _ (seen_at t step) c)

-- ---- what is sent is what is done

-- an accepted invoke, any steps through which its message waits, and the accepted delivery of it: the delivery does what the invoke said
pub delivered_as_sent :
    (t : Tables) (h site b k u : ℕ) → Sound t → is_accepted (step_of t (Step.Invoke h site b k u)).answer ≡ true
    → (now : Tables)
    → message_at now (answer_value (step_of t (Step.Invoke h site b k u)).answer)
    ≡ message_at (step_of t (Step.Invoke h site b k u)).tables (answer_value (step_of t (Step.Invoke h site b k u)).answer)
    → is_accepted (step_of now (Step.Deliver (answer_value (step_of t (Step.Invoke h site b k u)).answer))).answer ≡ true
    → DoneAsSaid now h b k u (Step.Deliver (answer_value (step_of t (Step.Invoke h site b k u)).answer))
delivered_as_sent t h site b k u z a now waits taken =
    let said = invoked_says t h site b k u z a in
    let sent : Tables = (step_of t (Step.Invoke h site b k u)).tables in
    let place : ℕ = answer_value (step_of t (Step.Invoke h site b k u)).answer in
    let mail : place % 32 ≡ place = let l : place < 32 = said.place_below in omega arith in
    let same : message_at now (place % 32) ≡ message_at sent place = ap (message_at now) mail ∙ waits in
    record {
      does = rw (taken, same, said.handle, said.body, eq-eqb (slot_of h) (slot_of h) refl, said.object, eq-eqb k k refl) refl;
      operation = rw (same, said.body) said.operation;
      value = rw (same, said.body) said.value;
    }
