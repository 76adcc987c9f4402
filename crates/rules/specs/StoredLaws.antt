-- Laws of storing: what each place holds afterwards, what stays, and that storing what was seen changes nothing. Assumes nothing.
use Rattle.std.specs.Prelude.{ℕ, ◌≤◌, ◌<◌, zero, suc, ◌≡◌, refl, ◌≢◌, length}
use Rattle.std.proofs.Common.{arith, sym, ⊎_elim, length-set}
use Rattle.std.proofs.Math.Seq.{get_or-set_same, get_or-set_other}
use Rattle.std.proofs.lemmas.List.{set-get_or}
use Rattle.rules.specs.Types.{Message, Tables, Trip, Places, Seen, Outcome, Step}
use Rattle.rules.specs.LoopsLaws.{either}
use Rattle.rules.specs.Tables.{site_at, passage_at, visit_place, visit_at, message_at, past_site, past_passage, past_visit, past_message}
use Rattle.rules.specs.Seen.{left_message}
use Rattle.rules.specs.Stations.{is_swept, swept_slot, crashed_slot}
use Rattle.rules.specs.Machine.{slot_seen, seen_of, stored_slot, stored, trip_places, turn_seen, turn_of, look_of, head_of, turns_up_to, step_in_range_of, step_of}
use Rattle.rules.specs.Ranges.{in_range}

-- the lengths of the five tables: 8, 32, 16, 128, 32
pub record Sized (t : Tables) : Type 0 where
  pub sites : length t.sites ≡ 8
  pub objects : length t.objects ≡ 32
  pub passages : length t.passages ≡ 16
  pub visits : length t.visits ≡ 128
  pub messages : length t.messages ≡ 32

-- tables as a program holds them: each table has its length, and a generation is one byte
pub record Storable (t : Tables) : Type 0 where
  pub sized : Sized t
  pub generations : (p : ℕ) → (passage_at t p).generation ≤ 255

-- places that exist
pub record Placed (at : Places) : Type 0 where
  pub site : at.site < 8
  pub slot : at.slot < 16
  pub bank : at.bank < 8
  pub message : at.message < 32

-- storing what was seen leaves every table as it stood
pub stored_seen : (t : Tables) (at : Places) → stored t at (seen_of t at) ≡ t
unfolding stored
stored_seen t at = simp set-get_or

-- a message that stays as it was need not be stored
stored_slot_lem : (t : Tables) (at : Places) (left : Seen) → left.message ≡ message_at t at.message → stored t at left ≡ stored_slot t at left
unfolding stored
stored_slot_lem t at left e = rw e (simp set-get_or)

-- a turn asks nothing of the message and leaves it: another message in what it saw is that message in what it leaves
turn_apart :
    (trip : Trip) (slot : ℕ) (seen : Seen) (m : Message)
    → turn_seen trip slot (left_message seen m) ≡ left_message (turn_seen trip slot seen) m
unfolding swept_slot crashed_slot
turn_apart Trip.Nowhere slot seen m = refl
turn_apart (Trip.Sweep site) slot seen m = ⊎_elim (λ e. rw e) (λ e. rw e) (either (is_swept seen))
turn_apart (Trip.Crash site) slot seen m = refl

-- so a turn is a store as any other: it might see the message too, and put it back
pub turn_stored_lem :
    (trip : Trip) (slot : ℕ) (o : Outcome)
    → (turn_of trip slot o).tables ≡ stored o.tables (trip_places trip slot) (turn_seen trip slot (seen_of o.tables (trip_places trip slot)))
unfolding turn_of
turn_stored_lem trip slot o =
    let at : Places = trip_places trip slot in
    rw (turn_apart trip slot (slot_seen o.tables at) (message_at o.tables at.message))
    (sym (stored_slot_lem o.tables at _ refl))

-- storing keeps the lengths
pub sized_after_stored : (t : Tables) (at : Places) (left : Seen) → Sized t → Sized (stored t at left)
unfolding stored
sized_after_stored t at left z =
    record {
      sites = rw length-set z.sites;
      objects = rw (length-set, length-set, length-set, length-set) z.objects;
      passages = rw length-set z.passages;
      visits = rw length-set z.visits;
      messages = rw length-set z.messages;
    }

-- so does every turn, and every step
pub sized_after_turn : (trip : Trip) (slot : ℕ) (o : Outcome) → Sized o.tables → Sized (turn_of trip slot o).tables
sized_after_turn trip slot o z = rw (turn_stored_lem trip slot o) (sized_after_stored o.tables _ _ z)

sized_after_turns : (trip : Trip) (o : Outcome) (n : ℕ) → Sized o.tables → Sized (turns_up_to trip o n).tables
unfolding turns_up_to
sized_after_turns trip o zero z = z
sized_after_turns trip o (suc n) z = sized_after_turn trip n (turns_up_to trip o n) (sized_after_turns trip o n z)

pub sized_after_step : (t : Tables) (step : Step) → Sized t → Sized (step_of t step).tables
unfolding step_of step_in_range_of head_of
sized_after_step t step z =
    ⊎_elim
    (λ e. rw e (sized_after_turns (look_of step).trip (head_of t step) _ (sized_after_stored t _ _ z)))
    (λ e. rw e z)
    (either (in_range t))

-- two places of the visit table are one only for the same site and slot
pub visit_place_same : (s p s' p' : ℕ) → p < 16 → p' < 16 → visit_place s p ≡ visit_place s' p' → (s ≡ s') × (p ≡ p')
visit_place_same s p s' p' h h' e = (omega arith, omega arith)

module _ (t : Tables) (at : Places) (left : Seen) where
  -- ---- the place itself holds what was left there

  pub site_after_stored : Sized t → Placed at → site_at (stored t at left) at.site ≡ left.site
  unfolding stored
  site_after_stored z h =
      get_or-set_same t.sites at.site left.site past_site (rw z.sites h.site)

  pub passage_after_stored : Sized t → Placed at → passage_at (stored t at left) at.slot ≡ left.passage
  unfolding stored
  passage_after_stored z h =
      get_or-set_same t.passages at.slot left.passage past_passage (rw z.passages h.slot)

  pub visit_after_stored : Sized t → Placed at → visit_at (stored t at left) at.site at.slot ≡ left.visit
  unfolding stored
  visit_after_stored z h =
      get_or-set_same
      t.visits
      (visit_place at.site at.slot)
      left.visit
      past_visit
      (rw z.visits (let a : at.site < 8 = h.site in let b : at.slot < 16 = h.slot in omega arith))

  pub message_after_stored : Sized t → Placed at → message_at (stored t at left) at.message ≡ left.message
  unfolding stored
  message_after_stored z h =
      get_or-set_same
      t.messages
      at.message
      left.message
      past_message
      (rw z.messages h.message)

  -- ---- every other place is as it was

  pub site_after_stored_other : (s : ℕ) → s ≢ at.site → site_at (stored t at left) s ≡ site_at t s
  unfolding stored
  site_after_stored_other s n = get_or-set_other t.sites at.site s left.site past_site n

  pub passage_after_stored_other : (p : ℕ) → p ≢ at.slot → passage_at (stored t at left) p ≡ passage_at t p
  unfolding stored
  passage_after_stored_other p n =
      get_or-set_other t.passages at.slot p left.passage past_passage n

  pub visit_after_stored_other :
      (s p : ℕ) → visit_place s p ≢ visit_place at.site at.slot → visit_at (stored t at left) s p ≡ visit_at t s p
  unfolding stored
  visit_after_stored_other s p n =
      get_or-set_other
      t.visits
      (visit_place at.site at.slot)
      (visit_place s p)
      left.visit
      past_visit
      n

  pub message_after_stored_other : (m : ℕ) → m ≢ at.message → message_at (stored t at left) m ≡ message_at t m
  unfolding stored
  message_after_stored_other m n =
      get_or-set_other t.messages at.message m left.message past_message n
