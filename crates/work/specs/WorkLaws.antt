-- Laws of a record's work: what a runner that holds the tables knows between two turns, and that the last turn leaves the record's outcome. Assumes nothing.
use Prim.Native.Nat.{ℕ, zero, suc, ◌+◌, ◌-◌, ◌%◌, ◌≤◌, ◌<◌}
use Rattle.std.proofs.Common.{arith, add-one, ◌∙◌, ⊎_elim, true≢false, ne_eqb, Err, Some, None}
use Rattle.std.specs.Prelude.{◌≡◌, refl, Bool, true, false, ◌||◌, eqb}
use Rattle.std.proofs.Math.Path.{sym, ap}
use Rattle.rules.specs.declared.tables.Tables.{Tables}
use Rattle.rules.specs.declared.tables.Message.{Message}
use Rattle.rules.specs.declared.steps.Step.{Step}
use Rattle.rules.specs.Types.{Reading}
use Rattle.rules.specs.Types.{Answer}
use Rattle.rules.specs.declared.outcomes.Decision.{Decision}
use Rattle.rules.specs.declared.looking.Found.{Found}
use Rattle.rules.specs.declared.looking.Look.{Look}
use Rattle.rules.specs.declared.outcomes.Outcome.{Outcome}
use Rattle.rules.specs.declared.looking.Places.{Places}
use Rattle.rules.specs.declared.outcomes.Refusal.{Refusal}
use Rattle.rules.specs.declared.looking.Seen.{Seen}
use Rattle.rules.specs.declared.looking.Trip.{Trip}
use Rattle.rules.specs.Loops.{some_up_to}
use Rattle.rules.specs.LoopsLaws.{either, or_left, or_right, some_none, none_some}
use Rattle.rules.specs.Tables.{message_at, passage_at, visit_at, slot_of}
use Rattle.rules.specs.Seen.{left_message}
use Rattle.rules.specs.Ranges.{in_range}
use Rattle.rules.specs.Sane.{Sane}
use Rattle.rules.specs.Answers.{is_accepted}
use Rattle.rules.specs.StoredLaws.{Placed, stored_seen}
use Rattle.rules.proofs.RefusedLaws.{turns_keep}
use Rattle.rules.specs.Machine.{lowest_empty, mail_place, slot_place, site_place, bank_place, places_for, places_of, slot_seen, seen_of, is_message_of, remains, look_of, decide_of, stored_slot, head_of, trip_places, turn_seen, turn_answer, turn_of, turns_up_to, turn_count, step_in_range_of}
use Rattle.rules.specs.Record.{reading_of}
use Rattle.decisions.specs.Turns.{trip_value}
use Rattle.decisions.specs.TurnsLaws.{sane_at, turn_counts, trip_starts, turn_count_most}
use Rattle.work.specs.Work.{reading_look, turn_look, step_scan, scan_count, reading_done, turn_done, turn_message, turn_stored, reading_head, work_up_to}

-- ---- what remains of a slot, found in one pass over the messages

-- at index k stand the message k and the visit at site k % 8
module _ (mail stay : ℕ → Bool) where
  none_both :
      some_up_to stay 8 ≡ false → some_up_to mail 32 ≡ false
      → some_up_to (λ k. mail k || stay (k % 8)) 32 ≡ false
  none_both a b =
      none_some
      (λ k. mail k || stay (k % 8))
      32
      (λ k h. rw (some_none mail 32 b k h) (some_none stay 8 a (k % 8) (omega arith)))

  none_either :
      some_up_to (λ k. mail k || stay (k % 8)) 32 ≡ false
      → (some_up_to stay 8 || some_up_to mail 32) ≡ false
  none_either e =
      let m : (k : ℕ) → k < 32 → mail k ≡ false =
      λ k h. or_left (mail k) (stay (k % 8)) (some_none (λ k. mail k || stay (k % 8)) 32 e k h) in
      let v : (s : ℕ) → s < 8 → stay s ≡ false =
      λ s h.
      let q : s % 8 ≡ s = omega arith in
      rw q at (or_right (mail s) (stay (s % 8)) (some_none (λ k. mail k || stay (k % 8)) 32 e s (omega arith))) in
      rw (none_some stay 8 v) (none_some mail 32 m)

  some_both : some_up_to (λ k. mail k || stay (k % 8)) 32 ≡ (some_up_to stay 8 || some_up_to mail 32)
  some_both =
      ⊎_elim
      (λ e. ⊎_elim
      (λ q. e ∙ sym q)
      (λ q. absurd (true≢false (sym e ∙ none_both (or_left (some_up_to stay 8) (some_up_to mail 32) q) (or_right (some_up_to stay 8) (some_up_to mail 32) q))))
      (either (some_up_to stay 8 || some_up_to mail 32)))
      (λ e. e ∙ sym (none_either e))
      (either (some_up_to (λ k. mail k || stay (k % 8)) 32))

pub rest_found :
    (t : Tables) (p : ℕ)
    → some_up_to (λ k. is_message_of p (message_at t k) || (visit_at t (k % 8) p).there) 32 ≡ remains t p
unfolding remains
rest_found t p = some_both (λ k. is_message_of p (message_at t k)) (λ s. (visit_at t s p).there)

-- ---- what is asked of the pass, and by whom

pub scan_most : (r : Reading) → scan_count r ≤ 32
scan_most None = omega arith
scan_most (Some (Step.Tick site n)) = omega arith
scan_most (Some (Step.Begin home slot q r)) = omega arith
scan_most (Some (Step.Invoke h site write object value)) = omega arith
scan_most (Some (Step.Refresh h q r)) = omega arith
scan_most (Some (Step.Terminate h)) = omega arith
scan_most (Some (Step.Prepare h)) = omega arith
scan_most (Some (Step.Ask h site)) = omega arith
scan_most (Some (Step.Close h)) = omega arith
scan_most (Some (Step.Tell h site)) = omega arith
scan_most (Some (Step.Abort h)) = omega arith
scan_most (Some (Step.Deliver n)) = omega arith
scan_most (Some (Step.Drop n)) = omega arith
scan_most (Some (Step.Sweep site)) = omega arith
scan_most (Some (Step.Crash site)) = omega arith
scan_most (Some (Step.Recover site)) = omega arith
scan_most (Some (Step.Retire h)) = omega arith

-- only a new message asks for the lowest empty slot
empty_asked :
    (step : Step) (a b : ℕ) → (step_scan step ≡ 32 → a ≡ b)
    → mail_place (look_of step).mail a ≡ mail_place (look_of step).mail b
empty_asked (Step.Tick site n) a b e = refl
empty_asked (Step.Begin home slot q r) a b e = refl
empty_asked (Step.Invoke h site write object value) a b e = rw (e refl)
empty_asked (Step.Refresh h q r) a b e = refl
empty_asked (Step.Terminate h) a b e = refl
empty_asked (Step.Prepare h) a b e = refl
empty_asked (Step.Ask h site) a b e = rw (e refl)
empty_asked (Step.Close h) a b e = refl
empty_asked (Step.Tell h site) a b e = rw (e refl)
empty_asked (Step.Abort h) a b e = refl
empty_asked (Step.Deliver n) a b e = refl
empty_asked (Step.Drop n) a b e = refl
empty_asked (Step.Sweep site) a b e = refl
empty_asked (Step.Crash site) a b e = refl
empty_asked (Step.Recover site) a b e = refl
empty_asked (Step.Retire h) a b e = refl

-- only a retire asks what remains, and it names its slot itself
rest_asked :
    (t : Tables) (step : Step) (m : Message) (found : Found) (seen : Seen)
    → (step_scan step ≡ 32 → found.remains ≡ remains t (slot_place (look_of step).slot m))
    → decide_of step found seen ≡ decide_of step (record { place = found.place; remains = remains t (places_of t (look_of step)).slot }) seen
unfolding decide_of places_of
rest_asked t (Step.Tick site n) m found seen f = refl
rest_asked t (Step.Begin home slot q r) m found seen f = refl
rest_asked t (Step.Invoke h site write object value) m found seen f = refl
rest_asked t (Step.Refresh h q r) m found seen f = refl
rest_asked t (Step.Terminate h) m found seen f = refl
rest_asked t (Step.Prepare h) m found seen f = refl
rest_asked t (Step.Ask h site) m found seen f = refl
rest_asked t (Step.Close h) m found seen f = refl
rest_asked t (Step.Tell h site) m found seen f = refl
rest_asked t (Step.Abort h) m found seen f = refl
rest_asked t (Step.Deliver n) m found seen f = refl
rest_asked t (Step.Drop n) m found seen f = refl
rest_asked t (Step.Sweep site) m found seen f = refl
rest_asked t (Step.Crash site) m found seen f = refl
rest_asked t (Step.Recover site) m found seen f = refl
rest_asked t (Step.Retire h) m found seen f = rw (f refl)

-- ---- a turn as a runner makes it: look, decide, store

abbrev pub places_by : ℕ → ℕ → ℕ → ℕ → Places
places_by s p b m = record { site = s; slot = p; bank = b; message = m }

abbrev turn_places : Look → ℕ → Tables → Places
turn_places look place t =
    places_for look place (message_at t place) (passage_at t (slot_place look.slot (message_at t place)))

abbrev made : ℕ → Tables → Places → Decision → Outcome
made turn t at d = record { answer = d.answer; tables = turn_stored turn t at d.left }

-- the first turn is the head
first_turn :
    (t : Tables) (r : Reading) (empty : ℕ) (rest : Bool)
    → (scan_count r ≡ 32 → empty ≡ lowest_empty t)
    → (scan_count r ≡ 32 → rest ≡ remains t (slot_place (reading_look r).slot (message_at t 0)))
    → made
    0
    t
    (turn_places (reading_look r) (mail_place (reading_look r).mail empty) t)
    (reading_done
    r
    (record { place = mail_place (reading_look r).mail empty; remains = rest })
    (seen_of t (turn_places (reading_look r) (mail_place (reading_look r).mail empty) t)))
    ≡ reading_head t r
unfolding head_of places_of
first_turn t None empty rest e f =
    rw (stored_seen t (turn_places (reading_look None) 0 t))
first_turn t (Some step) empty rest e f =
    rw (empty_asked step empty (lowest_empty t) e)
    (ap
    (made 0 t (places_of t (look_of step)))
    (rest_asked t step (message_at t 0) (record { place = (places_of t (look_of step)).message; remains = rest }) (seen_of t (places_of t (look_of step))) f))

-- a later turn is that of its slot
slot_turn :
    (trip : Trip) (k : ℕ) (t : Tables) (before : Answer) → k < 16
    → record {
      answer = turn_answer trip before (slot_seen t (trip_places trip (slot_of k)));
      tables =
          stored_slot
          t
          (trip_places trip (slot_of k))
          (turn_seen trip k (slot_seen t (trip_places trip (slot_of k))));
    }
    ≡ turn_of trip k (record { answer = before; tables = t })
unfolding turn_of
slot_turn trip k t before h = let e : slot_of k ≡ k = omega arith in rw e

-- ---- the turns of the work are the head and then the turns of the trip

work_turns : (t : Tables) (r : Reading) (k : ℕ) → work_up_to t r (suc k) ≡ turns_up_to (reading_look r).trip (reading_head t r) k
unfolding work_up_to turns_up_to
work_turns t r zero = refl
work_turns t r (suc k) = ap (turn_of (reading_look r).trip k) (work_turns t r k)

work_accepted : (t : Tables) (r : Reading) (k : ℕ) → is_accepted (work_up_to t r (suc k)).answer ≡ is_accepted (reading_head t r).answer
work_accepted t r k = rw (work_turns t r k) (turns_keep (reading_look r).trip (reading_head t r) k)

count_same : (trip : Trip) (a b : Answer) → is_accepted a ≡ is_accepted b → turn_count trip a ≡ turn_count trip b
count_same Trip.Nowhere a b e = refl
count_same (Trip.Sweep site) a b e = rw e
count_same (Trip.Crash site) a b e = rw e

-- a trip has counted at most one for each turn
refused_counts : (trip : Trip) (refusal : Refusal) → trip_value trip (Err refusal) ≡ 0
refused_counts Trip.Nowhere refusal = refl
refused_counts (Trip.Sweep site) refusal = refl
refused_counts (Trip.Crash site) refusal = refl

head_counts : (t : Tables) (r : Reading) → trip_value (reading_look r).trip (reading_head t r).answer ≡ 0
head_counts t None = refl
head_counts t (Some step) = trip_starts t step

slots_count : (t : Tables) (r : Reading) (k : ℕ) → trip_value (reading_look r).trip (work_up_to t r (suc k)).answer ≤ k
unfolding work_up_to
slots_count t r zero = rw (head_counts t r) (omega arith)
slots_count t r (suc k) =
    rw (← add-one k) (turn_counts (reading_look r).trip k (work_up_to t r (suc k)) (slots_count t r k))

work_counts : (t : Tables) (r : Reading) (n : ℕ) → trip_value (reading_look r).trip (work_up_to t r n).answer ≤ n
unfolding work_up_to
work_counts t r zero = rw (refused_counts (reading_look r).trip Refusal.NoStep) (omega arith)
work_counts t r (suc k) =
    let h : trip_value (reading_look r).trip (work_up_to t r (suc k)).answer ≤ k = slots_count t r k in omega arith

-- head and turns together are the record's outcome
reading_turns :
    (t : Tables) (r : Reading)
    → turns_up_to (reading_look r).trip (reading_head t r) (turn_count (reading_look r).trip (reading_head t r).answer) ≡ reading_of t r
unfolding turns_up_to step_in_range_of
reading_turns t None = refl
reading_turns t (Some step) = refl

-- a later turn is told from the first
later_turn : (k : ℕ) → eqb (suc k) 0 ≡ false
later_turn k = ne_eqb (suc k) 0 (λ e. omega arith)

one_less : (k : ℕ) → suc k - 1 ≡ k
one_less k = omega arith

-- ---- between two turns

-- the last turn that is known of: one at first, and then as many as the answer asks for
abbrev pub last_turn : Trip → ℕ → Answer → ℕ
last_turn trip zero answer = 1
last_turn trip (suc k) answer = 1 + turn_count trip answer

-- the work of reading r from the tables t₀ has come to this answer and these tables after so many turns
pub record Working (t₀ : Tables) (r : Reading) (t : Tables) (answer : Answer) (turn last : ℕ) : Type 0 where
  pub done : work_up_to t₀ r turn ≡ record { answer = answer; tables = t }
  pub end : last ≡ last_turn (reading_look r).trip turn answer
  pub most : turn ≤ last

-- one turn: where it looked, which message it saw, and what it decided
pub record Turned (r : Reading) (empty : ℕ) (rest : Bool) (t : Tables) (before : Answer) (turn : ℕ) (look : Look) (message : Message) (m p s b : ℕ) (d : Decision) : Type 0 where
  pub looked : look ≡ turn_look (reading_look r) turn
  pub mail : m ≡ mail_place look.mail empty
  pub read : message ≡ turn_message turn t m
  pub slot : p ≡ slot_place look.slot message
  pub site : s ≡ site_place look.site message (passage_at t p)
  pub bank : b ≡ bank_place look.site message s
  pub decided : d ≡ turn_done r (reading_look r).trip turn (record { place = m; remains = rest }) before (left_message (slot_seen t (places_by s p b m)) message)

pub working_starts : (t : Tables) (r : Reading) → Working t r t (Err Refusal.NoStep) 0 1
unfolding work_up_to
working_starts t r = record { done = refl; end = refl; most = omega arith }

module _ (t₀ : Tables) (r : Reading) (t : Tables) (answer : Answer) where
  pub working_counts : (turn last : ℕ) → Working t₀ r t answer turn last → trip_value (reading_look r).trip answer ≤ turn
  working_counts turn last w = rw w.done at (work_counts t₀ r turn)

  pub working_most : (turn last : ℕ) → Working t₀ r t answer turn last → last ≤ 17
  working_most zero last w = rw w.end (omega arith)
  working_most (suc k) last w =
      let h : turn_count (reading_look r).trip answer ≤ 16 = turn_count_most (reading_look r).trip answer in
      rw w.end (omega arith)

  -- before the first turn the tables are as they stood
  working_first : (last : ℕ) → Working t₀ r t answer 0 last → t₀ ≡ t
  unfolding work_up_to
  working_first last w = ap (λ (o : Outcome). o.tables) w.done

  -- what the first turn sees is sane
  pub working_sane :
      (turn last : ℕ) (at : Places) (message : Message)
      → Working t₀ r t answer turn last
      → in_range t₀ ≡ true
      → Placed at
      → message ≡ turn_message turn t at.message
      → turn ≡ 0
      → Sane (left_message (slot_seen t at) message)
  working_sane zero last at message w e h q z = rw (q, ← working_first last w) (sane_at t₀ at e h)
  working_sane (suc k) last at message w e h q z = absurd (omega arith)

  working_accepted : (k last : ℕ) → Working t₀ r t answer (suc k) last → is_accepted answer ≡ is_accepted (reading_head t₀ r).answer
  working_accepted k last w = rw w.done at (work_accepted t₀ r k)

  turned_done :
      (empty : ℕ) (rest : Bool) (turn last : ℕ) (look : Look) (message : Message) (m p s b : ℕ) (d : Decision)
      → Working t₀ r t answer turn last
      → turn < last
      → (scan_count r ≡ 32 → empty ≡ lowest_empty t₀)
      → (scan_count r ≡ 32 → rest ≡ remains t₀ (slot_place (reading_look r).slot (message_at t₀ 0)))
      → Turned r empty rest t answer turn look message m p s b d
      → work_up_to t₀ r (suc turn) ≡ made turn t (places_by s p b m) d
  unfolding work_up_to
  turned_done empty rest zero last look message m p s b d w l e f u =
      rw (u.decided, u.bank, u.site, u.slot, u.read, u.mail, u.looked, ← working_first last w) (sym (first_turn t₀ r empty rest e f))
  turned_done empty rest (suc k) last look message m p s b d w l e f u =
      let h : last ≤ 17 = working_most (suc k) last w in
      rw (u.decided, u.bank, u.site, u.slot, u.read, u.mail, u.looked, later_turn k, one_less k) (ap (turn_of (reading_look r).trip k) w.done ∙ sym (slot_turn (reading_look r).trip k t answer (omega arith)))

  pub working_next :
      (empty : ℕ) (rest : Bool) (turn last : ℕ) (look : Look) (message : Message) (m p s b : ℕ) (d : Decision)
      → Working t₀ r t answer turn last
      → turn < last
      → (scan_count r ≡ 32 → empty ≡ lowest_empty t₀)
      → (scan_count r ≡ 32 → rest ≡ remains t₀ (slot_place (reading_look r).slot (message_at t₀ 0)))
      → Turned r empty rest t answer turn look message m p s b d
      → Working t₀ r (turn_stored turn t (places_by s p b m) d.left) d.answer (turn + 1) (1 + turn_count (reading_look r).trip d.answer)
  working_next empty rest turn last look message m p s b d w l e f u =
      let q : work_up_to t₀ r (suc turn) ≡ made turn t (places_by s p b m) d =
      turned_done empty rest turn last look message m p s b d w l e f u in
      rw (add-one turn) (record { done = q; end = refl; most = enough turn w l q })
    where
      enough :
          (turn : ℕ) → Working t₀ r t answer turn last → turn < last
          → work_up_to t₀ r (suc turn) ≡ made turn t (places_by s p b m) d
          → suc turn ≤ 1 + turn_count (reading_look r).trip d.answer
      enough zero w l q = omega arith
      enough (suc k) w l q =
          let a : is_accepted d.answer ≡ is_accepted answer =
          (rw q at (work_accepted t₀ r (suc k))) ∙ sym (working_accepted k last w) in
          let c : turn_count (reading_look r).trip d.answer ≡ turn_count (reading_look r).trip answer =
          count_same (reading_look r).trip d.answer answer a in
          let n : last ≡ 1 + turn_count (reading_look r).trip answer = w.end in
          rw c (omega arith)

  -- after the last turn the record's outcome is there
  pub working_done :
      (turn last : ℕ) → Working t₀ r t answer turn last → last ≤ turn
      → record { answer = answer; tables = t } ≡ reading_of t₀ r
  working_done zero last w l = let n : last ≡ 1 = w.end in absurd (omega arith)
  working_done (suc k) last w l =
      let trip : Trip = (reading_look r).trip in
      let n : last ≡ 1 + turn_count trip answer = w.end in
      let c : turn_count trip answer ≡ turn_count trip (reading_head t₀ r).answer =
      count_same trip answer (reading_head t₀ r).answer (working_accepted k last w) in
      let m : suc k ≤ last = w.most in
      let e : k ≡ turn_count trip (reading_head t₀ r).answer = omega arith in
      sym w.done ∙ work_turns t₀ r k ∙ ap (turns_up_to trip (reading_head t₀ r)) e ∙ reading_turns t₀ r
