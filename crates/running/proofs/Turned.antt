-- Laws of a turn: what the first one sees is sane, and each adds one more to a record's work. Assumes nothing.
use Rattle.std.proofs.Common.{ℕ, zero, suc, ◌+◌, ◌<◌, ◌≡◌, refl, arith, add-one, ne_eqb, Bool, true, Ok, Err}
use Rattle.rules.specs.declared.tables.Tables.{Tables}
use Rattle.rules.specs.declared.tables.Message.{Message}
use Rattle.rules.specs.declared.outcomes.Outcome.{Outcome}
use Rattle.rules.specs.declared.looking.Look.{Look}
use Rattle.rules.specs.declared.looking.Places.{Places}
use Rattle.rules.specs.declared.looking.Seen.{Seen}
use Rattle.rules.specs.declared.looking.Trip.{Trip}
use Rattle.rules.specs.Types.{Answer, Reading}
use Rattle.rules.specs.Tables.{message_at, passage_at}
use Rattle.rules.specs.Seen.{left_message}
use Rattle.rules.specs.Ranges.{in_range}
use Rattle.rules.specs.Sane.{Sane}
use Rattle.rules.specs.StoredLaws.{Placed}
use Rattle.rules.specs.Machine.{lowest_empty, mail_place, slot_place, site_place, bank_place, slot_seen, remains, turn_answer, turn_count}
use Rattle.decisions.specs.TurnsLaws.{sane_at}
use Rattle.work.specs.Work.{reading_look, turn_look, scan_count, turn_done, turn_message}
use Rattle.work.specs.WorkLaws.{places_by, Working, working_next}
use Rattle.running.specs.Turn.{left_with, turn_made}

-- what the first turn sees of tables in range is sane
pub turn_sane :
    (t : Tables) (turn : ℕ) (at : Places) (message : Message) → (turn ≡ 0 → in_range t ≡ true) → Placed at
    → message ≡ turn_message turn t at.message
    → turn ≡ 0
    → Sane (left_message (slot_seen t at) message)
turn_sane t zero at message e h q z = rw q (sane_at t at (e z) h)
turn_sane t (suc k) at message e h q z = absurd (omega arith)

-- the turn of a slot asks for as many turns as the turn before
count_stays : (trip : Trip) (a : Answer) (seen : Seen) → turn_count trip (turn_answer trip a seen) ≡ turn_count trip a
count_stays Trip.Nowhere a seen = refl
count_stays (Trip.Sweep site) (Ok v) seen = refl
count_stays (Trip.Sweep site) (Err r) seen = refl
count_stays (Trip.Crash site) a seen = refl

pub turned_count :
    (r : Reading) (empty : ℕ) (rest : Bool) (slot : ℕ) (o : Outcome)
    → turn_count (reading_look r).trip (turn_made r empty rest (suc slot) o).answer ≡ turn_count (reading_look r).trip o.answer
unfolding turn_made
turned_count r empty rest slot o =
    rw (ne_eqb (suc slot) 0 (λ e. omega arith)) (count_stays (reading_look r).trip o.answer _)

-- a turn adds one more, where a pass over n messages found what the record asks for
pub turned_next :
    (t₀ : Tables) (r : Reading) (t : Tables) (answer : Answer) (empty : ℕ) (rest : Bool) (turn last n slot : ℕ) (o : Outcome)
    → Working t₀ r t answer turn last
    → turn < last
    → n ≡ scan_count r
    → slot ≡ slot_place (reading_look r).slot (message_at t₀ 0)
    → (n ≡ 32 → empty ≡ lowest_empty t₀) × (n ≡ 32 → rest ≡ remains t₀ slot)
    → o ≡ turn_made r empty rest turn (left_with answer t)
    → Working t₀ r o.tables o.answer (suc turn) (1 + turn_count (reading_look r).trip o.answer)
unfolding turn_made
turned_next t₀ r t answer empty rest turn last n slot o w h a b e q =
    let look : Look = turn_look (reading_look r) turn in
    let m : ℕ = mail_place look.mail empty in
    let message : Message = turn_message turn t m in
    let p : ℕ = slot_place look.slot message in
    let s : ℕ = site_place look.site message (passage_at t p) in
    let at : Places = places_by s p (bank_place look.site message s) m in
    rw (q, ← add-one turn) (
    working_next t₀ r t answer empty rest turn last look message m p s at.bank
    (turn_done r (reading_look r).trip turn (record { place = m; remains = rest }) answer (left_message (slot_seen t at) message))
    w
    h
    (λ k. e.0 (rw a k))
    (λ k. rw (← b) (e.1 (rw a k)))
    (record {
      looked = refl;
      mail = refl;
      read = refl;
      slot = refl;
      site = refl;
      bank = refl;
      decided = refl;
    })
    )
