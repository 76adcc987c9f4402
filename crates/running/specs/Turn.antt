-- One turn of a record's work on the tables: look, decide, store. Assumes nothing.
use Rattle.std.specs.Prelude.{ℕ, Bool}
use Rattle.rules.specs.declared.tables.Tables.{Tables}
use Rattle.rules.specs.declared.tables.Message.{Message}
use Rattle.rules.specs.declared.outcomes.Decision.{Decision}
use Rattle.rules.specs.declared.outcomes.Outcome.{Outcome}
use Rattle.rules.specs.declared.looking.Look.{Look}
use Rattle.rules.specs.declared.looking.Places.{Places}
use Rattle.rules.specs.Types.{Answer, Reading}
use Rattle.rules.specs.Tables.{passage_at}
use Rattle.rules.specs.Seen.{left_message}
use Rattle.rules.specs.Machine.{mail_place, slot_place, places_for, slot_seen}
use Rattle.work.specs.Work.{reading_look, turn_look, turn_done, turn_message, turn_stored}

-- an answer, and the tables that it leaves
abbrev pub left_with : Answer → Tables → Outcome
left_with answer t = record { answer = answer; tables = t }

-- a turn after this outcome, where the lowest empty message slot and what remains were found so before the first
unfoldable pub turn_made : Reading → ℕ → Bool → ℕ → Outcome → Outcome
turn_made r empty rest turn o =
    let look : Look = turn_look (reading_look r) turn in
    let place : ℕ = mail_place look.mail empty in
    let message : Message = turn_message turn o.tables place in
    let at : Places =
    places_for look place message (passage_at o.tables (slot_place look.slot message)) in
    let d : Decision =
    turn_done r (reading_look r).trip turn (record { place = place; remains = rest }) o.answer (left_message (slot_seen o.tables at) message) in
    left_with d.answer (turn_stored turn o.tables at d.left)
