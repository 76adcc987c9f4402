use Rattle.rules.specs.Machine.{turn_of}
use Rattle.machine.proofs.whole.turn.Goals as goal

pub returns : goal.returns
unfolding turn_of
returns c = rw (c.store_slot.ensures, c.turn_seen-left.ensures, c.turn_answer.ensures, c.see_slot-seen.ensures, c.trip_places-at.ensures)
