use Rattle.rules.specs.Machine.{step_in_range_of}
use Rattle.decisions.specs.TurnsLaws.{turn_count_most, trip_starts}
use Rattle.machine.proofs.whole.step_in_range.Goals as goal

pub turns-requires : goal.turns-requires
turns-requires c = (
  rw c.turn_count.ensures (turn_count_most c.look_of-look.result.trip c.head-o.result.answer),
  rw (c.look_of-look.ensures, c.head-o.ensures) (trip_starts c.args.t c.args.step),
)

pub returns : goal.returns
unfolding step_in_range_of
returns c = rw (c.turns.ensures, c.turn_count.ensures, c.head-o.ensures, c.look_of-look.ensures)
