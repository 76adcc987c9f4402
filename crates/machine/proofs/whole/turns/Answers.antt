-- Each turn adds one more to what the definition gives, and counts at most one.
use Rattle.std.proofs.Common.{◌≡◌, arith, refl, add-one}
use Rattle.rules.specs.Machine.{turns_up_to}
use Rattle.decisions.specs.TurnsLaws.{turn_counts}
use Rattle.machine.proofs.whole.turns.Goals as goal

pub loop-slot-init : goal.loop-slot-init
unfolding turns_up_to
loop-slot-init c = (refl, omega arith)

pub loop-slot-preserved : goal.loop-slot-preserved
unfolding turns_up_to
loop-slot-preserved c = (
  rw (add-one, c.turn-done.ensures, ← c.loop-slot.invariant.0),
  rw c.turn-done.ensures (turn_counts c.args.trip c.loop-slot.slot c.loop-slot.done c.loop-slot.invariant.1),
)

pub returns : goal.returns
returns c =
    let e : c.loop-slot.slot ≡ c.args.n = omega arith in rw e at c.loop-slot.invariant.0
