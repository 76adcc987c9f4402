use Rattle.rules.specs.Machine.{stored}
use Rattle.machine.proofs.whole.store.Goals as goal

pub returns : goal.returns
unfolding stored
returns c = rw c.store_slot-next.ensures
