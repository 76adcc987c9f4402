-- What is wrong, what stood there and what was expected, one after the other. Assumes nothing.
use Rattle.std.proofs.Common.{arith}
use Rattle.buffer.proofs.Pages.{writes_both}
use Rattle.faults.proofs.named.put_missing.Goals as goal

pub returns : goal.returns
returns c = (
  rw (← c.spot_in-spot.ensures.rest, ← c.spot_in-spot.ensures.node) (writes_both (writes_both c.put_text.ensures c.put_stood.ensures.0) c.put_expected_text.ensures.0),
  omega arith,
)
