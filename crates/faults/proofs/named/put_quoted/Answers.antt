-- The bytes that are shown, between quotes. Assumes nothing.
use Rattle.std.proofs.Common.{arith}
use Rattle.buffer.proofs.Pages.{writes_both}
use Rattle.faults.proofs.named.put_quoted.Goals as goal

pub returns : goal.returns
returns c = (writes_both (writes_both c.put_byte.ensures c.put_shown.ensures.0) c.put_byte-2.ensures, omega arith)
