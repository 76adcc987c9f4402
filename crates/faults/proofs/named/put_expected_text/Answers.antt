-- Three texts, one after the other. Assumes nothing.
use Rattle.std.proofs.Common.{arith}
use Rattle.buffer.proofs.Pages.{writes_both}
use Rattle.faults.proofs.named.put_expected_text.Goals as goal

pub returns : goal.returns
returns c = (writes_both (writes_both c.put_text.ensures c.put_expected_at.ensures.0) c.put_text-2.ensures, omega arith)
