-- Five texts, one after the other; a number has at most twenty digits. Assumes nothing.
use Rattle.std.proofs.Common.{arith}
use Rattle.rules.proofs.ListingLaws.{digits_length}
use Rattle.buffer.proofs.Pages.{writes_both}
use Rattle.words.specs.Faults.{fault_line}
use Rattle.faults.proofs.named.put_fault_line.Goals as goal

pub returns : goal.returns
unfolding fault_line
returns c =
    let number = writes_both c.put_text.ensures (rw c.from.ensures at c.put_digits.ensures) in (
      rw (← c.line_behind.ensures) (writes_both (writes_both (writes_both number c.put_text-2.ensures) c.put_fault.ensures.0) c.put_byte.ensures),
      omega (arith, digits_length),
    )
