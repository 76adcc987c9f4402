-- The texts follow one another.
use Rattle.buffer.proofs.Pages.{writes_both}
use Rattle.reporting.specs.Report.{own_told}
use Rattle.reporting.proofs.put_own.Goals as goal

pub returns : goal.returns
unfolding own_told
returns c =
    rw (← c.own_number.ensures, ← c.own_name.ensures)
    (writes_both
    (writes_both (writes_both c.put_text.ensures c.put_digits.ensures) (writes_both c.put_byte.ensures c.put_text-2.ensures))
    c.put_byte-2.ensures)
