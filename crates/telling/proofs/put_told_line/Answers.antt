-- The texts follow one another.
use Rattle.words.specs.Tell.{told_line}
use Rattle.buffer.proofs.Pages.{writes_both}
use Rattle.telling.proofs.put_told_line.Goals as goal

pub returns : goal.returns
unfolding told_line
returns c =
    writes_both
    (writes_both (writes_both c.put_digits.ensures (writes_both c.put_byte.ensures c.put_record.ensures)) c.put_answer.ensures)
    c.put_byte-2.ensures
