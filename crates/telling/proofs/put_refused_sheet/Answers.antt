-- The texts follow one another.
use Rattle.buffer.proofs.Pages.{writes_both}
use Rattle.telling.proofs.put_refused_sheet.Goals as goal

pub returns : goal.returns
returns c =
    rw (← c.sheet_number.ensures, ← c.sheet_phrase.ensures)
    (writes_both
    (writes_both (writes_both c.put_text.ensures c.put_digits.ensures) (writes_both c.put_byte.ensures c.put_text-2.ensures))
    c.put_byte-2.ensures)
