-- The word, the number and the newline are put one after the other. Assumes nothing.
use Rattle.buffer.proofs.Pages.{writes_both}
use Rattle.buffer.proofs.Page.put_sheet_line.Goals as goal

pub returns : goal.returns
returns c = writes_both (writes_both c.put_text.ensures c.put_decimal.ensures) c.put_byte.ensures
