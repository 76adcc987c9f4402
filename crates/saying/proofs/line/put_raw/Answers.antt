-- The word, a space and the bytes are put one after the other. Assumes nothing.
use Rattle.words.specs.Say.{raw_text}
use Rattle.buffer.proofs.Pages.{writes_both}
use Rattle.saying.proofs.line.put_raw.Goals as goal

pub returns : goal.returns
unfolding raw_text
returns c = writes_both c.put_letters.ensures (writes_both c.put_byte.ensures c.put_bytes.ensures)
