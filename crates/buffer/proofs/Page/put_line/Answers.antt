-- Four texts are put one after the other. Assumes nothing.
use Rattle.buffer.proofs.Pages.{writes_both}
use Rattle.buffer.proofs.Page.put_line.Goals as goal

pub returns : goal.returns
returns c = search writes_both
