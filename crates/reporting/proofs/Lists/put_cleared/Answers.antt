-- In each arm the verdict is known, and its text is put.
use Rattle.buffer.proofs.Pages.{writes_both}
use Rattle.reporting.specs.Report.{cleared_told, refused_step_told, read_told}
use Rattle.reporting.proofs.Lists.put_cleared.Goals as goal

pub returns-in-NoReading : goal.returns-in-NoReading
unfolding cleared_told refused_step_told read_told
returns-in-NoReading c = rw c.in-NoReading.is (writes_both c.put_text.ensures c.put_refused_step.ensures)

pub returns-in-Narrow : goal.returns-in-Narrow
unfolding cleared_told
returns-in-Narrow c = rw c.in-Narrow.is (writes_both c.put_text-in-Narrow.ensures c.put_widths.ensures)

pub returns-in-Fits : goal.returns-in-Fits
unfolding cleared_told
returns-in-Fits c = rw c.in-Fits.is (writes_both c.put_text-in-Fits.ensures c.put_widths-in-Fits.ensures)
