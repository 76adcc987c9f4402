-- The lines put so far are those of the first i widths.
use Rattle.std.proofs.Common.{◌*◌, ◌-◌}
use Rattle.buffer.specs.Page.{HasRoom, Writes}
use Rattle.reporting.specs.Report.{widths_told}
use Rattle.reporting.proofs.Lists.put_widths.Given as goal

abbrev pub invariant-loop-i : goal.invariant-loop-i
invariant-loop-i l =
    Writes l.initial.page l.page (widths_told l.self.station.now l.self.company.now l.objects l.c.widths l.i)
    × HasRoom l.page (16448 * (l.c.count - l.i))
