-- Each turn puts one width's line more.
use Rattle.std.proofs.Common.{arith, add-one, get_or}
use Rattle.buffer.proofs.Pages.{writes_nothing, writes_both}
use Rattle.reporting.specs.Lengths.{width_length}
use Rattle.reporting.specs.Report.{widths_told}
use Rattle.reporting.proofs.Lists.put_widths.Goals as goal

pub loop-i-init : goal.loop-i-init
unfolding widths_told
loop-i-init c = (writes_nothing _, omega arith)

pub loop-i-preserved : goal.loop-i-preserved
unfolding widths_told
loop-i-preserved c =
    let lists = c.args.self.now in
    let i = c.loop-i.i in
    let k =
    width_length lists.station.now lists.company.now (get_or c.args.objects.now i 0) (get_or c.args.c.now.widths i 0) lists.station_short lists.company_short in (
      rw (add-one i) (writes_both c.loop-i.invariant.0 c.put_width.ensures),
      omega (arith, k),
    )
