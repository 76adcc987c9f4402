-- A looked-up line is at most as long as its list.
use Rattle.std.proofs.Common.{arith}
use Rattle.reporting.specs.Lengths.{line_short}
use Rattle.reporting.proofs.Lists.put_name.Goals as goal

pub put_text-requires : goal.put_text-requires
put_text-requires c =
    let lists = c.args.self.now in
    rw c.line_for-line.ensures
    (omega (arith, line_short lists.station.now lists.company.now c.args.object 16384 lists.station_short lists.company_short))
