-- The texts follow one another, and each has room.
use Rattle.std.proofs.Common.{arith}
use Rattle.buffer.proofs.Pages.{writes_both}
use Rattle.telling.specs.Lengths.{accepted_length}
use Rattle.reporting.specs.Lengths.{name_short}
use Rattle.reporting.specs.Report.{width_told}
use Rattle.reporting.proofs.Lists.put_width.Goals as goal

pub put_accepted-requires : goal.put_accepted-requires
put_accepted-requires c =
    let lists = c.args.self.now in
    omega (arith, name_short lists.station.now lists.company.now c.args.object 16384 lists.station_short lists.company_short (omega arith))

pub put_byte-requires : goal.put_byte-requires
put_byte-requires c =
    let lists = c.args.self.now in
    omega (arith, accepted_length c.from.result, name_short lists.station.now lists.company.now c.args.object 16384 lists.station_short lists.company_short (omega arith))

pub returns : goal.returns
unfolding width_told
returns c = rw (← c.from.ensures) (writes_both (writes_both c.put_name.ensures c.put_accepted.ensures) c.put_byte.ensures)
