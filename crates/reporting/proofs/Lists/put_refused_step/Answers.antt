-- The texts follow one another, and each has room.
use Rattle.std.proofs.Common.{arith}
use Rattle.words.proofs.TextLaws.{step_length}
use Rattle.buffer.proofs.Pages.{writes_both}
use Rattle.telling.specs.Lengths.{refused_length}
use Rattle.reporting.specs.Lengths.{read_length}
use Rattle.reporting.specs.Report.{refused_step_told}
use Rattle.reporting.proofs.Lists.put_refused_step.Goals as goal

pub put_refused-requires : goal.put_refused-requires
put_refused-requires c = omega (arith, step_length c.args.step)

pub put_read-requires : goal.put_read-requires
put_read-requires c = omega (arith, step_length c.args.step, refused_length c.refusal_number.result)

pub put_byte-requires : goal.put_byte-requires
put_byte-requires c =
    let lists = c.args.self.now in
    omega (arith, step_length c.args.step, refused_length c.refusal_number.result, read_length lists.station.now lists.company.now c.args.objects.now c.args.c.now lists.station_short lists.company_short)

pub returns : goal.returns
unfolding refused_step_told
returns c =
    rw (← c.refusal_number.ensures)
    (writes_both (writes_both (writes_both c.put_step.ensures c.put_refused.ensures) c.put_read.ensures) c.put_byte.ensures)
