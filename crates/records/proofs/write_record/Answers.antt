-- The writer is the definition, and in code a step's fields have the widths of the record: so the law of the round trip says what the bytes read as. Assumes nothing.
use Rattle.std.proofs.Common.{◌≡◌, arith}
use Rattle.rules.specs.Record.{record_of_step}
use Rattle.rules.proofs.RecordLaws.{Widths, StepFits, written_reads}
use Rattle.records.proofs.write_record.Goals as goal

pub returns : goal.returns
unfolding record_of_step
returns c =
    -- the fields that are written have their widths
    let w : Widths c.flat_of.result =
    record {
      code = omega arith;
      a = omega arith;
      b = omega arith;
      c = omega arith;
      h = omega arith;
      zero = omega arith;
      u = omega arith;
      v = omega arith;
    } in
    let fit : StepFits c.args.s = rw c.flat_of.ensures at w in
    let e : c.bytes_of.result ≡ record_of_step c.args.s =
    rw (c.bytes_of.ensures, c.kept_fields.ensures, c.flat_of.ensures) in
    (e, rw e (written_reads c.args.s fit))
