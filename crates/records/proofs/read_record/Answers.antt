-- The reader is the definition, and in code sixteen bytes are lent: so the law of the round trip says what a known step writes as. Assumes nothing.
use Rattle.std.proofs.Common.{◌≡◌, get_or, rules, w8, Fits}
use Rattle.rules.specs.Record.{step_of_record}
use Rattle.rules.proofs.RecordLaws.{Bytes16}
use Rattle.records.specs.RoundTrip.{reading_writes}
use Rattle.records.proofs.read_record.Goals as goal

pub returns : goal.returns
unfolding step_of_record
returns c =
    let sixteen : Bytes16 c.args.b =
    record {
      sixteen = search rules;
      byte = λ i h. let f : Fits w8 (get_or c.args.b i 0) = search rules in f.fits;
    } in
    let e : c.step_of_fields.result ≡ step_of_record c.args.b =
    rw (c.step_of_fields.ensures, c.fields_of.ensures) in
    (e, rw e (reading_writes c.args.b sixteen))
