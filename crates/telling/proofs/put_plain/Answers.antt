-- Each turn puts the words of one record more.
use Rattle.std.proofs.Common.{◌≡◌, arith, rules, length}
use Rattle.words.specs.Tell.{plain_up_to}
use Rattle.words.proofs.TextLaws.{record_length}
use Rattle.buffer.proofs.Pages.{writes_nothing, writes_both}
use Rattle.telling.proofs.Lines.{plain_more}
use Rattle.telling.proofs.put_plain.Goals as goal

pub loop-i-init : goal.loop-i-init
unfolding plain_up_to
loop-i-init c = (writes_nothing _, omega arith)

pub put_byte-requires : goal.put_byte-requires
put_byte-requires c =
    let z : length c.record_at.result ≡ 16 = search rules in
    omega (arith, record_length c.record_at.result z)

pub loop-i-preserved : goal.loop-i-preserved
loop-i-preserved c =
    let z : length c.record_at.result ≡ 16 = search rules in (
      rw (plain_more c.args.part.now c.loop-i.i) at
          (writes_both c.loop-i.invariant.0 (rw c.record_at.ensures at (writes_both c.put_record.ensures c.put_byte.ensures))),
      omega (arith, record_length c.record_at.result z),
    )
