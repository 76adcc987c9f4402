-- The texts follow one another, and the phrase has room.
use Rattle.std.proofs.Common.{arith, length-append}
use Rattle.buffer.proofs.Pages.{writes_both}
use Rattle.telling.specs.Lengths.{refused_length}
use Rattle.telling.proofs.put_refused.Goals as goal

pub put_text-requires-2 : goal.put_text-requires-2
put_text-requires-2 c =
    rw c.phrase_of.ensures (omega (arith, simp length-append at (refused_length c.args.number)))

pub returns : goal.returns
returns c =
    rw (← c.phrase_of.ensures)
    (writes_both (writes_both c.put_text.ensures c.put_digits.ensures) (writes_both c.put_byte.ensures c.put_text-2.ensures))
