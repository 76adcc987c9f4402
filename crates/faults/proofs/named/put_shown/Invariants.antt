-- The loop carries the bytes of the word so far, as they are shown. Assumes nothing.
use Rattle.std.proofs.Common.{map, take}
use Rattle.buffer.specs.Page.{Writes}
use Rattle.words.specs.Faults.{shown_byte}
use Rattle.faults.proofs.named.put_shown.Given as goal

abbrev pub invariant-loop-b : goal.invariant-loop-b
invariant-loop-b l = Writes l.initial.page l.page (map shown_byte (take l.b-index l.b-items))
