-- The lines so far are those of the first i records.
use Rattle.std.proofs.Common.{◌*◌, ◌-◌, length}
use Rattle.buffer.specs.Page.{HasRoom, Writes}
use Rattle.words.specs.Tell.{told_up_to}
use Rattle.telling.proofs.put_told.Given as goal

abbrev pub invariant-loop-i : goal.invariant-loop-i
invariant-loop-i l = Writes l.initial.page l.page (told_up_to l.part l.i) × HasRoom l.page (128 * (length l.answers - l.i))
