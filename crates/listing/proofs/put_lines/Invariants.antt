-- The lines so far are those of the first i answers.
use Rattle.std.proofs.Common.{◌*◌, ◌-◌, length}
use Rattle.buffer.specs.Page.{HasRoom, Writes}
use Rattle.listing.specs.Lines.{lines_of}
use Rattle.listing.proofs.put_lines.Given as goal

abbrev pub invariant-loop-i : goal.invariant-loop-i
invariant-loop-i l = Writes l.initial.page l.page (lines_of l.answers l.i) × HasRoom l.page (64 * (length l.answers - l.i))
