-- The words so far are those of the first i records.
use Rattle.std.proofs.Common.{◌*◌, ◌-◌}
use Rattle.buffer.specs.Page.{HasRoom, Writes}
use Rattle.words.specs.Tell.{plain_up_to}
use Rattle.telling.proofs.put_plain.Given as goal

abbrev pub invariant-loop-i : goal.invariant-loop-i
invariant-loop-i l = Writes l.initial.page l.page (plain_up_to l.part l.i) × HasRoom l.page (128 * (l.n - l.i))
