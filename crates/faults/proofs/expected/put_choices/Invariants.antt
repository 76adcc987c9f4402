-- The loop carries the words of the rows so far. Assumes nothing.
use Rattle.std.proofs.Common.{◌+◌, ◌*◌, ◌≤◌}
use Rattle.buffer.specs.Page.{Writes}
use Rattle.words.specs.Faults.{choices_text}
use Rattle.faults.proofs.expected.put_choices.Given as goal

abbrev pub invariant-loop-k : goal.invariant-loop-k
invariant-loop-k l =
    Writes l.initial.page l.page (choices_text l.node l.k) × (l.page.len ≤ l.initial.page.len + 13 * l.k) × (l.k ≤ 31)
