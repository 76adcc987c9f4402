-- A separator and the word nothing. Assumes nothing.
use Rattle.std.proofs.Common.{◌+◌, arith}
use Rattle.buffer.proofs.Pages.{writes_both}
use Rattle.faults.proofs.Choices.{separator_length}
use Rattle.faults.proofs.expected.put_nothing.Goals as goal

pub returns-then-may_end : goal.returns-then-may_end
returns-then-may_end c =
    let before = c.choices_up_to-before.result in (
      rw (← c.may_end.ensures, c.if-may_end.true, ← c.choices_up_to-before.ensures.0) (writes_both c.put_separator.ensures c.put_text.ensures),
      omega (arith, separator_length before (before + 1)),
    )
