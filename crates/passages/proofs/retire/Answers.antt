use Rattle.rules.specs.Passages.{retire_of}
use Rattle.checks.specs.OrderLaws.{settled_first}
use Rattle.passages.proofs.retire.Goals as goal

pub returns : goal.returns
unfolding retire_of
returns c =
    rw (
      c.settle.ensures,
      c.retired.ensures,
      c.or-tried.ensures,
      c.refuse-2.ensures,
      c.or.ensures,
      c.no_passage.ensures,
      c.refuse.ensures,
      c.bad_handle.ensures,
      c.is_over-over.ensures,
    ) (settled_first _ _ _ _)
