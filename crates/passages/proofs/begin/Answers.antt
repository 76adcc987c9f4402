use Rattle.rules.specs.Passages.{begin_of}
use Rattle.checks.specs.OrderLaws.{settled_first}
use Rattle.passages.proofs.begin.Goals as goal

pub returns : goal.returns
unfolding begin_of
returns c =
    rw (
      c.settle.ensures,
      c.begun.ensures,
      c.handle_of-handle.ensures,
      c.or-tried.ensures,
      c.refuse-3.ensures,
      c.from.ensures,
      c.or-3.ensures,
      c.clock_full.ensures,
      c.or-2.ensures,
      c.refuse-2.ensures,
      c.is_free.ensures,
      c.or.ensures,
      c.site_down.ensures,
      c.refuse.ensures,
      c.bad_times.ensures,
      c.bad_site.ensures,
    ) (settled_first _ _ _ _)
