use Rattle.rules.specs.Passages.{abort_of}
use Rattle.checks.specs.OrderLaws.{settled_first}
use Rattle.aborts.proofs.abort.Goals as goal

pub returns : goal.returns
unfolding abort_of
returns c =
    rw (
      c.settle.ensures,
      c.aborted.ensures,
      c.or-tried.ensures,
      c.clock_full.ensures,
      c.or-3.ensures,
      c.refuse-2.ensures,
      c.or-2.ensures,
      c.site_down.ensures,
      c.or.ensures,
      c.no_passage.ensures,
      c.refuse.ensures,
      c.bad_handle.ensures,
      c.is_running-running.ensures,
    ) (settled_first _ _ _ _)
