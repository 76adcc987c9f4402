use Rattle.rules.specs.Stations.{crash_of}
use Rattle.checks.specs.OrderLaws.{settled_first}
use Rattle.outages.proofs.crash.Goals as goal

pub returns : goal.returns
unfolding crash_of
returns c =
    rw (
      c.settle.ensures,
      c.left_site.ensures,
      c.or-tried.ensures,
      c.clock_full.ensures,
      c.or.ensures,
      c.site_down.ensures,
      c.refuse.ensures,
      c.bad_site.ensures,
    ) (settled_first _ _ _ _)
