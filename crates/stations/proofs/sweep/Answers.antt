use Rattle.rules.specs.Stations.{sweep_of}
use Rattle.checks.specs.OrderLaws.{settled_first}
use Rattle.stations.proofs.sweep.Goals as goal

pub returns : goal.returns
unfolding sweep_of
returns c =
    rw (
      c.settle.ensures,
      c.at_clock.ensures,
      c.or-tried.ensures,
      c.clock_full.ensures,
      c.or.ensures,
      c.site_down.ensures,
      c.refuse.ensures,
      c.bad_site.ensures,
    ) (settled_first _ _ _ _)
