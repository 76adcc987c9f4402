use Rattle.rules.specs.Stations.{tick_of}
use Rattle.checks.specs.OrderLaws.{settled_first}
use Rattle.stations.proofs.tick.Goals as goal

pub returns : goal.returns
unfolding tick_of
returns c =
    rw (
      c.settle.ensures,
      c.at_clock.ensures,
      c.or-tried.ensures,
      c.clock_full.ensures,
      c.or.ensures,
      c.site_down.ensures,
      c.refuse.ensures,
      c.bad_site.ensures,
      c.from.ensures,
    ) (settled_first _ _ _ _)
