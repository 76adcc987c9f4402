use Rattle.rules.specs.Stations.{recover_of}
use Rattle.checks.specs.OrderLaws.{settled_first}
use Rattle.outages.proofs.recover.Goals as goal

pub returns : goal.returns
unfolding recover_of
returns c =
    rw (
      c.settle.ensures,
      c.left_site.ensures,
      c.or-tried.ensures,
      c.clock_full.ensures,
      c.or.ensures,
      c.refuse-2.ensures,
      c.refuse.ensures,
      c.bad_site.ensures,
    ) (settled_first _ _ _ _)
