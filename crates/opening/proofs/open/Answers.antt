use Rattle.rules.specs.Rounds.{open_of}
use Rattle.checks.specs.OrderLaws.{settled_first}
use Rattle.opening.proofs.open.Goals as goal

pub returns : goal.returns
unfolding open_of
returns c =
    rw (
      c.settle.ensures,
      c.opened.ensures,
      c.from.ensures,
      c.or-tried.ensures,
      c.refuse-3.ensures,
      c.or-5.ensures,
      c.clock_full.ensures,
      c.or-4.ensures,
      c.visit_missing.ensures,
      c.or-3.ensures,
      c.refuse-2.ensures,
      c.or-2.ensures,
      c.site_down.ensures,
      c.or.ensures,
      c.no_passage.ensures,
      c.refuse.ensures,
    ) (settled_first _ _ _ _)
