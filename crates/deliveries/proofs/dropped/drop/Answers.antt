use Rattle.rules.specs.Calls.{drop_of}
use Rattle.checks.specs.OrderLaws.{settled_first}
use Rattle.deliveries.proofs.dropped.drop.Goals as goal

pub returns : goal.returns
unfolding drop_of
returns c =
    rw (
      c.settle.ensures,
      c.lost.ensures,
      c.or-tried.ensures,
      c.no_mail.ensures,
      c.refuse.ensures,
      c.bad_message.ensures,
    ) (settled_first _ _ _ _)
