use Rattle.rules.specs.Calls.{empty_of}
use Rattle.checks.specs.OrderLaws.{settled_first}
use Rattle.deliveries.proofs.delivered.deliver_empty.Goals as goal

pub returns : goal.returns
unfolding empty_of
returns c =
    rw (
      c.settle.ensures,
      c.or-tried.ensures,
      c.no_mail.ensures,
      c.refuse.ensures,
      c.bad_message.ensures,
    ) (settled_first _ _ _ _)
