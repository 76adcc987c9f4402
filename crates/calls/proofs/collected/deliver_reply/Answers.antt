use Rattle.rules.specs.Calls.{deliver_reply_of}
use Rattle.checks.specs.OrderLaws.{settled_first}
use Rattle.calls.proofs.collected.deliver_reply.Goals as goal

pub returns : goal.returns
unfolding deliver_reply_of
returns c =
    rw (
      c.settle.ensures,
      c.collected.ensures,
      c.from.ensures,
      c.or-tried.ensures,
      c.clock_full.ensures,
      c.or.ensures,
      c.site_down.ensures,
      c.refuse.ensures,
      c.bad_message.ensures,
      c.mail_clock-clock.ensures,
    ) (settled_first _ _ _ _)
