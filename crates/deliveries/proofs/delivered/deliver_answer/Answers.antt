use Rattle.rules.specs.Calls.{deliver_answer_of}
use Rattle.checks.specs.OrderLaws.{settled_first}
use Rattle.deliveries.proofs.delivered.deliver_answer.Goals as goal

pub returns : goal.returns
unfolding deliver_answer_of
returns c =
    rw (
      c.settle.ensures,
      c.answered_at.ensures,
      c.or-tried.ensures,
      c.refuse-2.ensures,
      c.or-2.ensures,
      c.clock_full.ensures,
      c.or.ensures,
      c.site_down.ensures,
      c.refuse.ensures,
      c.bad_message.ensures,
      c.is_phase_one.ensures,
      c.is_free.ensures,
      c.mail_clock-clock.ensures,
    ) (settled_first _ _ _ _)
