use Rattle.rules.specs.Calls.{deliver_phase_two_of}
use Rattle.checks.specs.OrderLaws.{settled_first}
use Rattle.phases.proofs.deliver_phase_two.Goals as goal

pub returns : goal.returns
unfolding deliver_phase_two_of
returns c =
    rw (
      c.settle.ensures,
      c.told_at.ensures,
      c.round_tried-tried.ensures,
      c.tells_life.ensures,
      c.mail_clock-clock.ensures,
    ) (settled_first _ _ _ _)
