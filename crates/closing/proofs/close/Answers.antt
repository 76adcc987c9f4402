use Rattle.rules.specs.Rounds.{close_of}
use Rattle.checks.specs.OrderLaws.{settled_first}
use Rattle.closing.proofs.close.Goals as goal

pub returns : goal.returns
unfolding close_of
returns c =
    rw (
      c.settle.ensures,
      c.from.ensures,
      c.closed-left.ensures,
      c.round_told.ensures,
      c.answer_count-count.ensures,
      c.or-tried.ensures,
      c.refuse-3.ensures,
      c.is_closed.ensures,
      c.or-4.ensures,
      c.clock_full.ensures,
      c.or-3.ensures,
      c.refuse-2.ensures,
      c.is_phase_one.ensures,
      c.or-2.ensures,
      c.site_down.ensures,
      c.or.ensures,
      c.no_passage.ensures,
      c.refuse.ensures,
      c.bad_handle.ensures,
    ) (settled_first _ _ _ _)
