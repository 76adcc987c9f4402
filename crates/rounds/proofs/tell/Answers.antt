use Rattle.rules.specs.Rounds.{tell_of}
use Rattle.checks.specs.OrderLaws.{settled_first}
use Rattle.rounds.proofs.tell.Goals as goal

pub returns : goal.returns
unfolding tell_of
returns c =
    rw (
      c.settle.ensures,
      c.sent_out-left.ensures,
      c.tell_body.ensures,
      c.or-tried.ensures,
      c.refuse-3.ensures,
      c.is_full.ensures,
      c.or-4.ensures,
      c.clock_full.ensures,
      c.or-3.ensures,
      c.refuse-2.ensures,
      c.or-2.ensures,
      c.site_down.ensures,
      c.or.ensures,
      c.no_passage.ensures,
      c.refuse.ensures,
      c.bad_site.ensures,
      c.bad_handle.ensures,
      c.is_phase_two.ensures,
      c.has_answered-answered.ensures,
      c.from.ensures,
    ) (settled_first _ _ _ _)
