use Rattle.rules.specs.Calls.{invoke_of}
use Rattle.checks.specs.OrderLaws.{settled_first}
use Rattle.calls.proofs.invoked.invoke.Goals as goal

pub returns : goal.returns
unfolding invoke_of
returns c =
    rw (
      c.settle.ensures,
      c.invoked-left.ensures,
      c.call_of.ensures,
      c.or-tried.ensures,
      c.or-6.ensures,
      c.or-5.ensures,
      c.or-4.ensures,
      c.or-3.ensures,
      c.or-2.ensures,
      c.or.ensures,
      c.refuse-4.ensures,
      c.refuse-3.ensures,
      c.refuse-2.ensures,
      c.clock_full.ensures,
      c.visit_missing.ensures,
      c.site_down.ensures,
      c.no_passage.ensures,
      c.refuse.ensures,
      c.is_sent_out.ensures,
      c.is_full.ensures,
      c.bad_call.ensures,
      c.from.ensures,
    ) (settled_first _ _ _ _)
