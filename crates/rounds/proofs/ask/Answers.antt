use Rattle.rules.specs.Rounds.{ask_of}
use Rattle.checks.specs.OrderLaws.{settled_first}
use Rattle.rounds.proofs.ask.Goals as goal

pub returns : goal.returns
unfolding ask_of
returns c =
    rw (
      c.settle.ensures,
      c.sent_out-left.ensures,
      c.ask_body.ensures,
      c.or-tried.ensures,
      c.refuse-3.ensures,
      c.is_full.ensures,
      c.or-4.ensures,
      c.clock_full.ensures,
      c.or-3.ensures,
      c.refuse-2.ensures,
      c.or-2.ensures,
      c.site_down.ensures,
      c.or.ensures,
      c.no_passage.ensures,
      c.refuse.ensures,
      c.bad_site.ensures,
      c.bad_handle.ensures,
      c.is_phase_one.ensures,
    ) (settled_first _ _ _ _)
