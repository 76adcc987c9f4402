use Prim.Native.Nat.{ℕ}
use mathlib.Core.Path.{ap}
use Rattle.rules.specs.Parts.{is_held_by_other}
use Rattle.rules.specs.Calls.{deliver_call_of}
use Rattle.checks.specs.OrderLaws.{settled_first}
use Rattle.calls.proofs.delivered.deliver_call.Goals as goal

pub returns : goal.returns
unfolding deliver_call_of
returns c =
    rw (
      c.settle.ensures,
      c.called.ensures,
      c.or-tried.ensures,
      c.or-4.ensures,
      c.or-3.ensures,
      c.or-2.ensures,
      c.or.ensures,
      c.refuse-4.ensures,
      c.refuse-3.ensures,
      c.refuse-2.ensures,
      c.clock_full.ensures,
      c.site_down.ensures,
      c.refuse.ensures,
      c.bad_message.ensures,
      c.is_held_by_other-held.ensures,
      ap (λ (slot : ℕ). is_held_by_other slot c.called_object.result) c.mail_slot.ensures,
      c.called_object.ensures,
      c.from.ensures,
      c.called_visit-v.ensures,
      c.mail_clock-clock.ensures,
    ) (settled_first _ _ _ _)
