-- The loop carries what the definition gives up to the slot; each turn counts at most one.
use Rattle.std.proofs.Common.{◌≤◌, ◌≡◌}
use Rattle.rules.specs.Machine.{turns_up_to}
use Rattle.decisions.specs.Turns.{trip_value}
use Rattle.machine.proofs.whole.turns.Given as goal

abbrev pub invariant-loop-slot : goal.invariant-loop-slot
invariant-loop-slot l =
    (l.done ≡ turns_up_to l.trip l.initial.done l.slot) × (trip_value l.trip l.done.answer ≤ l.slot)
