-- The first turn and those of the slots so far are the record's work.
use Rattle.std.proofs.Common.{suc, ◌+◌}
use Rattle.work.specs.WorkLaws.{Working}
use Rattle.running.proofs.work.Given as goal

abbrev pub invariant-loop-slot : goal.invariant-loop-slot
invariant-loop-slot l = Working l.fn.t l.task.reading l.t l.answer (suc l.slot) (1 + l.slot-end)
