-- The tables stand as the definition has them up to the record, and its answer is put where there is room.
use Rattle.std.proofs.Common.{◌≡◌, length}
use Rattle.rules.specs.Listing.{printed_up_to}
use Rattle.running.specs.Answered.{PutsAnswers}
use Rattle.running.proofs.run.Given as goal

abbrev pub invariant-loop-i : goal.invariant-loop-i
invariant-loop-i l =
    (l.t ≡ (printed_up_to l.part l.i).tables)
    × PutsAnswers l.part l.i l.initial.out l.out
    × (length l.out ≡ length l.initial.out)
