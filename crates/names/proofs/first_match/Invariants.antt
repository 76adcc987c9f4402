-- The first match of what is left is the first match of all. Assumes nothing.
use Rattle.std.proofs.Common.{◌≡◌, length}
use Rattle.names.specs.Names.{lines_of, first_match}
use Rattle.names.proofs.first_match.Given as goal

abbrev pub invariant-loop-line : goal.invariant-loop-line
invariant-loop-line l = first_match l.object (lines_of l.rest) ≡ first_match l.object (lines_of l.list)

abbrev pub decreases-loop-line : goal.decreases-loop-line
decreases-loop-line l = length l.rest
