-- The digits that are left, written behind the number so far, make the number. Assumes nothing.
use Rattle.std.proofs.Common.{◌≡◌, ◌<◌, drop}
use Rattle.names.specs.Names.{number_on, number_of}
use Rattle.names.proofs.number_of.Given as goal

abbrev pub invariant-loop-digit : goal.invariant-loop-digit
invariant-loop-digit l = (number_on l.number (drop l.digit-index l.digits) ≡ number_of l.digits) × (l.number < 256)
