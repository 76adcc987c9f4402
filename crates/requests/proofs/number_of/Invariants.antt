-- The digits so far make the number. Assumes nothing.
use Rattle.std.proofs.Common.{◌≡◌, ◌≤◌, drop}
use Rattle.requests.specs.Requests.{all_digits, number_on, number_of, number_most}
use Rattle.requests.proofs.number_of.Given as goal

abbrev pub invariant-loop-digit : goal.invariant-loop-digit
invariant-loop-digit l =
    (all_digits (drop l.digit-index l.word) ≡ all_digits l.word)
    × (number_on l.number (drop l.digit-index l.word) ≡ number_of l.word)
    × (l.number ≤ number_most)
