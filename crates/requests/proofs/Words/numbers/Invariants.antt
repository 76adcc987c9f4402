-- What is stored, and the words that are left, make the list. Assumes nothing.
use Rattle.std.proofs.Common.{◌≡◌, ◌≤◌, length}
use Rattle.requests.proofs.Objects.{stored_all}
use Rattle.requests.specs.Walk.{words_left, listed}
use Rattle.requests.proofs.Words.numbers.Given as goal

abbrev pub invariant-loop-word : goal.invariant-loop-word
invariant-loop-word l = (stored_all l.objects l.count (words_left l.self.rest) ≡ listed (words_left l.initial.self.rest)) × (l.count ≤ 9) × (length l.objects ≡ 9)

abbrev pub decreases-loop-word : goal.decreases-loop-word
decreases-loop-word l = length (words_left l.self.rest)
