-- The balances of the first s answers; each is at most what s answers can say.
use Rattle.std.proofs.Common.{ℕ, ◌*◌, ◌≤◌, ◌≡◌, get_or}
use Rattle.parts.specs.Balances.{balances_up_to}
use Rattle.parts.proofs.round.is_closed.Given as goal

abbrev pub invariant-loop-s : goal.invariant-loop-s
invariant-loop-s l =
    (l.balances ≡ balances_up_to l.round l.s) × ((d : ℕ) → get_or l.balances d 0 ≤ 65535 * l.s)
