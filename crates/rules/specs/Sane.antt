-- What a decision needs of the records that it saw, so that no sum wraps and no index is past its end.
-- It holds of whatever is seen of tables that are in range. Assumes nothing.
use Rattle.std.specs.Prelude.{ℕ, ◌≤◌, ◌<◌, get_or}
use Rattle.rules.specs.Types.{Seen}
use Rattle.rules.specs.Limits.{clock_most, count_most}

pub record Sane (seen : Seen) : Type 0 where
  pub clock : seen.site.clock ≤ clock_most
  pub stamp : seen.message.stamp ≤ clock_most
  pub source : seen.message.source ≤ 7
  pub home : seen.passage.home ≤ 7
  pub number : seen.passage.round.number ≤ count_most
  pub received : seen.visit.received ≤ count_most
  pub sent : (d : ℕ) → d < 8 → get_or seen.visit.sent d 0 ≤ count_most
