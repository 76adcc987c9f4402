-- What a trip through a site's slots counts. Assumes nothing.
use Rattle.std.specs.Prelude.{ℕ}
use Rattle.rules.specs.Types.{Answer}
use Rattle.rules.specs.declared.looking.Trip.{Trip}
use Rattle.rules.specs.Answers.{answer_value}

-- what a trip has counted so far; only a sweep counts
abbrev pub trip_value : Trip → Answer → ℕ
trip_value Trip.Nowhere answer = 0
trip_value (Trip.Sweep site) answer = answer_value answer
trip_value (Trip.Crash site) answer = 0
