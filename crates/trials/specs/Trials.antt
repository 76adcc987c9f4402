-- The second table of cases: what the starred cases leave unsaid, computed from the definitions as they are. One table, and one claim over it in proofs/Trials.antt.
-- Assumes nothing.
use Rattle.std.specs.Prelude.{List, ◌++◌}
use Rattle.rules.specs.Rows.{Row}
use Rattle.trials.specs.Commits.{commit_rows, count_rows}
use Rattle.trials.specs.Promises.{promise_rows}
use Rattle.trials.specs.Rounds.{round_rows, terminate_rows, answer_rows}
use Rattle.trials.specs.Refreshes.{refresh_rows}
use Rattle.trials.specs.Undone.{undone_rows, sweep_rows, release_rows}
use Rattle.trials.specs.Crashes.{crash_rows, outage_rows}
use Rattle.trials.specs.Mail.{mail_rows, waiting_rows}
use Rattle.trials.specs.Refusals.{refusal_rows, limit_rows}
use Rattle.trials.specs.Handed.{handed_rows}
use Rattle.trials.specs.Replies.{reply_rows, late_reply_rows, reply_limit_rows}
use Rattle.trials.specs.Sheets.{sheet_rows}

-- what stands: commits, counts of calls, promises
abbrev pub standing_rows : List Row
standing_rows = commit_rows ++ (count_rows ++ promise_rows)

-- rounds over several stations: refreshes, answers, terminates
abbrev pub open_rows : List Row
open_rows = (round_rows ++ terminate_rows) ++ (refresh_rows ++ answer_rows)

-- what falls: aborts, sweeps, crashes
abbrev pub falling_rows : List Row
falling_rows = (undone_rows ++ (sweep_rows ++ release_rows)) ++ (crash_rows ++ outage_rows)

-- what is said: messages, refusals, listings
abbrev pub spoken_rows : List Row
spoken_rows = (mail_rows ++ waiting_rows) ++ ((refusal_rows ++ limit_rows) ++ (handed_rows ++ sheet_rows))

-- what comes home: replies
abbrev pub homing_rows : List Row
homing_rows = reply_rows ++ (late_reply_rows ++ reply_limit_rows)

abbrev pub trial_rows : List Row
trial_rows = (standing_rows ++ open_rows) ++ (falling_rows ++ (spoken_rows ++ homing_rows))
