-- The claim over the second table of cases. The check of one declaration has a limit of steps, so each subject is computed in its own file and joined here. Assumes nothing.
use Rattle.std.specs.Prelude.{◌≡◌, List, ◌++◌, map}
use Rattle.std.proofs.lemmas.List.{map-append}
use Rattle.rules.specs.Rows.{Row, found, wanted}
use Rattle.trials.specs.Commits.{commit_rows, count_rows, commits_hold, counts_hold}
use Rattle.trials.specs.Promises.{promise_rows, promises_hold}
use Rattle.trials.specs.Rounds.{round_rows, terminate_rows, answer_rows, rounds_hold, terminates_hold, answers_hold}
use Rattle.trials.specs.Refreshes.{refresh_rows, refreshes_hold}
use Rattle.trials.specs.Undone.{undone_rows, sweep_rows, release_rows, undone_hold, sweeps_hold, releases_hold}
use Rattle.trials.specs.Crashes.{crash_rows, outage_rows, crashes_hold, outages_hold}
use Rattle.trials.specs.Mail.{mail_rows, waiting_rows, mails_hold, waits_hold}
use Rattle.trials.specs.Refusals.{refusal_rows, limit_rows, refusals_hold, limits_hold}
use Rattle.trials.specs.Handed.{handed_rows, handed_hold}
use Rattle.trials.specs.Replies.{reply_rows, late_reply_rows, reply_limit_rows, replies_hold, late_replies_hold, reply_limits_hold}
use Rattle.trials.specs.Sheets.{sheet_rows, sheets_hold}
use Rattle.trials.specs.Trials.{standing_rows, open_rows, falling_rows, spoken_rows, homing_rows, trial_rows}

-- two tables that hold are one that holds
hold_joined :
    (a b : List Row)
    → map found a ≡ map wanted a
    → map found b ≡ map wanted b
    → map found (a ++ b) ≡ map wanted (a ++ b)
hold_joined a b ha hb = rw (map-append found a b, map-append wanted a b, ha, hb)

-- every row is as documents 01 and 02 say
pub trials_hold : map found trial_rows ≡ map wanted trial_rows
trials_hold =
    let stands = hold_joined commit_rows (count_rows ++ promise_rows) commits_hold (hold_joined count_rows promise_rows counts_hold promises_hold) in
    let ends = hold_joined round_rows terminate_rows rounds_hold terminates_hold in
    let asks = hold_joined refresh_rows answer_rows refreshes_hold answers_hold in
    let opens = hold_joined (round_rows ++ terminate_rows) (refresh_rows ++ answer_rows) ends asks in
    let undo = hold_joined undone_rows (sweep_rows ++ release_rows) undone_hold (hold_joined sweep_rows release_rows sweeps_hold releases_hold) in
    let down = hold_joined crash_rows outage_rows crashes_hold outages_hold in
    let falls = hold_joined (undone_rows ++ (sweep_rows ++ release_rows)) (crash_rows ++ outage_rows) undo down in
    let post = hold_joined mail_rows waiting_rows mails_hold waits_hold in
    let lists = hold_joined handed_rows sheet_rows handed_hold sheets_hold in
    let refused = hold_joined refusal_rows limit_rows refusals_hold limits_hold in
    let told = hold_joined (refusal_rows ++ limit_rows) (handed_rows ++ sheet_rows) refused lists in
    let says = hold_joined (mail_rows ++ waiting_rows) ((refusal_rows ++ limit_rows) ++ (handed_rows ++ sheet_rows)) post told in
    let late = hold_joined late_reply_rows reply_limit_rows late_replies_hold reply_limits_hold in
    let homes = hold_joined reply_rows (late_reply_rows ++ reply_limit_rows) replies_hold late in
    let held = hold_joined standing_rows open_rows stands opens in
    let rest = hold_joined falling_rows (spoken_rows ++ homing_rows) falls (hold_joined spoken_rows homing_rows says homes) in
    hold_joined (standing_rows ++ open_rows) (falling_rows ++ (spoken_rows ++ homing_rows)) held rest
