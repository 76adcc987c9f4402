-- The check computed on two widths, one at home and one at a station that is asked, so that each of its words is seen to be said. Assumes nothing.
use Rattle.std.specs.Prelude.{◌≡◌, refl, Some, None}
use Rattle.rules.specs.declared.steps.Step.{Step}
use Rattle.rules.specs.declared.outcomes.Refusal.{Refusal}
use Rattle.rules.specs.Answers.{first_refusal}
use Rattle.rules.specs.Calls.{deliver_answer_of, deliver_body_of, deliver_call_of, deliver_reply_of, deliver_phase_one_of, deliver_phase_two_of, drop_of, invoke_of}
use Rattle.rules.specs.Loops.{every_up_to, first_up_to, most_up_to, some_up_to, sum_up_to}
use Rattle.rules.specs.Machine.{decide_of, head_of, lowest_empty, places_of, remains, step_in_range_of, step_of, stored, turns_up_to}
use Rattle.rules.specs.Parts.{answer_count, is_closed, largest_quiesce, sent_to}
use Rattle.rules.specs.Passages.{abort_of, begin_of}
use Rattle.rules.specs.Ranges.{counts_in_range, in_range, round_in_range}
use Rattle.rules.specs.Rounds.{ask_of, close_of, open_of, prepare_of, tell_of}
use Rattle.rules.specs.Tables.{start}
use Rattle.clearing.specs.declared.Verdict.{Verdict}
use Rattle.clearing.specs.Clearing.{there_and_back, read_one, reads_up_to, widths_up_to, read_count, ask_one, asks_up_to, tell_one, tells_up_to, cleared_of}
use Rattle.clearing.specs.Said.{said}

-- at exactly the smaller width "fits", one above it "narrow", and "no reading" where another passage holds it
pub each_is_said :
    (said None 12500 ≡ Verdict.Fits) × (said None 12501 ≡ Verdict.Narrow)
    × (said (Some 1) 12500 ≡ Verdict.NoReading (Step.Deliver 0) Refusal.Held)
unfolding first_refusal deliver_answer_of deliver_body_of deliver_call_of deliver_reply_of deliver_phase_one_of deliver_phase_two_of drop_of invoke_of every_up_to first_up_to most_up_to some_up_to sum_up_to decide_of head_of lowest_empty places_of remains step_in_range_of step_of stored turns_up_to answer_count is_closed largest_quiesce sent_to abort_of begin_of counts_in_range in_range round_in_range ask_of close_of open_of prepare_of tell_of start there_and_back read_one reads_up_to widths_up_to read_count ask_one asks_up_to tell_one tells_up_to cleared_of
each_is_said = (refl, refl, refl)
