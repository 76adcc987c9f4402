-- The clearance check, step by step, each step answered before the next. Assumes nothing.
-- "It opens one passage, reads every object from home, commits, and says "fits" exactly if it committed
-- and beam plus margin is at most every width that it read."
use Rattle.std.specs.Prelude.{ℕ, zero, suc, ◌+◌, ◌%◌, Bool, cond, List, length, set, replicate, Option, Some, None, is_some, unwrap_or, Ok, Err}
use Rattle.rules.specs.declared.tables.Tables.{Tables}
use Rattle.rules.specs.declared.steps.Step.{Step}
use Rattle.rules.specs.Types.{Answer}
use Rattle.rules.specs.declared.outcomes.Outcome.{Outcome}
use Rattle.rules.specs.declared.outcomes.Refusal.{Refusal}
use Rattle.rules.specs.Loops.{one_if}
use Rattle.rules.specs.Answers.{is_accepted, answer_value}
use Rattle.rules.specs.Machine.{step_of}
use Rattle.rules.specs.Record.{flat_of, is_step}
use Rattle.clearing.specs.declared.way.Way.{Way}
use Rattle.clearing.specs.declared.OwnRefusal.{OwnRefusal}
use Rattle.clearing.specs.declared.Verdict.{Verdict}
use Rattle.clearing.specs.declared.Cleared.{Cleared}
use Rattle.clearing.specs.Question.{listed, bad_beam, bad_margin, bad_list, bad_object, names_twice, is_to_ask, is_fitting}

-- ---- a step, and the step after it

abbrev pub made : Tables → Step → Way
made t s =
    let o : Outcome = step_of t s in
    record { step = s; answer = o.answer; tables = o.tables }

-- the next step is made if the last one was accepted; else the last one stays the last
abbrev pub then_made : Way → Step → Way
then_made w s = cond (is_accepted w.answer) (made w.tables s) w

-- what the last step answered: a handle, a message slot, a width.
-- (Of tables that a program can hold a handle is at most 4,095, a slot at most 31 and a width at most 1,000,000: the remainders change nothing.)
abbrev pub handle_in : Way → ℕ
handle_in w = answer_value w.answer % 65536

abbrev pub mail_in : Way → ℕ
mail_in w = answer_value w.answer % 256

abbrev pub width_in : Way → ℕ
width_in w = answer_value w.answer % 4294967296

-- ---- the steps of a passage that was begun: h is its handle

-- a step that sends a message, its delivery, and the delivery of what then stands in the same slot
unfoldable pub there_and_back : Way → Step → Way
there_and_back w s =
    let sent : Way = then_made w s in
    then_made (then_made sent (Step.Deliver (mail_in sent))) (Step.Deliver (mail_in sent))

-- "invoke h at home, read; deliver m, m that invoke's value"; since request c m is delivered a second time, and the width is the reply's value
unfoldable pub read_one : ℕ → ℕ → Way → ℕ → Way
read_one h home w object = there_and_back w (Step.Invoke h home 0 object 0)

-- "ask; deliver m; deliver m (the answer, same slot)"
unfoldable pub ask_one : ℕ → Way → ℕ → Way
ask_one h w site = there_and_back w (Step.Ask h site)

-- "tell; if accepted, deliver m"
unfoldable pub tell_one : ℕ → Tables → ℕ → Tables
tell_one h t site =
    let told : Way = made t (Step.Tell h site) in
    (then_made told (Step.Deliver (mail_in told))).tables

module _ (h home : ℕ) (objects : List ℕ) where
  -- 2. "Each object, in the list's order"
  unfoldable pub reads_up_to : Way → ℕ → Way
  reads_up_to w zero = w
  reads_up_to w (suc n) = read_one h home (reads_up_to w n) (listed objects n)

  unfoldable pub widths_up_to : Way → ℕ → List ℕ
  widths_up_to w zero = replicate 8 0
  widths_up_to w (suc n) = set (widths_up_to w n) n (width_in (reads_up_to w (suc n)))

  -- how many of them were read
  unfoldable pub read_count : Way → ℕ → ℕ
  read_count w zero = 0
  read_count w (suc n) = read_count w n + one_if (is_accepted (reads_up_to w (suc n)).answer)

  abbrev pub read_all : Way → Way
  read_all w = reads_up_to w (length objects)

  -- 3. "prepare h"
  abbrev pub prepare_made : Way → Way
  prepare_made w = then_made (read_all w) (Step.Prepare h)

  -- 4. "Each station 0..7, rising, not home, with an object of the list, once"
  unfoldable pub asks_up_to : Way → ℕ → Way
  asks_up_to w zero = w
  asks_up_to w (suc n) = cond (is_to_ask home objects n) (ask_one h (asks_up_to w n) n) (asks_up_to w n)

  -- 5. "close h. Accepted means committed."
  abbrev pub close_made : Way → Way
  close_made w = then_made (asks_up_to (prepare_made w) 8) (Step.Close h)

  -- 6. "The stations of 4 again"; a refusal here changes no verdict: "the next station follows"
  unfoldable pub tells_up_to : Tables → ℕ → Tables
  tells_up_to t zero = t
  tells_up_to t (suc n) = cond (is_to_ask home objects n) (tell_one h (tells_up_to t n) n) (tells_up_to t n)

-- ---- a refusal up to the close ends it

-- "then drop m (after a refused deliver)"
abbrev pub dropped : Tables → Step → Tables
dropped t step = cond (is_step 11 step) (made t (Step.Drop (flat_of step).c)).tables t

-- "abort h", on the tables that the refused step left
abbrev pub given_up : ℕ → Way → Tables
given_up h w = dropped (made w.tables (Step.Abort h)).tables w.step

-- ---- what it gives

-- was a passage begun?
abbrev pub is_begun : Cleared → Bool
is_begun c = is_some c.passage

-- and its handle, 0 where none was
abbrev pub handle_of : Cleared → ℕ
handle_of c = unwrap_or c.passage 0

abbrev pub no_widths : List ℕ
no_widths = replicate 8 0

-- "tables as handed in"
abbrev pub refused_by : OwnRefusal → Tables → Cleared
refused_by own t =
    record { verdict = Verdict.Refused own; widths = no_widths; count = 0; read = 0; passage = None; tables = t }

-- ""No reading", and every width in the result is 0, those already read too"
abbrev pub no_reading : Option ℕ → ℕ → Step → Refusal → Tables → Cleared
no_reading passage read step refusal t =
    record {
      verdict = Verdict.NoReading step refusal;
      widths = no_widths;
      count = 0;
      read = read;
      passage = passage;
      tables = t;
    }

-- ""Fits" exactly if close was accepted and beam + margin ≤ every width; else, after an accepted close, "narrow""
abbrev pub committed : ℕ → ℕ → List ℕ → ℕ → ℕ → Tables → Cleared
committed beam margin widths count h t =
    record {
      verdict = cond (is_fitting beam margin widths count) Verdict.Fits Verdict.Narrow;
      widths = widths;
      count = count;
      read = count;
      passage = Some h;
      tables = t;
    }

-- by the answer of the close, or of the step that was refused before it
abbrev pub ended_by : Answer → ℕ → ℕ → List ℕ → ℕ → List ℕ → ℕ → ℕ → Way → Cleared
ended_by (Ok v) beam margin objects home widths read h w =
    committed beam margin widths (length objects) h (tells_up_to h home objects w.tables 8)
ended_by (Err refusal) beam margin objects home widths read h w =
    no_reading (Some h) read w.step refusal (given_up h w)

abbrev pub ended_of : ℕ → ℕ → List ℕ → ℕ → List ℕ → ℕ → ℕ → Way → Cleared
ended_of beam margin objects home widths read h w = ended_by w.answer beam margin objects home widths read h w

-- 2 to 6, after an accepted begin
abbrev pub went_of : ℕ → ℕ → List ℕ → ℕ → Way → Cleared
went_of beam margin objects home w =
    let h : ℕ = handle_in w in
    ended_of beam margin objects home (widths_up_to h home objects w (length objects)) (read_count h home objects w (length objects)) h
    (close_made h home objects w)

-- by begin's answer: "nothing is aborted; the slot may be another's passage"
abbrev pub begun_by : Answer → ℕ → ℕ → List ℕ → ℕ → Way → Cleared
begun_by (Ok v) beam margin objects home w = went_of beam margin objects home w
begun_by (Err refusal) beam margin objects home w = no_reading None 0 w.step refusal w.tables

-- 1. "begin; h is its value"
abbrev pub begun_of : Tables → ℕ → ℕ → ℕ → ℕ → Way
begun_of t home slot quiesce release = made t (Step.Begin home slot quiesce release)

-- the steps of a check that nothing of its own refuses
abbrev pub checked_of : Tables → ℕ → ℕ → List ℕ → ℕ → ℕ → ℕ → ℕ → Cleared
checked_of t beam margin objects home slot quiesce release =
    let w : Way = begun_of t home slot quiesce release in
    begun_by w.answer beam margin objects home w

-- the clearance check
unfoldable pub cleared_of : Tables → ℕ → ℕ → List ℕ → ℕ → ℕ → ℕ → ℕ → Cleared
cleared_of t beam margin objects home slot quiesce release =
    cond (bad_beam beam) (refused_by OwnRefusal.Beam t)
    (cond (bad_margin margin) (refused_by OwnRefusal.Margin t)
    (cond (bad_list objects) (refused_by OwnRefusal.List t)
    (cond (bad_object objects) (refused_by OwnRefusal.Object t)
    (cond (names_twice objects) (refused_by OwnRefusal.Twice t)
    (checked_of t beam margin objects home slot quiesce release)))))

-- the numbers of its own refusals
abbrev pub own_number : OwnRefusal → ℕ
own_number OwnRefusal.Beam = 1
own_number OwnRefusal.Margin = 2
own_number OwnRefusal.List = 3
own_number OwnRefusal.Object = 4
own_number OwnRefusal.Twice = 5
