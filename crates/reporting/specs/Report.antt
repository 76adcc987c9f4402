-- What ./clearance prints: one definition over the words of the request, the two lists and the sheet, each any bytes. Assumes nothing.
use Rattle.std.specs.Prelude.{ℕ, zero, suc, ◌/◌, Bool, cond, ◌&&◌, ◌||◌, List, [], ◌∷◌, ◌++◌, ltb, eqb, length, get_or, take, Option, Some, None, Ok, Err}
use Rattle.rules.specs.declared.steps.Step.{Step}
use Rattle.rules.specs.Types.{SheetAnswer}
use Rattle.rules.specs.declared.outcomes.Refusal.{Refusal}
use Rattle.rules.specs.Tables.{start}
use Rattle.rules.specs.Answers.{refusal_number}
use Rattle.rules.specs.Runs.{run_records_of}
use Rattle.rules.specs.Sheet.{sheet_answer, sheet_number, sheet_records, records_up_to}
use Rattle.rules.specs.Listing.{decimal_of, sheet_line}
use Rattle.words.specs.Say.{text_bytes, step_text}
use Rattle.words.specs.Tell.{accepted_told, refused_told}
use Rattle.names.specs.Names.{line_for}
use Rattle.requests.specs.declared.Request.{Request}
use Rattle.requests.specs.Requests.{request_of}
use Rattle.clearing.specs.declared.OwnRefusal.{OwnRefusal}
use Rattle.clearing.specs.declared.Verdict.{Verdict}
use Rattle.clearing.specs.declared.Cleared.{Cleared}
use Rattle.clearing.specs.Question.{listed}
use Rattle.clearing.specs.Clearing.{own_number, is_begun, cleared_of}

-- ---- an object, by the line that the lists have for it; "a miss: its number"

abbrev pub name_for : List ℕ → List ℕ → ℕ → List ℕ
name_for station company object =
    cond (eqb (length (line_for station company object)) 0) (decimal_of object) (line_for station company object)

-- ---- the verdict

abbrev pub own_name : OwnRefusal → List ℕ
own_name OwnRefusal.Beam = text_bytes "beam"
own_name OwnRefusal.Margin = text_bytes "margin"
own_name OwnRefusal.List = text_bytes "list"
own_name OwnRefusal.Object = text_bytes "object"
own_name OwnRefusal.Twice = text_bytes "twice"

-- "refused N NAME"
unfoldable pub own_told : OwnRefusal → List ℕ
own_told own = text_bytes "refused " ++ decimal_of (own_number own) ++ (32 ∷ own_name own) ++ (10 ∷ [])

-- "for each object its looked-up line .., " = ", the width"
unfoldable pub width_told : List ℕ → List ℕ → ℕ → ℕ → List ℕ
width_told station company object width = name_for station company object ++ accepted_told width ++ (10 ∷ [])

module _ (station company objects : List ℕ) where
  unfoldable pub widths_told : List ℕ → ℕ → List ℕ
  widths_told widths zero = []
  widths_told widths (suc n) = widths_told widths n ++ width_told station company (listed objects n) (get_or widths n 0)

  -- "for a read " for " and the looked-up line": the refused step was a read's if not every object of the list was read
  unfoldable pub read_told : Cleared → List ℕ
  read_told c =
      cond (is_begun c && ltb c.read (length objects)) (text_bytes " for " ++ name_for station company (listed objects c.read)) []

  -- "the refused step in passread's words, " refused N PHRASE""
  unfoldable pub refused_step_told : Step → Refusal → Cleared → List ℕ
  refused_step_told step refusal c = step_text step ++ refused_told (refusal_number refusal) ++ read_told c ++ (10 ∷ [])

  -- "First the verdict."
  abbrev pub verdict_told : Verdict → Cleared → List ℕ
  verdict_told (Verdict.Refused own) c = own_told own
  verdict_told (Verdict.NoReading step refusal) c = text_bytes "no reading\n" ++ refused_step_told step refusal c
  verdict_told Verdict.Narrow c = text_bytes "narrow\n" ++ widths_told c.widths c.count
  verdict_told Verdict.Fits c = text_bytes "fits\n" ++ widths_told c.widths c.count

  unfoldable pub cleared_told : Cleared → List ℕ
  cleared_told c = verdict_told c.verdict c

-- ---- the text

-- the objects that a request names
abbrev pub objects_in : Request → List ℕ
objects_in request = take request.count request.objects

-- "runs the sheet, then checks on the tables that it leaves"
abbrev pub checked_after : List ℕ → Request → Cleared
checked_after part request =
    cleared_of (run_records_of start (records_up_to part (length part / 16))) request.beam request.margin (objects_in request)
    request.home
    request.slot
    request.quiesce
    request.release

abbrev pub taken_by : SheetAnswer → List ℕ → List ℕ
taken_by (Ok u) text = text
taken_by (Err r) text = sheet_line (sheet_number (Err r))

-- "over 16,384 bytes"
abbrev pub is_too_long : List ℕ → Bool
is_too_long list = ltb 16384 (length list)

-- "Tried in this order: request not read, list too long, sheet N, refused N NAME."
abbrev pub told_of : Option Request → List ℕ → List ℕ → List ℕ → List ℕ
told_of None station company sheet = text_bytes "request not read\n"
told_of (Some request) station company sheet =
    cond (is_too_long station || is_too_long company) (text_bytes "list too long\n")
    (taken_by (sheet_answer sheet) (cleared_told station company (objects_in request) (checked_after (sheet_records sheet) request)))

unfoldable pub report_of : List ℕ → List ℕ → List ℕ → List ℕ → List ℕ
report_of text station company sheet = told_of (request_of text) station company sheet
