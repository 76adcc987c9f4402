-- What is said of a request, by what was tried. Assumes nothing.
use Rattle.std.proofs.Common.{◌/◌, ◌≡◌, ◌≢◌, ◌||◌, refl, true, false, Some, None, List, ℕ, length, Ok, Err}
use Rattle.rules.specs.declared.tables.Tables.{Tables}
use Rattle.rules.specs.Types.{SheetAnswer}
use Rattle.rules.specs.Tables.{start}
use Rattle.rules.specs.Runs.{run_records_of}
use Rattle.rules.specs.Sheet.{sheet_answer, sheet_number, sheet_records, records_up_to}
use Rattle.rules.specs.Listing.{sheet_line}
use Rattle.words.specs.Say.{text_bytes}
use Rattle.requests.specs.declared.Request.{Request}
use Rattle.requests.specs.Requests.{request_of}
use Rattle.clearing.specs.declared.Cleared.{Cleared}
use Rattle.clearing.specs.Clearing.{cleared_of}
use Rattle.reporting.specs.Report.{cleared_told, objects_in, taken_by, is_too_long, report_of}

-- a sheet that is not taken has one line, with its number
refused_by_lem : (a : SheetAnswer) (text : List ℕ) → a ≢ Ok tt → sheet_line (sheet_number a) ≡ taken_by a text
refused_by_lem (Ok u) text h = absurd (h refl)
refused_by_lem (Err r) text h = refl

module _ (text station company sheet : List ℕ) where
  pub said_unread : request_of text ≡ None → text_bytes "request not read\n" ≡ report_of text station company sheet
  unfolding report_of
  said_unread r = rw r

  module _ (request : Request) (r : request_of text ≡ Some request) where
    pub said_long : (is_too_long station || is_too_long company) ≡ true → text_bytes "list too long\n" ≡ report_of text station company sheet
    unfolding report_of
    said_long l = rw (r, l)

    module _ (l : (is_too_long station || is_too_long company) ≡ false) where
      pub said_refused :
          (a : SheetAnswer) → a ≡ sheet_answer sheet → a ≢ Ok tt
          → sheet_line (sheet_number a) ≡ report_of text station company sheet
      unfolding report_of
      said_refused a e h = rw (r, l, ← e) (refused_by_lem a _ h)

      pub said_cleared :
          (part : List ℕ) (t : Tables) (c : Cleared) → sheet_answer sheet ≡ Ok tt
          → part ≡ sheet_records sheet
          → t ≡ run_records_of start (records_up_to part (length part / 16))
          → c
          ≡ cleared_of t request.beam request.margin (objects_in request) request.home request.slot request.quiesce
          request.release
          → cleared_told station company (objects_in request) c ≡ report_of text station company sheet
      unfolding report_of
      said_cleared part t c taken ep et ec = rw (r, l, taken, ec, et, ep)
