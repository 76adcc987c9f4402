-- What is said, by what was tried: the request, the lists, the sheet, and then the check.
use Rattle.std.proofs.Common.{◌≡◌, ◌∙◌, sym, arith, Ok, ◌||◌, true, false}
use Rattle.rules.specs.Sheet.{sheet_answer}
use Rattle.rules.specs.Listing.{sheet_line}
use Rattle.requests.proofs.NineObjects.{few_objects}
use Rattle.reporting.specs.Report.{objects_in, is_too_long, report_of}
use Rattle.reporting.specs.Lengths.{few_widths}
use Rattle.reporting.proofs.Said.{said_unread, said_long, said_refused, said_cleared}
use Rattle.reporting.proofs.put_report.Goals as goal
use Rattle.reporting.proofs.put_report.Goals.{then-is_too_long-via-then-is_too_long, then-is_too_long-via-else-is_too_long+then-is_too_long-2}

pub returns-in_default : goal.returns-in_default
returns-in_default c =
    let unread = sym c.read_request.ensures ∙ c.in_default.is in
    rw (said_unread c.args.text.now c.args.station.now c.args.company.now c.args.sheet.now unread) at c.put_text.ensures

pub returns-then-is_too_long : goal.returns-then-is_too_long
returns-then-is_too_long c =
    let read = sym c.read_request.ensures ∙ c.in-Some.is in
    let long : (is_too_long c.args.station.now || is_too_long c.args.company.now) ≡ true =
    elim c.then-is_too_long.branch [
      | then-is_too_long-via-then-is_too_long w ↦ rw (rw c.is_too_long.ensures at w.if-is_too_long.true)
      | then-is_too_long-via-else-is_too_long+then-is_too_long-2 w ↦
          rw (rw c.is_too_long.ensures at w.if-is_too_long.false)
          (rw w.is_too_long-else-is_too_long.ensures at w.if-is_too_long-2.true)
    ] in
    rw (said_long c.args.text.now c.args.station.now c.args.company.now c.args.sheet.now c.in-Some.request read long) at c.put_text-then-is_too_long.ensures

pub returns-in_default-answer : goal.returns-in_default-answer
returns-in_default-answer c =
    let read = sym c.read_request.ensures ∙ c.in-Some.is in
    let fair : (is_too_long c.args.station.now || is_too_long c.args.company.now) ≡ false =
    rw (rw c.is_too_long.ensures at c.if-is_too_long.false)
    (rw c.is_too_long-else-is_too_long.ensures at c.if-is_too_long-2.false) in
    let number = c.sheet_number in
    let q : sheet_line number.result ≡ report_of c.args.text.now c.args.station.now c.args.company.now c.args.sheet.now =
    rw number.ensures
    (said_refused c.args.text.now c.args.station.now c.args.company.now c.args.sheet.now c.in-Some.request read fair c.sheet_answer-answer.result c.sheet_answer-answer.ensures (c.in_default-answer.not-Ok tt)) in
    rw q at c.put_sheet_line.ensures

pub shared_ref_as_front-objects : goal.shared_ref_as_front-objects
shared_ref_as_front-objects c = rw (sym c.read_request.ensures ∙ c.in-Some.is) at (few_objects c.args.text.now)

pub put_cleared-requires : goal.put_cleared-requires
put_cleared-requires c =
    let asked = c.in-Some.request in
    let few =
    rw (← c.clear.ensures) at
    (few_widths c.tables_after-tables.result asked.beam asked.margin (objects_in asked) asked.home asked.slot asked.quiesce asked.release) in
    (few.0, few.1, omega arith)

pub returns : goal.returns
returns c =
    let read = sym c.read_request.ensures ∙ c.in-Some.is in
    let fair : (is_too_long c.args.station.now || is_too_long c.args.company.now) ≡ false =
    rw (rw c.is_too_long.ensures at c.if-is_too_long.false)
    (rw c.is_too_long-else-is_too_long.ensures at c.if-is_too_long-2.false) in
    let taken : sheet_answer c.args.sheet.now ≡ Ok tt = sym c.sheet_answer-answer.ensures ∙ c.in-Ok.is in
    let part = c.sheet_records in
    let tables = c.tables_after-tables in
    let cleared = c.clear in
    let q =
    said_cleared c.args.text.now c.args.station.now c.args.company.now c.args.sheet.now c.in-Some.request read fair part.result.now tables.result cleared.result taken part.ensures tables.ensures cleared.ensures in
    rw q at c.put_cleared.ensures
