-- A refused sheet has its one line. A taken one is run, and the list has room for all its answers.
use Rattle.std.proofs.Common.{rules, ◌/◌, ◌≤◌, ◌≡◌, ◌∙◌, sym, arith, length, length-take, take, Ok}
use Rattle.rules.specs.Sheet.{sheet_answer}
use Rattle.rules.specs.Listing.{sheet_line, listing_of}
use Rattle.sheet.specs.Few.{taken_few}
use Rattle.buffer.proofs.Pages.{puts_from_front}
use Rattle.running.specs.Answered.{answers_first}
use Rattle.listing.specs.Lines.{lines_of}
use Rattle.listing.proofs.Printed.{answers_printed}
use Rattle.listing.proofs.Taken.{listing_taken, listing_refused}
use Rattle.listing.proofs.list.Goals as goal

pub returns-in_default : goal.returns-in_default
returns-in_default c =
    let q : sheet_line c.sheet_number.result ≡ listing_of c.args.sheet.now =
    rw c.sheet_number.ensures
    (listing_refused c.args.sheet.now c.sheet_answer-answer.result c.sheet_answer-answer.ensures (c.in_default.not-Ok tt)) in
    (rw q at (puts_from_front c.new-page.ensures c.put_sheet_line.ensures c.len.ensures), search rules)

pub slice_bounds-answers-end : goal.slice_bounds-answers-end
slice_bounds-answers-end c =
    let few : length c.sheet_records-part.result.now / 16 ≤ 4095 =
    rw c.sheet_records-part.ensures (taken_few c.args.sheet.now (sym c.sheet_answer-answer.ensures ∙ c.in-Ok.is)) in
    omega arith

pub slice_bounds-put_lines-end : goal.slice_bounds-put_lines-end
slice_bounds-put_lines-end c =
    let few : length c.sheet_records-part.result.now / 16 ≤ 4095 =
    rw c.sheet_records-part.ensures (taken_few c.args.sheet.now (sym c.sheet_answer-answer.ensures ∙ c.in-Ok.is)) in
    simp length-take (omega arith)

pub returns : goal.returns
returns c =
    let part = c.sheet_records-part.result.now in
    let n = length part / 16 in
    let taken : sheet_answer c.args.sheet.now ≡ Ok tt = sym c.sheet_answer-answer.ensures ∙ c.in-Ok.is in
    let few : n ≤ 4095 = rw c.sheet_records-part.ensures (taken_few c.args.sheet.now taken) in
    let l : length (take n c.run.new.out) ≡ n = simp length-take (omega arith) in
    let q : lines_of (take n c.run.new.out) (length (take n c.run.new.out)) ≡ listing_of c.args.sheet.now =
    rw (l, answers_first part n _ _ (omega (arith, few)) c.run.ensures)
    (answers_printed part n ∙ rw c.sheet_records-part.ensures (listing_taken c.args.sheet.now taken)) in
    (rw q at (puts_from_front c.new-page.ensures c.put_lines.ensures c.len-2.ensures), search rules)
