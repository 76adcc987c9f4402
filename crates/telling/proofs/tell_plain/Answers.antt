-- A refused sheet has its one line. A taken one is told record by record.
use Rattle.std.proofs.Common.{rules, ◌/◌, ◌≤◌, ◌≡◌, ◌∙◌, sym, arith, length, Ok}
use Rattle.rules.specs.Sheet.{sheet_answer}
use Rattle.words.specs.Tell.{plain_up_to, plain_of, refused_sheet}
use Rattle.sheet.specs.Few.{taken_few}
use Rattle.buffer.proofs.Pages.{puts_from_front}
use Rattle.telling.proofs.Taken.{plain_taken, plain_refused}
use Rattle.telling.proofs.tell_plain.Goals as goal

pub returns-in_default : goal.returns-in_default
returns-in_default c =
    let q : refused_sheet c.sheet_answer-answer.result ≡ plain_of c.args.sheet.now =
    plain_refused c.args.sheet.now c.sheet_answer-answer.result c.sheet_answer-answer.ensures (c.in_default.not-Ok tt) in
    (rw q at (puts_from_front c.new-page.ensures c.put_refused_sheet.ensures c.len.ensures), search rules)

pub put_plain-requires : goal.put_plain-requires
put_plain-requires c =
    let few : length c.sheet_records.result.now / 16 ≤ 4095 =
    rw c.sheet_records.ensures (taken_few c.args.sheet.now (sym c.sheet_answer-answer.ensures ∙ c.in-Ok.is)) in
    omega (arith, few)

pub returns : goal.returns
returns c =
    let part = c.sheet_records.result.now in
    let taken : sheet_answer c.args.sheet.now ≡ Ok tt = sym c.sheet_answer-answer.ensures ∙ c.in-Ok.is in
    let q : plain_up_to part (length part / 16) ≡ plain_of c.args.sheet.now =
    rw c.sheet_records.ensures (plain_taken c.args.sheet.now taken) in
    (rw q at (puts_from_front c.new-page.ensures c.put_plain.ensures c.len-2.ensures), search rules)
