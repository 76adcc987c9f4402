-- A refused sheet has its one line. A taken one is run, and the list has room for all its answers.
use Rattle.std.proofs.Common.{rules, ◌/◌, ◌≤◌, ◌≡◌, ◌∙◌, sym, arith, length, length-take, take, Ok}
use Rattle.rules.specs.Sheet.{sheet_answer}
use Rattle.words.specs.Tell.{told_up_to, sheet_told, refused_sheet}
use Rattle.sheet.specs.Few.{taken_few}
use Rattle.buffer.proofs.Pages.{puts_from_front}
use Rattle.running.specs.Answered.{taken_held}
use Rattle.telling.proofs.Taken.{told_taken, told_refused}
use Rattle.telling.proofs.tell.Goals as goal

pub returns-in_default : goal.returns-in_default
returns-in_default c =
    let q : refused_sheet c.sheet_answer-answer.result ≡ sheet_told c.args.sheet.now =
    told_refused c.args.sheet.now c.sheet_answer-answer.result c.sheet_answer-answer.ensures (c.in_default.not-Ok tt) in
    (rw q at (puts_from_front c.new-page.ensures c.put_refused_sheet.ensures c.len.ensures), search rules)

pub slice_bounds-answers-end : goal.slice_bounds-answers-end
slice_bounds-answers-end c =
    let few : length c.sheet_records-part.result.now / 16 ≤ 4095 =
    rw c.sheet_records-part.ensures (taken_few c.args.sheet.now (sym c.sheet_answer-answer.ensures ∙ c.in-Ok.is)) in
    omega arith

pub slice_bounds-put_told-end : goal.slice_bounds-put_told-end
slice_bounds-put_told-end c =
    let few : length c.sheet_records-part.result.now / 16 ≤ 4095 =
    rw c.sheet_records-part.ensures (taken_few c.args.sheet.now (sym c.sheet_answer-answer.ensures ∙ c.in-Ok.is)) in
    simp length-take (omega arith)

pub put_told-requires : goal.put_told-requires
put_told-requires c =
    let part = c.sheet_records-part.result.now in
    let n = length part / 16 in
    let few : n ≤ 4095 =
    rw c.sheet_records-part.ensures (taken_few c.args.sheet.now (sym c.sheet_answer-answer.ensures ∙ c.in-Ok.is)) in
    let l : length (take n c.run.new.out) ≡ n = simp length-take (omega arith) in
    (omega (arith, l), omega (arith, l, few), omega (arith, l, few), rw l (taken_held part n _ _ (omega (arith, few)) c.run.ensures))

pub returns : goal.returns
returns c =
    let part = c.sheet_records-part.result.now in
    let n = length part / 16 in
    let taken : sheet_answer c.args.sheet.now ≡ Ok tt = sym c.sheet_answer-answer.ensures ∙ c.in-Ok.is in
    let few : n ≤ 4095 = rw c.sheet_records-part.ensures (taken_few c.args.sheet.now taken) in
    let l : length (take n c.run.new.out) ≡ n = simp length-take (omega arith) in
    let q : told_up_to part (length (take n c.run.new.out)) ≡ sheet_told c.args.sheet.now =
    rw l (rw c.sheet_records-part.ensures (told_taken c.args.sheet.now taken)) in
    (rw q at (puts_from_front c.new-page.ensures c.put_told.ensures c.len-2.ensures), search rules)
