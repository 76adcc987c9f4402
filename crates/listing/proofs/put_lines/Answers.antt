-- Each turn puts the line of one answer more.
use Rattle.std.proofs.Common.{◌+◌, arith, get_or, Ok}
use Rattle.rules.specs.Types.{Answer}
use Rattle.rules.specs.Answers.{answer_number, answer_value}
use Rattle.rules.specs.Listing.{line_of}
use Rattle.buffer.specs.Text.{numbers_line_length}
use Rattle.buffer.proofs.Pages.{writes_nothing, writes_both}
use Rattle.listing.specs.Lines.{lines_of}
use Rattle.listing.proofs.Printed.{lines_more}
use Rattle.listing.proofs.put_lines.Goals as goal

pub loop-i-init : goal.loop-i-init
unfolding lines_of
loop-i-init c = (writes_nothing _, omega arith)

pub loop-i-preserved : goal.loop-i-preserved
unfolding line_of
loop-i-preserved c =
    let i = c.loop-i.i in
    let answer : Answer = get_or c.args.answers.now i (Ok 0) in
    let k = numbers_line_length (i + 1) (answer_number answer) (answer_value answer) in
    (rw (lines_more c.args.answers.now i) at (writes_both c.loop-i.invariant.0 c.put_answer.ensures), omega arith)
