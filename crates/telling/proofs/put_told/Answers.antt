-- Each turn puts the line of one record more.
use Rattle.std.proofs.Common.{◌+◌, ◌*◌, ◌≤◌, arith, rules, length, get_or, Ok}
use Rattle.rules.proofs.RecordLaws.{Bytes16}
use Rattle.rules.specs.Types.{Answer}
use Rattle.rules.specs.Sheet.{record_at}
use Rattle.words.specs.Say.{record_text}
use Rattle.words.specs.Tell.{told_up_to}
use Rattle.buffer.proofs.Pages.{writes_nothing, writes_both}
use Rattle.telling.specs.Lengths.{record_bytes, record_short, answer_line_length}
use Rattle.telling.proofs.Lines.{told_more}
use Rattle.telling.proofs.put_told.Goals as goal

pub loop-i-init : goal.loop-i-init
unfolding told_up_to
loop-i-init c = (writes_nothing _, omega arith)

pub put_told_line-requires : goal.put_told_line-requires
put_told_line-requires c =
    let part = c.args.part.now in
    let i = c.loop-i.i in
    let room : 16 * i + 16 ≤ length part = omega arith in
    let w : Bytes16 (record_at part i) = record_bytes part i (λ k. omega (arith, c.type_inv.part k)) room in
    (omega arith, omega arith, rw c.record_at.ensures (record_short (record_at part i) w))

pub loop-i-preserved : goal.loop-i-preserved
loop-i-preserved c =
    let part = c.args.part.now in
    let i = c.loop-i.i in
    let answer : Answer = get_or c.args.answers.now i (Ok 0) in
    let room : 16 * i + 16 ≤ length part = omega arith in
    let w : Bytes16 (record_at part i) = record_bytes part i (λ k. omega (arith, c.type_inv.part k)) room in
    let short : length (record_text c.record_at.result) ≤ 66 = rw c.record_at.ensures (record_short (record_at part i) w) in
    let long = answer_line_length (i + 1) c.record_at.result answer (omega arith) short in
    let held = c.requires.3.each i (search rules) (Ok 0) in (
      rw (told_more part i) at (writes_both c.loop-i.invariant.0 (rw (c.record_at.ensures, held) at c.put_told_line.ensures)),
      omega (arith, long),
    )
