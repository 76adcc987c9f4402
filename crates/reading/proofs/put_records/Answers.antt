-- Each turn puts what its byte gives, and one newline more is read at the end. Assumes nothing.
use Rattle.std.proofs.Common.{◌≡◌, ◌+◌, ◌++◌, get_or, take, rules, arith}
use Rattle.std.proofs.Math.Seq.{take_all}
use Rattle.buffer.proofs.Pages.{writes_nothing, writes_both}
use Rattle.words.specs.Scan.{unread, given, read_all, text_read}
use Rattle.words.proofs.ReadLaws.{count_most, reader_more, records_more, records_whole}
use Rattle.reading.proofs.put_records.Goals as goal

pub loop-b-init : goal.loop-b-init
unfolding read_all
loop-b-init c =
    (c.unread-r.ensures, writes_nothing _, rw c.unread-r.ensures (omega arith), rw c.unread-r.ensures (omega arith))

pub loop-b-preserved : goal.loop-b-preserved
loop-b-preserved c =
    let text = c.args.text.now in
    let i = c.loop-b.b-index in
    let q : (read_all unread (take i text)).records ++ given c.loop-b.r (get_or text i 0) ≡ (read_all unread (take (i + 1) text)).records =
    rw c.loop-b.invariant.0 (records_more unread text i (search rules)) in (
      rw (c.reader_next-r.ensures, c.loop-b.invariant.0) (reader_more unread text i (search rules)),
      rw q at (writes_both c.loop-b.invariant.1 c.put_given.ensures.0),
      rw c.reader_next-r.ensures c.put_given.ensures.1,
      rw c.reader_next-r.ensures (count_most c.loop-b.r (get_or text i 0) c.loop-b.invariant.3),
    )

pub returns : goal.returns
returns c =
    let text = c.args.text.now in
    let all : take c.loop-b.b-index text ≡ text = take_all c.loop-b.b-index text (omega arith) in
    let q : (read_all unread (take c.loop-b.b-index text)).records ++ given c.loop-b.r 10 ≡ (text_read text).records =
    rw (c.loop-b.invariant.0, all) (records_whole text) in (
      rw q at (writes_both c.loop-b.invariant.1 c.put_given-2.ensures.0),
      rw c.put_given-2.ensures.1 (let m = count_most c.loop-b.r 10 c.loop-b.invariant.3 in omega (arith, m)),
    )
