-- The loop carries the reader after the bytes so far. Assumes nothing.
use Rattle.std.proofs.Common.{◌≡◌, take}
use Rattle.words.specs.Scan.{unread, read_all}
use Rattle.reading.proofs.read_text.Given as goal

abbrev pub invariant-loop-b : goal.invariant-loop-b
invariant-loop-b l = l.r ≡ (read_all unread (take l.b-index l.text)).reader
