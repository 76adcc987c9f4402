-- The loop carries the records of the bytes so far. Assumes nothing.
use Rattle.std.proofs.Common.{◌≡◌, ◌*◌, ◌≤◌, take}
use Rattle.buffer.specs.Page.{Writes}
use Rattle.words.specs.Scan.{unread, read_all}
use Rattle.reading.proofs.put_records.Given as goal

abbrev pub invariant-loop-b : goal.invariant-loop-b
invariant-loop-b l =
    (l.r ≡ (read_all unread (take l.b-index l.text)).reader)
    × Writes l.initial.page l.page (read_all unread (take l.b-index l.text)).records
    × (l.page.len ≡ 16 * l.r.count)
    × (l.r.count ≤ 4095)
