-- The loop carries the scan of the bytes so far, and that what follows them leads to the same place. Assumes nothing.
use Rattle.std.proofs.Common.{◌≡◌, ◌-◌, ◌≤◌, length, drop}
use Rattle.words.specs.Scan.{blank, scan_all}
use Rattle.words.specs.Faults.{fault_from, fault_in}
use Rattle.faults.proofs.found.spot_in.Given as goal

abbrev pub invariant-loop-i : goal.invariant-loop-i
invariant-loop-i l =
    (fault_from l.s (drop l.from l.line) (drop l.i l.line) ≡ fault_in l.line)
    × (scan_all l.s (drop l.i l.line) ≡ scan_all blank l.line)
    × (l.from ≤ length l.line)
    × (l.i ≤ length l.line)

abbrev pub decreases-loop-i : goal.decreases-loop-i
decreases-loop-i l = length l.line - l.i
