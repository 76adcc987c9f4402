-- The loop carries what the definition gives up to the index.
use Rattle.std.proofs.Common.{◌≤◌, ◌≡◌, length}
use Rattle.clearing.specs.Clearing.{handle_in, reads_up_to, widths_up_to, read_count}
use Rattle.clearing.proofs.course.Course.read_all.Given as goal

abbrev pub invariant-loop-i : goal.invariant-loop-i
invariant-loop-i l =
    let h = handle_in l.self.begun in
    let home = l.self.inquiry.home in
    let objects = l.self.inquiry.objects.now in
    record {
      way : l.way ≡ reads_up_to h home objects l.initial.way l.i;
      widths : l.widths ≡ widths_up_to h home objects l.initial.way l.i;
      read : l.read ≡ read_count h home objects l.initial.way l.i;
      few : l.read ≤ l.i;
      within : l.i ≤ length objects;
    }
