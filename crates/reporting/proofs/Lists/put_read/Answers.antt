-- Nothing is said of a read where none was refused.
use Rattle.std.proofs.Math.Bool.{and-false}
use Rattle.std.proofs.Common.{lt-ltb, le-ltb, ◌≡◌, true, false, length}
use Rattle.buffer.proofs.Pages.{writes_nothing, writes_both}
use Rattle.clearing.specs.Clearing.{is_begun}
use Rattle.reporting.specs.Report.{read_told}
use Rattle.reporting.proofs.Lists.put_read.Goals as goal
use Rattle.reporting.proofs.Lists.put_read.Goals.{else-begun-via-then-begun+else-c-objects, else-begun-via-else-begun}

pub returns-then-c-objects : goal.returns-then-c-objects
unfolding read_told
returns-then-c-objects c =
    let b : is_begun c.args.c.now ≡ true = cc in
    rw (b, lt-ltb c.args.c.now.read (length c.args.objects.now) c.if-c-objects.true) (writes_both c.put_text.ensures c.put_name.ensures)

pub returns-else-begun : goal.returns-else-begun
unfolding read_told
returns-else-begun c =
    elim c.else-begun.branch [
      | else-begun-via-then-begun+else-c-objects w ↦
          rw (le-ltb c.args.c.now.read (length c.args.objects.now) w.if-c-objects.false, and-false (is_begun c.args.c.now)) (writes_nothing _)
      | else-begun-via-else-begun w ↦
          let e : is_begun c.args.c.now ≡ false = cc in
          rw e (writes_nothing _)
    ]
