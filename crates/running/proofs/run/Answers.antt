-- Each record leaves the next tables, and its answer is put behind those before it where there is room.
use Rattle.std.proofs.Common.{◌+◌, ◌≡◌, ◌∙◌, refl, arith, rules, length}
use Rattle.rules.specs.Listing.{printed_up_to}
use Rattle.rules.proofs.ListingLaws.{printed_is_run}
use Rattle.running.specs.Answered.{PutsAnswers}
use Rattle.running.specs.Turn.{left_with}
use Rattle.running.proofs.Printed.{printed_in_range, outcome_next, answered_none, answered_next, answered_full}
use Rattle.running.proofs.run.Goals as goal
use Rattle.running.proofs.run.Goals.{then-i-out, else-i-out}

pub loop-i-init : goal.loop-i-init
unfolding printed_up_to
loop-i-init c = (c.start-t.ensures, answered_none _ _, refl)

pub work-answer-requires : goal.work-answer-requires
work-answer-requires c = rw c.loop-i.invariant.0 (printed_in_range c.args.part.now c.loop-i.i)

pub loop-i-preserved : goal.loop-i-preserved
loop-i-preserved c =
    let j =
    outcome_next c.args.part.now c.loop-i.i c.loop-i.t c.record_at.result
    (left_with c.work-answer.result c.work-answer.new.t)
    c.loop-i.invariant.0
    c.record_at.ensures
    c.work-answer.ensures in
    let put :
    PutsAnswers c.args.part.now (c.loop-i.i + 1) c.args.out.now c.if-i-out.out
    × (length c.if-i-out.out ≡ length c.args.out.now) =
    elim c.if-i-out.branch [
      | then-i-out w ↦
          rw w.out-is (
            answered_next c.args.part.now c.args.out.now c.loop-i.out c.loop-i.i c.work-answer.result (omega arith) c.loop-i.invariant.1 j.1,
            search rules,
          )
      | else-i-out w ↦
          rw w.out-is (
            answered_full c.args.part.now c.args.out.now c.loop-i.out c.loop-i.i (omega arith) c.loop-i.invariant.1,
            c.loop-i.invariant.2,
          )
    ] in
    (j.0, put.0, put.1)

pub returns : goal.returns
returns c =
    let e : c.loop-i.i ≡ c.args.n = omega arith in
    record {
      tables = rw e at (c.loop-i.invariant.0 ∙ printed_is_run c.args.part.now c.loop-i.i);
      answers = rw e at c.loop-i.invariant.1;
    }
