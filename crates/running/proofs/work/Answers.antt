-- The first turn and then each slot's adds one more, and the last leaves the record's outcome.
use Rattle.std.proofs.Common.{suc, ◌+◌, ◌≤◌, ◌≡◌, ◌∙◌, ap, sym, arith, add-one}
use Rattle.rules.specs.declared.outcomes.Outcome.{Outcome}
use Rattle.rules.specs.Machine.{turn_count}
use Rattle.rules.specs.Record.{record_in_range_of}
use Rattle.work.specs.WorkLaws.{working_starts, working_counts, working_most, working_done}
use Rattle.work.specs.Work.{reading_look}
use Rattle.running.specs.Turn.{left_with}
use Rattle.running.proofs.Turned.{turned_count, turned_next}
use Rattle.running.proofs.work.Goals as goal

pub take_turn-answer-requires : goal.take_turn-answer-requires
take_turn-answer-requires c = (
  c.reading_look-first.ensures,
  omega arith,
  rw c.reading_look-first.ensures (working_counts c.args.t.now c.read_record-reading.result _ _ 0 1 (working_starts _ _)),
  λ z. c.requires,
)

pub loop-slot-init : goal.loop-slot-init
loop-slot-init c =
    rw (c.turn_count-slot-end.ensures, c.reading_look-first.ensures)
    (turned_next c.args.t.now _ _ _ _ _ 0 1 _ _
    (left_with c.take_turn-answer.result c.take_turn-answer.new.t)
    (working_starts _ _)
    (omega arith)
    c.scan_count.ensures
    (rw c.reading_look-first.ensures at c.slot_place-asked.ensures.0)
    c.look_over.ensures
    c.take_turn-answer.ensures)

pub take_turn-answer-requires-in-loop-slot : goal.take_turn-answer-requires-in-loop-slot
take_turn-answer-requires-in-loop-slot c =
    let h : 1 + c.turn_count-slot-end.result ≤ 17 = working_most _ _ _ _ (suc c.loop-slot.slot) _ c.loop-slot.invariant in (
      c.reading_look-first.ensures,
      omega arith,
      rw (add-one, c.reading_look-first.ensures) (working_counts _ _ _ _ (suc c.loop-slot.slot) _ c.loop-slot.invariant),
      λ z. absurd (omega arith),
    )

pub loop-slot-preserved : goal.loop-slot-preserved
loop-slot-preserved c =
    let q = rw add-one at c.take_turn-answer-in-loop-slot.ensures in
    let e : c.turn_count-slot-end.result ≡ turn_count (reading_look c.read_record-reading.result).trip c.loop-slot.answer =
    let n : 1 + c.turn_count-slot-end.result ≡ 1 + turn_count (reading_look c.read_record-reading.result).trip c.loop-slot.answer = c.loop-slot.invariant.end in
    omega arith in
    let k : turn_count (reading_look c.read_record-reading.result).trip c.take_turn-answer-in-loop-slot.result ≡ c.turn_count-slot-end.result =
    rw (ap (λ (o : Outcome). o.answer) q) (turned_count c.read_record-reading.result _ _ c.loop-slot.slot _ ∙ sym e) in
    rw (add-one, ← k)
    (turned_next c.args.t.now c.read_record-reading.result _ _ _ _ (suc c.loop-slot.slot) (1 + c.turn_count-slot-end.result) _ _
    (left_with c.take_turn-answer-in-loop-slot.result c.take_turn-answer-in-loop-slot.new.t)
    c.loop-slot.invariant
    (omega arith)
    c.scan_count.ensures
    (rw c.reading_look-first.ensures at c.slot_place-asked.ensures.0)
    c.look_over.ensures
    q)

pub returns : goal.returns
unfolding record_in_range_of
returns c =
    rw (← c.read_record-reading.ensures.0)
    (working_done _ _ _ _ (suc c.loop-slot.slot) _ c.loop-slot.invariant (omega arith))
