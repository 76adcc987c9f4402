-- A number where one stands; else the words that lead on, and nothing where the line may end. Assumes nothing.
use Rattle.std.proofs.Common.{◌≡◌, ◌∙◌, ap, true, false, not, eqb, arith}
use borrow.Author.Tests.{ne_eqb}
use Rattle.buffer.proofs.Pages.{writes_both}
use Rattle.words.specs.Grammar.{slot_at}
use Rattle.words.specs.Faults.{expected_at}
use Rattle.faults.proofs.Choices.{choices_expected, number_stands}
use Rattle.faults.proofs.expected.put_expected_at.Goals as goal

pub returns-then-is_some : goal.returns-then-is_some
unfolding expected_at
returns-then-is_some c =
    let node = c.args.node in
    let width : eqb (slot_at node).width 0 ≡ false = number_stands _ _ c.slot_at.result c.is_some.result c.slot_at.ensures.0 c.is_some.ensures ∙ ap not c.if-is_some.true in (
      rw (ne_eqb node 0 c.if-node-eq0.false, ne_eqb node 30 c.if-node-eq-RAW_NODE.false, width) c.put_text-then-is_some.ensures,
      omega arith,
    )

pub returns-else-is_some : goal.returns-else-is_some
returns-else-is_some c =
    let node = c.args.node in
    let width : eqb (slot_at node).width 0 ≡ true = number_stands _ _ c.slot_at.result c.is_some.result c.slot_at.ensures.0 c.is_some.ensures ∙ ap not c.if-is_some.false in (
      rw (choices_expected node (ne_eqb node 0 c.if-node-eq0.false) (ne_eqb node 30 c.if-node-eq-RAW_NODE.false) width)
          (writes_both c.put_choices.ensures.0 c.put_nothing.ensures.0),
      omega arith,
    )
