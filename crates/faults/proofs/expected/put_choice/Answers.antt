-- A separator and the word, where the row's word leads on from this place. Assumes nothing.
use borrow.Author.Tests.{eq-eqb}
use Rattle.buffer.proofs.Pages.{writes_both}
use Rattle.faults.proofs.expected.put_choice.Goals as goal

pub returns-then-e-node : goal.returns-then-e-node
returns-then-e-node c =
    rw (← c.edge_of-e.ensures.0, eq-eqb c.edge_of-e.result.from c.args.node c.if-e-node.true, ← c.choices_up_to.ensures.0, ← c.choice_count.ensures)
    (writes_both c.put_separator.ensures c.put_letters.ensures)
