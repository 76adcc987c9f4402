-- Each turn puts the word of one row more. Assumes nothing.
use Rattle.std.proofs.Common.{add-one, rules, arith}
use Rattle.buffer.proofs.Pages.{writes_nothing, writes_both}
use Rattle.words.specs.Faults.{choices_text}
use Rattle.faults.proofs.Choices.{choice_length}
use Rattle.faults.proofs.expected.put_choices.Goals as goal

pub loop-k-init : goal.loop-k-init
unfolding choices_text
loop-k-init c = (writes_nothing _, omega arith, omega arith)

pub loop-k-preserved : goal.loop-k-preserved
unfolding choices_text
loop-k-preserved c = (
  rw (add-one c.loop-k.k) (writes_both c.loop-k.invariant.0 c.put_choice.ensures),
  omega (arith, choice_length c.args.node c.loop-k.k),
  search rules,
)
