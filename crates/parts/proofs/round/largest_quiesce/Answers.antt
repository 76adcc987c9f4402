-- The fold over the first eight numbers is what the definition gives of them.
use Rattle.std.proofs.Common.{max, refl, rules, tests}
use Rattle.std.proofs.lemmas.Iterator.{YieldsList-from_range}
use Rattle.std.proofs.lemmas.Iterator.Consumers.{fold_from_yields_List}
use Rattle.rules.specs.Loops.{most_up_to}
use Rattle.rules.specs.Parts.{largest_quiesce}
use Rattle.parts.specs.Balances.{quiesce_of}
use Rattle.parts.proofs.round.largest_quiesce.Goals as goal

pub returns : goal.returns
unfolding largest_quiesce most_up_to
returns c =
    fold_from_yields_List
    _
    (λ most s. max most (quiesce_of c.args.round s))
    0
    c.fold.result
    c.fold.ensures.ran
    (YieldsList-from_range 0 8 8 refl refl)
    (λ a x b q k. search (rules, tests))
