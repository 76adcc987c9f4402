use Rattle.std.proofs.Common.{◌∙◌, ◌&&◌, sym, true, leb, rules, tests}
use Rattle.std.proofs.lemmas.Iterator.{YieldsList-from_slice}
use Rattle.std.proofs.lemmas.Iterator.Consumers.{fold_from_yields_List}
use Rattle.rules.specs.Limits.{count_most}
use Rattle.rules.specs.LoopsLists.{every_folded}
use Rattle.rules.specs.Ranges.{counts_in_range}
use Rattle.ranges.proofs.counts_in_range.Goals as goal

pub returns : goal.returns
unfolding counts_in_range
returns c =
    fold_from_yields_List _ (λ ok n. ok && leb n count_most) true c.fold.result c.fold.ensures.ran
    (YieldsList-from_slice c.args.sent.now cc)
    (λ a x b q k. search (rules, tests))
    ∙ sym (every_folded (λ n. leb n count_most) c.args.sent.now 0 8 (search rules))
