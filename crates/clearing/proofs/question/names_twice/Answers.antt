-- The chain tests each number of a range, the definition each place.
use Rattle.std.proofs.Common.{◌∙◌, sym, rules, tests, arith, length}
use Rattle.std.proofs.lemmas.Iterator.{YieldsList-from_range}
use Rattle.std.proofs.lemmas.Iterator.Search.{any_from_yields_List}
use Rattle.clearing.specs.Question.{is_named_before}
use Rattle.clearing.proofs.ListedLaws.{some_ranged}
use Rattle.clearing.proofs.question.names_twice.Goals as goal

pub returns : goal.returns
returns c =
    let count = length c.args.objects.now in
    any_from_yields_List (is_named_before c.args.objects.now) _ _ c.any.result c.any.ensures.ran (YieldsList-from_range 0 count count (cc) (omega arith)) (λ x b q k. search (rules, tests))
    ∙ sym (some_ranged (is_named_before c.args.objects.now) count)
