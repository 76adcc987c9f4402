-- The chain tests each element, the definition each place.
use Rattle.std.proofs.Common.{◌∙◌, sym, rules, tests, ltb}
use Rattle.std.proofs.lemmas.Iterator.{YieldsList-from_slice}
use Rattle.std.proofs.lemmas.Iterator.Search.{any_from_yields_List}
use Rattle.rules.specs.Limits.{object_most}
use Rattle.clearing.proofs.ListedLaws.{bad_object_any}
use Rattle.clearing.proofs.question.has_bad_object.Goals as goal

pub returns : goal.returns
returns c =
    any_from_yields_List (λ o. ltb object_most o) _ _ c.any.result c.any.ensures.ran (YieldsList-from_slice c.args.objects.now cc) (λ x b q k. search (rules, tests))
    ∙ sym (bad_object_any c.args.objects.now)
