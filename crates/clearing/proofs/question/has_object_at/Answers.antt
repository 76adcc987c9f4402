-- The chain tests each element, the definition each place.
use Rattle.std.proofs.Common.{◌∙◌, sym, rules, tests, eqb}
use Rattle.std.proofs.lemmas.Iterator.{YieldsList-from_slice}
use Rattle.std.proofs.lemmas.Iterator.Search.{any_from_yields_List}
use Rattle.rules.specs.Tables.{object_site}
use Rattle.clearing.proofs.ListedLaws.{object_at_any}
use Rattle.clearing.proofs.question.has_object_at.Goals as goal

pub returns : goal.returns
returns c =
    any_from_yields_List (λ o. eqb (object_site o) c.args.site) _ _ c.any.result c.any.ensures.ran (YieldsList-from_slice c.args.objects.now cc) (λ x b q k. search (rules, tests))
    ∙ sym (object_at_any c.args.objects.now c.args.site)
