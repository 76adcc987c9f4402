-- The chain tests each element, the definition each place.
use Rattle.std.proofs.Common.{◌+◌, ◌∙◌, sym, rules, tests, arith, leb, length, take}
use Rattle.std.proofs.lemmas.Iterator.{YieldsList-from_slice}
use Rattle.std.proofs.lemmas.Iterator.Search.{all_from_yields_List}
use Rattle.clearing.proofs.ListedLaws.{fitting_all}
use Rattle.clearing.proofs.course.Course.is_fitting.Goals as goal

pub returns : goal.returns
returns c =
    let beam = c.args.self.now.inquiry.beam in
    let margin = c.args.self.now.inquiry.margin in
    let count = length c.args.self.now.inquiry.objects.now in
    all_from_yields_List (λ w. leb (beam + margin) w) _ _ c.all.result c.all.ensures.ran (YieldsList-from_slice (take count c.args.widths) (cc)) (λ x b q k. search (rules, tests))
    ∙ sym (fitting_all beam margin c.args.widths count (omega arith))
