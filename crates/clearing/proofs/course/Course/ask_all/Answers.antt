-- The chain folds over the numbers below 8 that pass the test, and so does the definition.
use Rattle.std.proofs.Common.{◌∙◌, sym, rules, tests, arith}
use Rattle.std.proofs.lemmas.Iterator.{YieldsList-from_range}
use Rattle.std.proofs.lemmas.Iterator.Consumers.{YieldsList-from_filter, fold_from_yields_List}
use Rattle.clearing.specs.Question.{is_to_ask}
use Rattle.clearing.specs.Clearing.{handle_in, ask_one}
use Rattle.clearing.proofs.ListedLaws.{asks_fold}
use Rattle.clearing.proofs.course.Course.ask_all.Goals as goal

pub returns : goal.returns
returns c =
    let h = handle_in c.args.self.now.begun in
    let home = c.args.self.now.inquiry.home in
    let objects = c.args.self.now.inquiry.objects.now in
    fold_from_yields_List _ (ask_one h) c.args.prepared c.fold.result c.fold.ensures.ran
    (YieldsList-from_filter _ (is_to_ask home objects) (YieldsList-from_range 0 8 8 (cc) (omega arith)) c.filter.ensures.closure (λ x b q k. search (rules, tests)))
    (λ a x b q k. search (rules, tests))
    ∙ sym (asks_fold h home objects c.args.prepared 8)
