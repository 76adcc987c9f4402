-- The text is cut at its newlines. Assumes nothing.
use Rattle.std.proofs.Common.{◌∙◌, refl, ap, eqb, Option, unwrap_or, List, [], ℕ, rules}
use denote.Ref.{Bor}
use borrow.Author.Tests.{tests}
use Rattle.std.proofs.lemmas.Iterator.Consumers.{nth_from_yields_List}
use Rattle.std.proofs.lemmas.Iterator.Splits.{YieldsList-from_slice_split}
use Rattle.faults.proofs.Finding.{line_cut, part_now}
use Rattle.faults.proofs.found.line_behind.Goals as goal

pub returns : goal.returns
returns c =
    let text = c.args.text.now in
    let n = c.args.lines in
    let e = nth_from_yields_List c.nth.result c.nth.new.self n c.nth.ensures.ran (YieldsList-from_slice_split _ (λ (b : ℕ). eqb b 10) text c.split.ensures.rest c.split.ensures.done c.split.ensures.closure (λ x b q k. search (rules, tests))) in
    ap (λ (x : Bor (List ℕ)). x.now) c.unwrap_or.ensures ∙ part_now c.nth.result _ refl ∙ ap (λ (o : Option (List ℕ)). unwrap_or o []) e ∙ line_cut text n
