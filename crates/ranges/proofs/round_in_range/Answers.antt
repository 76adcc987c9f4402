use Rattle.std.proofs.Common.{refl, rules, tests}
use Rattle.std.proofs.lemmas.Iterator.{YieldsList-from_slice}
use Rattle.std.proofs.lemmas.Iterator.Search.{all_from_yields_List}
use Rattle.rules.specs.LoopsLists.{every_list}
use Rattle.rules.specs.Ranges.{figures_in_range, round_in_range}
use Rattle.rules.specs.Tables.{past_figures}
use Rattle.ranges.proofs.round_in_range.Goals as goal

pub returns : goal.returns
unfolding round_in_range
returns c =
    let f =
    all_from_yields_List figures_in_range _ _ c.all.result c.all.ensures.ran
    (YieldsList-from_slice c.args.r.now.figures cc)
    (λ x b q k. search (rules, tests)) in
    rw (f, every_list figures_in_range c.args.r.now.figures past_figures 8 (search rules), c.phase_fits.ensures, c.kind_in_range.ensures) refl
