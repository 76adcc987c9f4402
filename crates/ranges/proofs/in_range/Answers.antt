use Rattle.std.proofs.Common.{refl, rules, tests}
use Rattle.std.proofs.lemmas.Iterator.{YieldsList-from_slice}
use Rattle.std.proofs.lemmas.Iterator.Search.{all_from_yields_List}
use Rattle.rules.specs.LoopsLists.{every_list}
use Rattle.rules.specs.Ranges.{site_in_range, object_in_range, passage_in_range, visit_in_range, message_in_range, in_range}
use Rattle.rules.specs.Tables.{past_site, past_object, past_passage, past_visit, past_message}
use Rattle.ranges.proofs.in_range.Goals as goal

pub returns : goal.returns
unfolding in_range
returns c =
    let s =
    all_from_yields_List site_in_range _ _ c.all.result c.all.ensures.ran
    (YieldsList-from_slice c.args.t.sites cc)
    (λ x b q k. search (rules, tests)) in
    let o =
    all_from_yields_List object_in_range _ _ c.all-2.result c.all-2.ensures.ran
    (YieldsList-from_slice c.args.t.objects cc)
    (λ x b q k. search (rules, tests)) in
    let p =
    all_from_yields_List passage_in_range _ _ c.all-3.result c.all-3.ensures.ran
    (YieldsList-from_slice c.args.t.passages cc)
    (λ x b q k. search (rules, tests)) in
    let v =
    all_from_yields_List visit_in_range _ _ c.all-4.result c.all-4.ensures.ran
    (YieldsList-from_slice c.args.t.visits cc)
    (λ x b q k. search (rules, tests)) in
    let m =
    all_from_yields_List message_in_range _ _ c.all-5.result c.all-5.ensures.ran
    (YieldsList-from_slice c.args.t.messages cc)
    (λ x b q k. search (rules, tests)) in
    rw (s, every_list site_in_range c.args.t.sites past_site 8 (search rules)) (
    rw (o, every_list object_in_range c.args.t.objects past_object 32 (search rules)) (
    rw (p, every_list passage_in_range c.args.t.passages past_passage 16 (search rules)) (
    rw (v, every_list visit_in_range c.args.t.visits past_visit 128 (search rules)) (
    rw (m, every_list message_in_range c.args.t.messages past_message 32 (search rules)) refl))))
