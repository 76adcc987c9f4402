use Rattle.std.proofs.Common.{◌∙◌, ◌||◌, ap₂, sym, refl, rules, tests}
use Rattle.std.proofs.lemmas.Iterator.{YieldsList-from_slice, YieldsList-from_range}
use Rattle.std.proofs.lemmas.Iterator.Search.{any_from_yields_List}
use Rattle.rules.specs.LoopsLists.{some_list, some_range}
use Rattle.rules.specs.Machine.{is_message_of, remains}
use Rattle.rules.specs.Tables.{past_message, visit_at}
use Rattle.machine.proofs.whole.remains.Goals as goal

pub returns : goal.returns
unfolding remains
returns c =
    let v =
    any_from_yields_List (λ s. (visit_at c.args.t.now s c.args.slot).there) _ _ c.any-visit.result c.any-visit.ensures.ran
    (YieldsList-from_range 0 8 8 refl refl)
    (λ x b q k. search (rules, tests)) in
    let m =
    any_from_yields_List (is_message_of c.args.slot) _ _ c.any-message.result c.any-message.ensures.ran
    (YieldsList-from_slice c.args.t.now.messages cc)
    (λ x b q k. search (rules, tests)) in
    ap₂
    ◌||◌
    (v ∙ some_range (λ s. (visit_at c.args.t.now s c.args.slot).there) 8)
    (m ∙ sym (some_list (is_message_of c.args.slot) c.args.t.now.messages past_message 32 (search rules)))
