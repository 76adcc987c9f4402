use Rattle.std.proofs.Common.{rules, tests}
use Rattle.std.proofs.lemmas.Iterator.{YieldsList-from_slice}
use Rattle.std.proofs.lemmas.Iterator.Search.{position_from_yields_List}
use Rattle.rules.specs.LoopsLists.{first_found}
use Rattle.rules.specs.Machine.{lowest_empty}
use Rattle.rules.specs.Parts.{is_empty}
use Rattle.rules.specs.Tables.{past_message}
use Rattle.machine.proofs.whole.lowest_empty.Goals as goal

pub returns : goal.returns
unfolding lowest_empty
returns c =
    let p =
    position_from_yields_List (λ m. is_empty m.body) _ _ c.position.result c.position.ensures.ran
    (YieldsList-from_slice c.args.t.now.messages cc)
    (λ x b q k. search (rules, tests)) in
    rw (c.unwrap_or.ensures, p) (first_found (λ m. is_empty m.body) c.args.t.now.messages past_message 32 (search rules))
