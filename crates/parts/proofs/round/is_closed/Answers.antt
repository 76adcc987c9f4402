-- After eight answers the balances are met exactly if the round is closed.
use Rattle.std.proofs.Common.{◌≡◌, eqb, get_or, replicate, arith, rules, tests, refl, add-one}
use Rattle.std.proofs.lemmas.Iterator.{YieldsList-from_range}
use Rattle.std.proofs.lemmas.Iterator.Search.{all_from_yields_List}
use Rattle.rules.specs.Parts.{received_at}
use Prim.Native.Nat.{zero-le}
use Rattle.parts.specs.Balances.{balances_up_to}
use Rattle.parts.proofs.Eight.{most_of_eight, met_closed}
use Rattle.parts.proofs.round.is_closed.Goals as goal

pub loop-s-init : goal.loop-s-init
unfolding balances_up_to
loop-s-init c = (refl, most_of_eight (replicate 8 0) 0 refl zero-le zero-le zero-le zero-le zero-le zero-le zero-le zero-le)

pub loop-s-preserved : goal.loop-s-preserved
unfolding balances_up_to
loop-s-preserved c = (rw (add-one, c.balances_next-balances.ensures.next, ← c.loop-s.invariant.0), c.balances_next-balances.ensures.most)

pub returns : goal.returns
returns c =
    let e : c.loop-s.s ≡ 8 = omega arith in
    let b : c.loop-s.balances ≡ balances_up_to c.args.round 8 = rw e at c.loop-s.invariant.0 in
    let a =
    all_from_yields_List
    (λ d. eqb (get_or c.loop-s.balances d 0) (received_at c.args.round d))
    _
    _
    c.all.result
    c.all.ensures.ran
    (YieldsList-from_range 0 8 8 refl refl)
    (λ x b q k. search (rules, tests)) in
    rw (a, b) (met_closed c.args.round)
