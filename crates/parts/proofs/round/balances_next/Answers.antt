-- Each balance stays below what one answer more can say.
use Rattle.std.proofs.Common.{◌+◌, ◌*◌, rules}
use Rattle.parts.proofs.Eight.{most_of_eight}
use Rattle.parts.proofs.round.balances_next.Goals as goal

pub returns-clause-most : goal.returns-clause-most
returns-clause-most c =
    most_of_eight
    c.from_fn.result
    (65535 * (c.args.s + 1))
    c.from_fn.ensures.items.long
    (search rules)
    (search rules)
    (search rules)
    (search rules)
    (search rules)
    (search rules)
    (search rules)
    (search rules)
