use Rattle.std.proofs.Common.{◌∙◌, length-take, rules, arith}
use Rattle.words.specs.Grammar.{edges}
use Rattle.faults.proofs.Choices.{choices_counted}
use Rattle.faults.proofs.expected.choices_up_to.Goals as goal

pub returns : goal.returns
returns c =
    let n = c.args.n in
    (c.leading.ensures.0 ∙ choices_counted c.args.node n (search rules), let m = length-take n edges in omega (arith, m, c.leading.ensures.1))
