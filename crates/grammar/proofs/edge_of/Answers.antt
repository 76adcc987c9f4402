use Rattle.std.proofs.Common.{◌<◌, sym, subst, IfSome}
use Rattle.words.specs.declared.rows.Said.{Said}
use Rattle.words.specs.declared.rows.Edge.{Edge}
use Rattle.words.specs.Grammar.{passes}
use Rattle.grammar.proofs.Rows.{row_at, said_within}
use Rattle.grammar.proofs.edge_of.Goals as goal

pub returns : goal.returns
returns c =
    let k = c.args.k in
    let e = row_at k (passes 0 0 0) c.requires in
    (e, subst (λ (r : Edge). IfSome r.says (λ (s : Said). s.field < 16)) (sym e) (said_within k c.requires))
