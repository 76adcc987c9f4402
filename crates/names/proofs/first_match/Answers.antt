-- A line that matches is not empty. Assumes nothing.
use Rattle.std.proofs.Common.{sym, ◌∙◌}
use Rattle.names.specs.NamesLaws.{match_some}
use Rattle.names.proofs.Lines.{match_here}
use Rattle.names.proofs.first_match.Goals as goal

pub returns-then-matches_line : goal.returns-then-matches_line
returns-then-matches_line c =
    let matched = sym c.matches_line.ensures ∙ c.if-matches_line.true in
    (sym c.loop-line.invariant ∙ match_here c.args.object c.in-Some.ensures.0 matched, match_some c.args.object c.in-Some.line.now matched)
