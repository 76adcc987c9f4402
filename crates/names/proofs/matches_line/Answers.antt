-- The digits and what stands behind them say whether the line matches. Assumes nothing.
use Rattle.std.proofs.Common.{rules, refl, sym, ◌∙◌}
use Rattle.names.proofs.Lines.{line_matches}
use Rattle.names.proofs.matches_line.Goals as goal

pub returns-then-eq : goal.returns-then-eq
returns-then-eq c =
    let both = line_matches c.args.object c.digit_count.result c.args.line.now c.split_at.result.0.now c.split_at.result.1.now c.number_of.result (search rules) c.digit_count.ensures.0 c.split_at.ensures.front c.split_at.ensures.back c.number_of.ensures in
    c.starts_with.ensures.value ∙ sym (both ∙ rw (sym c.eq.ensures ∙ c.if-eq.true) refl)

pub returns-else-eq : goal.returns-else-eq
returns-else-eq c =
    let both = line_matches c.args.object c.digit_count.result c.args.line.now c.split_at.result.0.now c.split_at.result.1.now c.number_of.result (search rules) c.digit_count.ensures.0 c.split_at.ensures.front c.split_at.ensures.back c.number_of.ensures in
    c.if-eq.false ∙ sym (both ∙ rw (sym c.eq.ensures ∙ c.if-eq.false) refl)
