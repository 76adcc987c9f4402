use Rattle.std.proofs.Common.{◌≡◌, ◌∙◌, sym, subst, ap, arith, Option, None, IfSome, unwrap_or, ◌≤◌}
use Rattle.words.specs.declared.rows.Slot.{Slot}
use Rattle.words.specs.Grammar.{slot_at}
use Rattle.grammar.proofs.Rows.{flat, slot_if, slot_row, slot_if_within}
use Rattle.grammar.proofs.slot_at.Goals as goal

pub returns : goal.returns
returns c =
    let k = c.args.node in
    let e : c.flatten.result ≡ slot_if (slot_at k) =
    c.flatten.ensures ∙ flat c.copied.result ∙ ap (λ (o : Option (Option Slot)). unwrap_or o None) c.copied.ensures ∙ c.get.ensures.lookup.4 (omega arith) None ∙ slot_row k in
    (e, subst (λ (o : Option Slot). IfSome o (λ (s : Slot). s.field ≤ 12)) (sym e) (slot_if_within k))
