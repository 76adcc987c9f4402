-- A name is not empty, so it is not there where no word is. Assumes nothing.
use Rattle.std.proofs.Common.{sym, ◌∙◌}
use Rattle.requests.proofs.Spaces.{named, not_named, unnamed}
use Rattle.requests.proofs.Words.name.Goals as goal

pub returns-in_err-next : goal.returns-in_err-next
returns-in_err-next c = rw c.from_residual.ensures (unnamed c.args.name.now _ c.requires c.in_err-next.ensures)

pub returns-then-eq : goal.returns-then-eq
returns-then-eq c = named c.args.name.now c.in_ok-next.field-0.now _ _ c.in_ok-next.ensures (sym c.eq.ensures ∙ c.if-eq.true)

pub returns-else-eq : goal.returns-else-eq
returns-else-eq c = not_named c.args.name.now c.in_ok-next.field-0.now _ _ c.in_ok-next.ensures (sym c.eq.ensures ∙ c.if-eq.false)
