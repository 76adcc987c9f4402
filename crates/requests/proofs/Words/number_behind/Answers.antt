-- The number is the word behind the name. Assumes nothing.
use Rattle.requests.proofs.Walk.{no_name, no_word, asked_then}
use Rattle.requests.proofs.Words.number_behind.Goals as goal

pub returns-in_err-name : goal.returns-in_err-name
returns-in_err-name c = rw c.from_residual.ensures (no_name c.args.name.now _ c.in_err-name.ensures)

pub returns-in_err-next : goal.returns-in_err-next
returns-in_err-next c = rw c.from_residual-in_err-next.ensures (no_word c.args.name.now _ _ c.in_ok-name.ensures.1 c.in_err-next.ensures)

pub returns : goal.returns
returns c =
    asked_then c.args.name.now _ _ c.in_ok-name.ensures.1 c.in_ok-next.field-0.now _ c.number_of.result c.in_ok-next.ensures c.in_ok-name.ensures.0 c.number_of.ensures
