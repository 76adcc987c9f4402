-- Digits alone, and not too large, are a number. Assumes nothing.
use Rattle.std.proofs.Common.{rules, arith}
use Rattle.requests.proofs.Numbers.{number_read}
use Rattle.requests.proofs.number_of.Goals as goal

pub returns : goal.returns
returns c =
    let loop = c.loop-digit in
    number_read c.args.word.now loop.digit-index loop.number (omega arith) (search rules) loop.invariant.0 loop.invariant.1 loop.invariant.2
