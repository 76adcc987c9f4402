-- The loop carries the tokens put so far. Assumes nothing.
use Rattle.std.proofs.Common.{◌*◌, ◌-◌, length, take}
use Rattle.buffer.specs.Page.{HasRoom, Writes}
use Rattle.words.specs.Say.{rest_text}
use Rattle.saying.proofs.tokens.put_tokens.Given as goal

abbrev pub invariant-loop-t : goal.invariant-loop-t
invariant-loop-t l = Writes l.initial.page l.page (rest_text (take l.t-index l.rest)) × HasRoom l.page (11 * (length l.rest - l.t-index))
