-- The ones of a byte are its set bits.
use Rattle.std.proofs.Common.{rules}
use Rattle.rules.specs.Parts.{answer_count}
use Rattle.parts.proofs.Eight.{ones_of_byte}
use Rattle.parts.proofs.round.answer_count.Goals as goal

pub returns : goal.returns
unfolding answer_count
returns c = ones_of_byte c.args.round.answered (search rules)
