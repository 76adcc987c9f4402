-- The loop carries the bytes put so far. Assumes nothing.
use Rattle.std.proofs.Common.{◌*◌, ◌-◌, take}
use Rattle.buffer.specs.Page.{HasRoom, Writes}
use Rattle.words.specs.Say.{hex_text}
use Rattle.saying.proofs.line.fill_hex.Given as goal

abbrev pub invariant-loop-b : goal.invariant-loop-b
invariant-loop-b l = Writes l.initial.page l.page (hex_text (take l.b-index l.b-items)) × HasRoom l.page (2 * (16 - l.b-index))
