-- All bytes of the word have been put. Assumes nothing.
use Rattle.std.proofs.Common.{◌≡◌, sym, map, take, length, arith}
use Rattle.std.proofs.Math.Nat.{min_comm}
use Rattle.std.proofs.lemmas.List.{take_all, take_min}
use Rattle.words.specs.Faults.{shown_byte, shown_up_to}
use Rattle.faults.proofs.Finding.{shown_word, shown_length}
use Rattle.faults.proofs.named.put_shown.Goals as goal

pub returns : goal.returns
returns c =
    let w = c.word_of-b-items.result.now in
    let rest = c.args.rest.now in
    let all : take c.loop-b.b-index w ≡ w = take_all c.loop-b.b-index w (omega arith) in
    let word : map shown_byte w ≡ shown_up_to 20 rest =
    rw (c.word_of-b-items.ensures, c.min.ensures, min_comm (length rest) 20, take_min 20 rest) (sym (shown_word 20 rest)) in
    let puts = rw (all, word) at c.loop-b.invariant in
    (puts, let e = puts.ends in omega (arith, e, shown_length 20 rest))
