-- Each turn puts one token more. Assumes nothing.
use Rattle.std.proofs.Common.{get_or, arith}
use Rattle.std.proofs.Math.Seq.{take_all}
use Rattle.words.specs.declared.tokens.Token.{Token}
use Rattle.words.proofs.TextLaws.{letters_length, token_length}
use Rattle.buffer.proofs.Pages.{writes_nothing, writes_both}
use Rattle.saying.proofs.Pieces.{tokens_more}
use Rattle.saying.proofs.tokens.put_tokens.Goals as goal

pub loop-t-init : goal.loop-t-init
loop-t-init c = (writes_nothing _, omega (arith, letters_length 9 c.args.first))

pub loop-t-preserved : goal.loop-t-preserved
loop-t-preserved c =
    let ts = c.args.rest.now in
    let i = c.loop-t.t-index in
    let t = token_length (get_or ts i (Token.Word 0)) in
    (rw (tokens_more ts i (Token.Word 0) (omega arith)) at (writes_both c.loop-t.invariant.0 c.put_token.ensures), omega (arith, t))

pub returns : goal.returns
returns c = writes_both c.put_letters.ensures (rw (take_all c.loop-t.t-index c.args.rest.now (omega arith)) at c.loop-t.invariant.0)
