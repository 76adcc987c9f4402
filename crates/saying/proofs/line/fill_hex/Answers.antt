-- Each turn puts one byte more. Assumes nothing.
use Rattle.std.proofs.Common.{[], ◌∷◌, ◌≡◌, take, take_all, get_or, rules, arith}
use Rattle.buffer.proofs.Pages.{writes_nothing, writes_both}
use Rattle.words.specs.Say.{hex_text}
use Rattle.words.proofs.TextLaws.{hex_length}
use Rattle.saying.proofs.Pieces.{bytes_more, page_filled}
use Rattle.saying.proofs.line.fill_hex.Goals as goal

pub loop-b-init : goal.loop-b-init
unfolding hex_text
loop-b-init c = (writes_nothing _, omega arith)

pub loop-b-preserved : goal.loop-b-preserved
loop-b-preserved c =
    let i = c.loop-b.b-index in (
      rw (bytes_more c.args.bytes i (search rules)) at (writes_both c.loop-b.invariant.0 c.put_hex.ensures),
      omega (arith, hex_length (get_or c.args.bytes i 0 ∷ [])),
    )

pub returns : goal.returns
returns c =
    let whole : take c.loop-b.b-index c.args.bytes ≡ c.args.bytes = take_all _ _ (search rules) in
    page_filled c.new-page.ensures (rw whole at c.loop-b.invariant.0) (omega (arith, hex_length c.args.bytes))
