-- The next word, and the words behind it. Assumes nothing.
use Rattle.std.proofs.Common.{◌∙◌}
use Rattle.requests.proofs.Spaces.{next_word, left_none, left_some}
use Rattle.requests.proofs.Words.next.Goals as goal

pub returns-in_err-text : goal.returns-in_err-text
returns-in_err-text c = rw c.from_residual.ensures (left_none c.args.self.now.rest c.in_err-text.was)

pub returns : goal.returns
returns c =
    left_some c.args.self.now.rest c.in_ok-text.text c.in_ok-text.was
    ∙ next_word c.in_ok-text.text.now c.word_end-end.result c.get-self.result c.word_end-end.ensures.0 c.get-self.ensures.lookup
