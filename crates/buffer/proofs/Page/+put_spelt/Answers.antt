-- Each return is one case of `spelt`. Assumes nothing.
use Rattle.buffer.proofs.Pages.{writes_nothing, writes_both}
use Rattle.buffer.proofs.Spelt.{spelt_none, spelt_one, spelt_more}
use Rattle.buffer.proofs.Page.+put_spelt.Goals as goal

pub returns-then-left-eq0 : goal.returns-then-left-eq0
returns-then-left-eq0 t c =
    rw (spelt_none c.args.base c.args.first c.args.left c.args.n c.if-left-eq0.true) (writes_nothing c.args.self.now)

pub returns-then-n-base : goal.returns-then-n-base
returns-then-n-base t c =
    rw (spelt_one c.args.base c.args.first c.args.left c.args.n c.if-left-eq0.false c.if-n-base.true) c.put_byte.ensures

pub returns : goal.returns
returns t c =
    rw (spelt_more c.args.base c.args.first c.args.left c.args.n c.if-left-eq0.false c.if-n-base.false)
    (writes_both c.put_spelt.ensures c.put_byte-2.ensures)
