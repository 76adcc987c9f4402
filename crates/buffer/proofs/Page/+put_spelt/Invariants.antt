-- The number of signs that are left falls with each call. Assumes nothing.
use Rattle.buffer.proofs.Page.+put_spelt.Given as goal

abbrev pub decreases-put_spelt : goal.decreases-put_spelt
decreases-put_spelt l = l.left
