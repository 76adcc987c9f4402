use Rattle.rules.specs.Answers.{first_refusal}
use Rattle.rules.specs.Rounds.{prepare_of}
use Rattle.opening.proofs.prepare.Goals as goal

pub returns : goal.returns
unfolding prepare_of first_refusal
returns c = rw (c.«open».ensures, c.is_running-wrong.ensures, c.bad_handle.ensures)
