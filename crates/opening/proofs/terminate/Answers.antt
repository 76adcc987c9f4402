use Rattle.rules.specs.Answers.{first_refusal}
use Rattle.rules.specs.Rounds.{terminate_of}
use Rattle.opening.proofs.terminate.Goals as goal

pub returns : goal.returns
unfolding terminate_of first_refusal
returns c = rw (c.«open».ensures, c.is_aborted-wrong.ensures, c.bad_handle.ensures)
