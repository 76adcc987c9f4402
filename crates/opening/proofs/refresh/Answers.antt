use Rattle.rules.specs.Answers.{first_refusal}
use Rattle.rules.specs.Rounds.{refresh_of}
use Rattle.opening.proofs.refresh.Goals as goal

pub returns : goal.returns
unfolding refresh_of first_refusal
returns c = rw (c.«open».ensures, c.is_active.ensures, c.bad_times.ensures, c.bad_handle.ensures)
