-- Checks tried one after the other, as the code does it: what was tried so far, or else the next. Assumes nothing.
use Rattle.std.specs.Prelude.{ℕ, List, [], ◌∷◌, Option, Some, None, Ok, Err}
use Rattle.std.specs.Bool.{then_some}
use Rattle.std.specs.Option.{option_or}
use Rattle.rules.specs.declared.outcomes.Decision.{Decision}
use Rattle.rules.specs.declared.outcomes.Refusal.{Refusal}
use Rattle.rules.specs.declared.looking.Seen.{Seen}
use Rattle.rules.specs.Types.{Answer, Check}
use Rattle.rules.specs.Answers.{settle_of}

-- what a check gives when it is tried: its refusal, if it holds
abbrev pub tried_by : Check → Option Refusal
tried_by c = then_some c.holds c.gives

-- a list of checks, tried in its order after what was tried so far
abbrev pub tried_of : Option Refusal → List Check → Option Refusal
tried_of tried [] = tried
tried_of tried (c ∷ cs) = tried_of (option_or tried (tried_by c)) cs

-- the whole of a list; an empty one refuses nothing
abbrev pub tried_all : List Check → Option Refusal
tried_all cs = tried_of None cs

-- the answer after the last check
abbrev pub answer_of : Option Refusal → ℕ → Answer
answer_of None value = Ok value
answer_of (Some refusal) value = Err refusal

-- the decision of a step by what was tried, its value and the records that it would leave
unfoldable pub settled_by : Option Refusal → ℕ → Seen → Seen → Decision
settled_by tried value left seen = settle_of (record { answer = answer_of tried value; left = left }) seen
