-- Refusals and answers: the paper's numbers, and how the first refusal that applies is found. Assumes nothing.
use Rattle.std.specs.Prelude.{ℕ, Bool, true, false, cond, List, [], ◌∷◌, Ok, Err}
use Rattle.rules.specs.Types.{Refusal, Answer, Check, Seen, Decision}

-- "Refusal numbers, in the order they are tried". Request a of document 02: "13 call count at 1,000, 14 round number at 1,000; both stand after 11"
abbrev pub refusal_number : Refusal → ℕ
refusal_number Refusal.OutOfRange = 20
refusal_number Refusal.NoStep = 1
refusal_number Refusal.BadField = 2
refusal_number Refusal.NotThere = 3
refusal_number Refusal.SiteDown = 4
refusal_number Refusal.WrongState = 5
refusal_number Refusal.NoVisit = 6
refusal_number Refusal.ClockFull = 7
refusal_number Refusal.Quiesced = 8
refusal_number Refusal.WrongRound = 9
refusal_number Refusal.Held = 10
refusal_number Refusal.Full = 11
refusal_number Refusal.NotClosed = 12
refusal_number Refusal.NoCallLeft = 13
refusal_number Refusal.NoRoundLeft = 14

-- "Accepted is number 0."
abbrev pub answer_number : Answer → ℕ
answer_number (Ok v) = 0
answer_number (Err r) = refusal_number r

-- "A refusal answers its number and value 0"
abbrev pub answer_value : Answer → ℕ
answer_value (Ok v) = v
answer_value (Err r) = 0

abbrev pub is_accepted : Answer → Bool
is_accepted (Ok v) = true
is_accepted (Err r) = false

-- one line of the refusal table at a step: this refusal, given where that holds
abbrev pub refuse : Refusal → Bool → Check
refuse gives holds = record { holds = holds; gives = gives }

-- the first check that holds refuses; where none does, the step is accepted with this value
unfoldable pub first_refusal : List Check → ℕ → Answer
first_refusal [] value = Ok value
first_refusal (c ∷ cs) value = cond c.holds (Err c.gives) (first_refusal cs value)

-- "A refusal .. and all tables stay": what is left is what was decided if accepted, else what was seen
abbrev pub settle_of : Decision → Seen → Decision
settle_of d seen = record { answer = d.answer; left = cond (is_accepted d.answer) d.left seen }
