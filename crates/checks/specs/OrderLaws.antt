-- Trying the checks of a list one after the other gives the first of the list that holds. Assumes nothing.
use Rattle.std.specs.Prelude.{ℕ, ◌≡◌, refl, Bool, true, false, cond, List, [], ◌∷◌, Option, Some, None, Err}
use Rattle.std.specs.Bool.{then_some}
use Rattle.std.specs.Option.{option_or}
use Rattle.std.proofs.Common.{◌∙◌}
use Rattle.rules.specs.declared.looking.Seen.{Seen}
use Rattle.rules.specs.declared.outcomes.Refusal.{Refusal}
use Rattle.rules.specs.Types.{Answer, Check}
use Rattle.rules.specs.Answers.{first_refusal, settle_of}
use Rattle.checks.specs.Order.{tried_by, tried_of, tried_all, answer_of, settled_by}

-- the answer of a list that is tried after this
abbrev first_after : Option Refusal → List Check → ℕ → Answer
first_after None cs v = first_refusal cs v
first_after (Some r) cs v = Err r

after_one : (b : Bool) (r : Refusal) (cs : List Check) (v : ℕ) → first_after (then_some b r) cs v ≡ cond b (Err r) (first_refusal cs v)
after_one true r cs v = refl
after_one false r cs v = refl

-- the first two of a list are one: the first, or else the second
one_of_two :
    (a b : Bool) (r s : Refusal) (cs : List Check) (v : ℕ)
    → cond a (Err r) (cond b (Err s) (first_refusal cs v)) ≡ first_after (option_or (then_some a r) (then_some b s)) cs v
one_of_two true b r s cs v = refl
one_of_two false true r s cs v = refl
one_of_two false false r s cs v = refl

two_tried :
    (c d : Check) (cs : List Check) (v : ℕ)
    → first_refusal (c ∷ d ∷ cs) v ≡ first_after (option_or (tried_by c) (tried_by d)) cs v
unfolding first_refusal
two_tried c d cs v = one_of_two c.holds d.holds c.gives d.gives cs v

first_tried : (t : Option Refusal) (cs : List Check) (v : ℕ) → answer_of (tried_of t cs) v ≡ first_after t cs v
unfolding first_refusal
first_tried None [] v = refl
first_tried (Some r) [] v = refl
first_tried (Some r) (c ∷ cs) v = first_tried (Some r) cs v
first_tried None (c ∷ cs) v = first_tried (then_some c.holds c.gives) cs v ∙ after_one c.holds c.gives cs v

-- so a step that is settled by its checks, tried in their order, is settled as its definition says
pub settled_first :
    (cs : List Check) (v : ℕ) (left seen : Seen)
    → settled_by (tried_all cs) v left seen ≡ settle_of (record { answer = first_refusal cs v; left = left }) seen
unfolding settled_by
settled_first cs v left seen = rw (first_tried None cs v)
