-- The two numbers of an answer tell it, since no refusal has the number 0. Assumes nothing.
use Rattle.std.specs.Prelude.{ℕ, ◌≡◌, refl, true, not, List, eqb, Ok, Err}
use Rattle.rules.specs.Types.{Answer}
use Rattle.rules.specs.declared.outcomes.Refusal.{Refusal}
use Rattle.rules.specs.Answers.{refusal_number, answer_number, answer_value}
use Rattle.rules.specs.LoopsLaws.{not_true}
use Rattle.words.specs.Tell.{answer_told, told_line}
use Rattle.telling.specs.Numbers.{numbers_told, numbers_told_line}
use Rattle.telling.proofs.Phrases.{every_refusal}

refused_not_zero : (r : Refusal) → not (eqb (refusal_number r) 0) ≡ true
refused_not_zero = every_refusal (λ r. not (eqb (refusal_number r) 0)) refl

numbers_told_lem : (a : Answer) → numbers_told (answer_number a) (answer_value a) ≡ answer_told a
numbers_told_lem (Ok v) = refl
numbers_told_lem (Err r) = rw (not_true (eqb (refusal_number r) 0) (refused_not_zero r))

pub line_told :
    (place : ℕ) (bytes : List ℕ) (a : Answer) → numbers_told_line place bytes (answer_number a) (answer_value a) ≡ told_line place bytes a
unfolding numbers_told_line told_line
line_told place bytes a = rw (numbers_told_lem a)
