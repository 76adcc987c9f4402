-- The phrase of a refusal's number stands at its place. Of the other numbers up to twenty none has one, by looking at each; past them no phrase stands.
use Rattle.std.proofs.Common.{ℕ, ◌≤◌, ◌≡◌, refl, Bool, true, ◌||◌, List, [], ◌∷◌, length, eqb, eqb-true, arith}
use Rattle.std.proofs.Math.ListN.{get_or-eq_default}
use Rattle.std.proofs.Math.Logic.{⊎_elim}
use Rattle.std.proofs.lemmas.Bool.{cases_lt}
use Rattle.rules.specs.Loops.{every_up_to}
use Rattle.rules.specs.LoopsLaws.{every_at}
use borrow.Author.Tests.{ne_eqb}
use Rattle.words.specs.Tell.{refusal_phrases, refusal_phrase}
use Rattle.telling.proofs.phrase_of.Goals as goal

past_all : (n : ℕ) → 21 ≤ n → [] ≡ refusal_phrase n
unfolding refusal_phrases
past_all n h = rw (get_or-eq_default refusal_phrases "" {n = n} h)

-- a refusal's number, or one that no phrase stands at
abbrev has_none : ℕ → Bool
has_none n =
    eqb n 1 || eqb n 2 || eqb n 3 || eqb n 4 || eqb n 5 || eqb n 6 || eqb n 7 || eqb n 8 || eqb n 9 || eqb n 10 || eqb n 11 || eqb n 12 || eqb n 13 || eqb n 14 || eqb n 20 || eqb (length (refusal_phrase n)) 0

none_to_twenty : every_up_to has_none 21 ≡ true
unfolding every_up_to refusal_phrases
none_to_twenty = refl

nothing : (xs : List ℕ) → eqb (length xs) 0 ≡ true → [] ≡ xs
nothing [] e = refl
nothing (x ∷ xs) e = let z : length (x ∷ xs) ≡ 0 = eqb-true _ _ e in absurd (omega arith)

pub returns-in-1 : goal.returns-in-1
unfolding refusal_phrases
returns-in-1 c = rw c.in-1.is

pub returns-in-2 : goal.returns-in-2
unfolding refusal_phrases
returns-in-2 c = rw c.in-2.is

pub returns-in-3 : goal.returns-in-3
unfolding refusal_phrases
returns-in-3 c = rw c.in-3.is

pub returns-in-4 : goal.returns-in-4
unfolding refusal_phrases
returns-in-4 c = rw c.in-4.is

pub returns-in-5 : goal.returns-in-5
unfolding refusal_phrases
returns-in-5 c = rw c.in-5.is

pub returns-in-6 : goal.returns-in-6
unfolding refusal_phrases
returns-in-6 c = rw c.in-6.is

pub returns-in-7 : goal.returns-in-7
unfolding refusal_phrases
returns-in-7 c = rw c.in-7.is

pub returns-in-8 : goal.returns-in-8
unfolding refusal_phrases
returns-in-8 c = rw c.in-8.is

pub returns-in-9 : goal.returns-in-9
unfolding refusal_phrases
returns-in-9 c = rw c.in-9.is

pub returns-in-10 : goal.returns-in-10
unfolding refusal_phrases
returns-in-10 c = rw c.in-10.is

pub returns-in-11 : goal.returns-in-11
unfolding refusal_phrases
returns-in-11 c = rw c.in-11.is

pub returns-in-12 : goal.returns-in-12
unfolding refusal_phrases
returns-in-12 c = rw c.in-12.is

pub returns-in-13 : goal.returns-in-13
unfolding refusal_phrases
returns-in-13 c = rw c.in-13.is

pub returns-in-14 : goal.returns-in-14
unfolding refusal_phrases
returns-in-14 c = rw c.in-14.is

pub returns-in-20 : goal.returns-in-20
unfolding refusal_phrases
returns-in-20 c = rw c.in-20.is

pub returns-in_default : goal.returns-in_default
returns-in_default c =
    let n = c.args.number in
    ⊎_elim
    (λ below. nothing (refusal_phrase n) (rw (ne_eqb n 1 (λ e. omega arith), ne_eqb n 2 (λ e. omega arith), ne_eqb n 3 (λ e. omega arith), ne_eqb n 4 (λ e. omega arith), ne_eqb n 5 (λ e. omega arith), ne_eqb n 6 (λ e. omega arith), ne_eqb n 7 (λ e. omega arith), ne_eqb n 8 (λ e. omega arith), ne_eqb n 9 (λ e. omega arith), ne_eqb n 10 (λ e. omega arith), ne_eqb n 11 (λ e. omega arith), ne_eqb n 12 (λ e. omega arith), ne_eqb n 13 (λ e. omega arith), ne_eqb n 14 (λ e. omega arith), ne_eqb n 20 (λ e. omega arith)) at (every_at has_none 21 none_to_twenty n below)))
    (λ past. past_all n past)
    (cases_lt n 21)
