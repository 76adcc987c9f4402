-- Every refusal has a phrase. Assumes nothing.
use mathlib.Core.Path.{◌≡◌, refl, subst}
use mathlib.Core.Bool.{Bool, true, false, not, ◌&&◌, false≢true}
use mathlib.Core.List.{List, [], ◌∷◌}
use mathlib.Core.Logic.{inl, inr}
use lib.Dec.{eqb}
use lib.ListN.{length}
use denote.Struct.Field.{Field}
use denote.Enum.Declared.{Choice}
use Rattle.rules.specs.declared.outcomes.Refusal.{Refusal}
use Rattle.rules.specs.contracts.outcomes.Refusal.{the_parts as parts, as_values, the_make as make, the_eta as eta}
use Rattle.rules.specs.Answers.{refusal_number}
use Rattle.rules.specs.LoopsLaws.{and_left, and_right}
use Rattle.words.specs.Tell.{refusal_phrases, refusal_phrase}

-- a test of each variant of an enum whose variants hold nothing
abbrev pub every : (variants : List (List Field)) → (Choice variants → Bool) → Bool
every [] test = true
every ([] ∷ more) test = test (inl tt) && every more (λ c. test (inr c))
every ((field ∷ fields) ∷ more) test = false

-- what each passes, any of its values passes
every_any : (variants : List (List Field)) (test : Choice variants → Bool) → every variants test ≡ true → (c : Choice variants) → test c ≡ true
every_any [] test e c = absurd c
every_any ([] ∷ more) test e (inl held) = and_left (test (inl tt)) (every more (λ c. test (inr c))) e
every_any ([] ∷ more) test e (inr c) =
    every_any more (λ c. test (inr c)) (and_right (test (inl tt)) (every more (λ c. test (inr c))) e) c
every_any ((field ∷ fields) ∷ more) test e c = absurd (false≢true e)

-- one test of all refusals
pub every_refusal : (test : Refusal → Bool) → every parts (λ c. test (make c)) ≡ true → (r : Refusal) → test r ≡ true
every_refusal test e r =
    subst (λ (x : Refusal). test x ≡ true) (eta r) (every_any parts (λ c. test (make c)) e (as_values r))

-- the places of the list that have no phrase are no refusal's
pub refusal_has_phrase : (r : Refusal) → not (eqb (length (refusal_phrase (refusal_number r))) 0) ≡ true
unfolding refusal_phrases
refusal_has_phrase = every_refusal (λ r. not (eqb (length (refusal_phrase (refusal_number r))) 0)) refl
