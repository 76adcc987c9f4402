-- A name with its number: the next two words. Assumes nothing.
use Rattle.std.proofs.Common.{ℕ, ◌≡◌, refl, sym, ap, ◌∙◌, Bool, true, false, List, [], ◌∷◌, drop, drop-drop, Option, Some, None}
use Rattle.std.proofs.Math.Seq.{get_or-drop}
use Rattle.std.proofs.Math.Bool.{and-false}
use Rattle.std.specs.Option.{MatchOption, SomeIff}
use Rattle.requests.specs.Requests.{word_at, same, number_of, is_number, asks}

pub not_then : (b : Bool) → (b ≡ true → ⊥) → b ≡ false
not_then true h = absurd (h refl)
not_then false h = refl

module _ (name : List ℕ) (left : List (List ℕ)) where
  pub no_name : same (word_at 0 left) name ≡ false → asks name 0 left ≡ false
  unfolding asks
  no_name e = rw e refl

  module _ (behind : List (List ℕ)) (one : behind ≡ drop 1 left) where
    second : word_at 1 left ≡ word_at 0 behind
    second = sym (get_or-drop 1 left 0 []) ∙ ap (word_at 0) (sym one)

    pub no_word : behind ≡ [] → asks name 0 left ≡ false
    unfolding asks is_number
    no_word e = rw (second, e) (and-false (same (word_at 0 left) name))

    pub asked_then :
        (word : List ℕ) (words : List (List ℕ)) (o : Option ℕ) → behind ≡ word ∷ words → same (word_at 0 left) name ≡ true → SomeIff o (is_number word ≡ true) (number_of word)
        → MatchOption o (asks name 0 left ≡ false) (λ (n : ℕ). (asks name 0 left ≡ true) × (n ≡ number_of (word_at 1 left)) × (words ≡ drop 2 left))
    unfolding asks
    asked_then word words None next n h = rw (second, next, not_then (is_number word) h, and-false (same (word_at 0 left) name)) refl
    asked_then word words (Some x) next n h =
        let two : words ≡ drop 2 left = ap (λ (l : List (List ℕ)). drop 1 l) (sym next ∙ one) ∙ drop-drop 1 1 left in
        (rw (second, next, n, h.0) refl, h.1 ∙ ap number_of (sym (second ∙ ap (word_at 0) next)), two)
