-- The first word of a text ends at its first space, or where the text does. Assumes nothing.
use Rattle.std.proofs.Common.{ℕ, suc, ◌+◌, ◌≤◌, ◌<◌, ◌≡◌, ◌==◌, refl, ap, ◌∙◌, Bool, true, false, List, [], ◌∷◌, eqb, length, take, drop, arith, ◌&&◌, Option, Some, None, Bor, cond, ltb, lt-ltb, length-drop, inl, inr}
use lib.Pointwise.{pointwise}
use borrow.Author.Tests.{le-ltb}
use Rattle.std.proofs.Math.Seq.{take-length}
use Rattle.std.specs.List.{position_or_len}
use Rattle.std.specs.Slice.{IsGetRangeResult}
use Rattle.requests.specs.Requests.{ahead, words_of, word_at, same}
use Rattle.requests.specs.Walk.{words_left}

abbrev pub word_end : List ℕ → ℕ
word_end text = position_or_len (λ b. b == 32) text

later : (a b : ℕ) → ltb (suc a) (suc b) ≡ ltb a b
later a b = grind arith

first_by :
    (space : Bool) (b : ℕ) (text : List ℕ) → eqb b 32 ≡ space
    → words_of text ≡ take (word_end text) text ∷ cond (ltb (word_end text) (length text)) (words_of (drop (word_end text + 1) text)) []
    → words_of (b ∷ text) ≡ take (word_end (b ∷ text)) (b ∷ text) ∷ cond (ltb (word_end (b ∷ text)) (length (b ∷ text))) (words_of (drop (word_end (b ∷ text) + 1) (b ∷ text))) []
unfolding words_of
first_by true b text e h =
    let some : 0 < suc (length text) = omega arith in
    rw (e, lt-ltb 0 (suc (length text)) some) refl
first_by false b text e h =
    let end = word_end text in
    let one : 1 + end ≡ suc end = omega arith in
    let two : suc end + 1 ≡ suc (end + 1) = omega arith in
    rw (e, one, two, later end (length text)) (ap (ahead (b ∷ [])) h)

pub first_word : (text : List ℕ) → words_of text ≡ take (word_end text) text ∷ cond (ltb (word_end text) (length text)) (words_of (drop (word_end text + 1) text)) []
unfolding words_of
first_word [] = refl
first_word (b ∷ text) = first_by (eqb b 32) b text refl (first_word text)

-- the word, and the words behind its space, if it has one
pub next_word : (text : List ℕ) (end : ℕ) (rest : Option (Bor (List ℕ))) → end ≡ word_end text → IsGetRangeResult text (end + 1) (length text) rest → words_of text ≡ take end text ∷ words_left rest
unfolding words_left
next_word text end None e r =
    let last : length text ≤ end = elim r.0 [ inl h ↦ omega arith | inr h ↦ omega arith ] in
    first_word text ∙ rw (← e, le-ltb end (length text) last) refl
next_word text end (Some x) e r =
    let more : end < length text = omega (arith, r.0.0) in
    let tail : x.now ≡ drop (end + 1) text = r.0.2 ∙ rw (← length-drop (end + 1) text, take-length (drop (end + 1) text)) refl in
    first_word text ∙ rw (← e, lt-ltb end (length text) more, tail) refl

pub left_none : (rest : Option (Bor (List ℕ))) → rest ≡ None → words_left rest ≡ []
unfolding words_left
left_none rest e = rw e refl

pub left_some : (rest : Option (Bor (List ℕ))) (text : Bor (List ℕ)) → rest ≡ Some text → words_left rest ≡ words_of text.now
unfolding words_left
left_some rest text e = rw e refl

-- ---- a name

same_is : (word name : List ℕ) → same word name ≡ pointwise eqb word name
unfolding same
same_is [] [] = refl
same_is [] (b ∷ name) = refl
same_is (a ∷ word) [] = refl
same_is (a ∷ word) (b ∷ name) = ap (λ (t : Bool). eqb a b && t) (same_is word name)

same_empty : (name : List ℕ) → 0 < length name → same [] name ≡ false
unfolding same
same_empty [] h = absurd (omega arith)
same_empty (b ∷ name) h = refl

pub unnamed : (name : List ℕ) (left : List (List ℕ)) → 0 < length name → left ≡ [] → same (word_at 0 left) name ≡ false
unnamed name left h e = rw e (same_empty name h)

module _ (name word : List ℕ) (left words : List (List ℕ)) (next : left ≡ word ∷ words) where
  pub named : pointwise eqb word name ≡ true → (same (word_at 0 left) name ≡ true) × (words ≡ drop 1 left)
  named e = rw next (same_is word name ∙ e, refl)

  pub not_named : pointwise eqb word name ≡ false → same (word_at 0 left) name ≡ false
  not_named e = rw next (same_is word name ∙ e)
