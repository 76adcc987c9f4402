-- The seven names with their numbers, read one behind the other, are the request. Assumes nothing.
use Rattle.std.proofs.Common.{ℕ, ◌+◌, ◌≤◌, ◌<◌, ◌≡◌, refl, sym, ap, ◌∙◌, Bool, true, false, true≢false, ◌&&◌, List, [], leb, length, drop, drop-drop, min, map, Option, Some, None, is_some, unwrap_or, arith}
use Rattle.std.proofs.Math.Seq.{get_or-drop}
use Rattle.std.proofs.Math.Bool.{and-false}
use borrow.Author.Tests.{le-leb, lt-leb}
use Rattle.requests.specs.Requests.{words_of, word_at, text_bytes, same, number_of, byte_of, all_numbers, text_most, asks, in_order, first_nine, asked, request_of}
use Rattle.requests.specs.RequestsLaws.{both_true}
use Rattle.requests.specs.Walk.{listed}
use Rattle.requests.proofs.Walk.{not_then}

-- ---- what was read behind the first k words

abbrev pub Asked : List (List ℕ) → List ℕ → ℕ → ℕ → Type 0
Asked words name k n = (asks name k words ≡ true) × (n ≡ number_of (word_at (k + 1) words))

module _ (words left : List (List ℕ)) (k : ℕ) (here : left ≡ drop k words) where
  pub word_there : (i : ℕ) → word_at i left ≡ word_at (k + i) words
  word_there i = ap (word_at i) here ∙ get_or-drop k words i []

  pub asks_there : (name : List ℕ) → asks name 0 left ≡ asks name k words
  unfolding asks
  asks_there name = let zero : k + 0 ≡ k = omega arith in rw (word_there 0, word_there 1, zero)

  -- a number behind its name, and the words behind both
  pub asked_there :
      (name : List ℕ) (n : ℕ) (next : List (List ℕ)) → (asks name 0 left ≡ true) × (n ≡ number_of (word_at 1 left)) × (next ≡ drop 2 left)
      → Asked words name k n × (next ≡ drop (k + 2) words)
  asked_there name n next e = (
    (sym (asks_there name) ∙ e.0, e.1 ∙ ap number_of (word_there 1)),
    e.2 ∙ ap (λ (l : List (List ℕ)). drop 2 l) here ∙ drop-drop 2 k words,
  )

-- ---- the parts of a request

pub record InOrder (words : List (List ℕ)) : Type 0 where
  pub beam : asks (text_bytes "beam") 0 words ≡ true
  pub margin : asks (text_bytes "margin") 2 words ≡ true
  pub home : asks (text_bytes "home") 4 words ≡ true
  pub slot : asks (text_bytes "slot") 6 words ≡ true
  pub quiesce : asks (text_bytes "quiesce") 8 words ≡ true
  pub release : asks (text_bytes "release") 10 words ≡ true
  pub name : same (word_at 12 words) (text_bytes "objects") ≡ true
  pub numbers : all_numbers (drop 13 words) ≡ true

order_parts : (words : List (List ℕ)) → in_order words ≡ true → InOrder words
unfolding in_order
order_parts words e =
    let beam = asks (text_bytes "beam") 0 words in
    let margin = asks (text_bytes "margin") 2 words in
    let home = asks (text_bytes "home") 4 words in
    let slot = asks (text_bytes "slot") 6 words in
    let quiesce = asks (text_bytes "quiesce") 8 words in
    let release = asks (text_bytes "release") 10 words in
    let name = same (word_at 12 words) (text_bytes "objects") in
    let numbers = all_numbers (drop 13 words) in
    let to7 = both_true (beam && margin && home && slot && quiesce && release && name) numbers e in
    let to6 = both_true (beam && margin && home && slot && quiesce && release) name to7.0 in
    let to5 = both_true (beam && margin && home && slot && quiesce) release to6.0 in
    let to4 = both_true (beam && margin && home && slot) quiesce to5.0 in
    let to3 = both_true (beam && margin && home) slot to4.0 in
    let to2 = both_true (beam && margin) home to3.0 in
    let to1 = both_true beam margin to2.0 in
    record { beam = to1.0; margin = to1.1; home = to2.1; slot = to3.1; quiesce = to4.1; release = to5.1; name = to6.1; numbers = to7.1 }

-- ---- the request

-- a text that is too long
pub too_long : (text : List ℕ) → text_most < length text → None ≡ request_of text
unfolding request_of
too_long text h = rw (lt-leb (length text) text_most h) refl

-- one whose words are not in order
pub unread : (text : List ℕ) → (InOrder (words_of text) → ⊥) → None ≡ request_of text
unfolding request_of
unread text h =
    let not : in_order (words_of text) ≡ false = not_then (in_order (words_of text)) (λ (e : in_order (words_of text) ≡ true). h (order_parts (words_of text) e)) in
    rw (not, and-false (leb (length text) text_most)) refl

-- ---- the list

listed_by :
    (all : Bool) (words : List (List ℕ)) (objects : List ℕ) (count : ℕ) → all_numbers words ≡ all → Some (objects, count) ≡ listed words
    → (all_numbers words ≡ true) × (objects ≡ first_nine (map byte_of words)) × (count ≡ min 9 (length words))
unfolding listed
listed_by true words objects count a e =
    let pair : (objects, count) ≡ (first_nine (map byte_of words), min 9 (length words)) = ap (λ (o : Option (List ℕ × ℕ)). unwrap_or o (objects, count)) (rw a at e) in
    (a, ap (λ (p : List ℕ × ℕ). p.0) pair, ap (λ (p : List ℕ × ℕ). p.1) pair)
listed_by false words objects count a e = absurd (true≢false (ap (λ (o : Option (List ℕ × ℕ)). is_some o) (rw a at e)))

pub listed_some :
    (words : List (List ℕ)) (objects : List ℕ) (count : ℕ) → Some (objects, count) ≡ listed words
    → (all_numbers words ≡ true) × (objects ≡ first_nine (map byte_of words)) × (count ≡ min 9 (length words))
listed_some words objects count e = listed_by (all_numbers words) words objects count refl e

pub listed_none : (words : List (List ℕ)) → None ≡ listed words → all_numbers words ≡ true → ⊥
unfolding listed
listed_none words e all = absurd (true≢false (sym (ap (λ (o : Option (List ℕ × ℕ)). is_some o) (rw all at e))))

-- every number is the request's
module _ (text : List ℕ) (beam margin home slot quiesce release count : ℕ) (objects : List ℕ) (few : length text ≤ text_most) where
  abbrev words : List (List ℕ)
  words = words_of text

  pub whole_read :
      Asked words (text_bytes "beam") 0 beam → Asked words (text_bytes "margin") 2 margin → Asked words (text_bytes "home") 4 home
      → Asked words (text_bytes "slot") 6 slot
      → Asked words (text_bytes "quiesce") 8 quiesce
      → Asked words (text_bytes "release") 10 release
      → same (word_at 12 words) (text_bytes "objects") ≡ true
      → Some (objects, count) ≡ listed (drop 13 words)
      → Some (record { beam = beam; margin = margin; home = min 255 home; slot = min 255 slot; quiesce = quiesce; release = release; objects = objects; count = count }) ≡ request_of text
  unfolding request_of asked in_order
  whole_read b m h s q r n l =
      let list = listed_some (drop 13 words) objects count l in
      rw (le-leb (length text) text_most few, b.0, m.0, h.0, s.0, q.0, r.0, n, list.0, b.1, m.1, h.1, s.1, q.1, r.1, list.1, list.2) refl
