-- The number of a word, digit by digit. Assumes nothing.
use Rattle.std.proofs.Common.{ℕ, ◌+◌, ◌-◌, ◌*◌, ◌≤◌, ◌<◌, ◌≡◌, ◌≢◌, refl, sym, ◌∙◌, true, false, ◌&&◌, List, [], ◌∷◌, ltb, length, get_or, drop, drop_of_length-le, arith, add-one}
use Rattle.std.proofs.Math.Seq.{drop-cons}
use Rattle.std.proofs.Math.Bool.{and-false}
use borrow.Author.Tests.{lt-ltb, le-leb, lt-leb}
use Rattle.requests.specs.Requests.{number_most, is_digit, all_digits, number_on, number_of, is_number}

-- digits written behind a number make it no smaller
number_grows : (n : ℕ) (digits : List ℕ) → n ≤ number_on n digits
unfolding number_on
number_grows n [] = omega arith
number_grows n (digit ∷ digits) = omega (arith, number_grows (10 * n + (digit - 48)) digits)

pub number_some : (word : List ℕ) → length word ≡ 0 → is_number word ≡ false
unfolding is_number
number_some [] e = refl
number_some (b ∷ word) e = absurd (omega arith)

module _ (word : List ℕ) (i : ℕ) (here : i < length word) where
  pub number_more : (n : ℕ) → number_on n (drop i word) ≡ number_on (10 * n + (get_or word i 0 - 48)) (drop (i + 1) word)
  unfolding number_on
  number_more n = rw (add-one i, drop-cons word i 0 here)

  pub digits_more : is_digit (get_or word i 0) ≡ true → all_digits (drop i word) ≡ all_digits (drop (i + 1) word)
  unfolding all_digits
  digits_more e = rw (add-one i, drop-cons word i 0 here, e)

  -- any other byte, and it is no number
  pub number_stops : all_digits (drop i word) ≡ all_digits word → is_digit (get_or word i 0) ≡ false → is_number word ≡ false
  unfolding all_digits is_number
  number_stops d e =
      let none : all_digits word ≡ false = sym d ∙ rw (drop-cons word i 0 here, e) in
      rw (none, and-false (ltb 0 (length word)))

  -- nor is it one that grows too large
  pub number_over : (n : ℕ) → number_on n (drop i word) ≡ number_of word → number_most < 10 * n + (get_or word i 0 - 48) → is_number word ≡ false
  unfolding is_number
  number_over n e h =
      let large : number_most < number_of word = omega (arith, number_more n, number_grows (10 * n + (get_or word i 0 - 48)) (drop (i + 1) word)) in
      rw (lt-leb (number_of word) number_most large, and-false (ltb 0 (length word) && all_digits word))

-- all bytes have been read
pub number_read :
    (word : List ℕ) (i n : ℕ) → length word ≤ i → length word ≢ 0 → all_digits (drop i word) ≡ all_digits word → number_on n (drop i word) ≡ number_of word → n ≤ number_most
    → (is_number word ≡ true) × (n ≡ number_of word)
unfolding is_number all_digits number_on
number_read word i n h some d e few =
    let end = drop_of_length-le word h in
    let digits : all_digits word ≡ true = sym d ∙ rw end in
    let number : n ≡ number_of word = rw end at e in
    let all : is_number word ≡ true = rw (lt-ltb 0 (length word) (omega arith), digits, ← number, le-leb n number_most few) in
    (all, number)
