-- The first line of a list, and the number that a line begins with, by how many bytes they are. Assumes nothing.
use Rattle.std.proofs.Common.{ℕ, suc, ◌+◌, ◌-◌, ◌*◌, ◌≤◌, ◌<◌, min, ◌≡◌, ◌==◌, refl, ap, ◌∙◌, Bool, true, false, List, [], ◌∷◌, eqb, ltb, length, get_or, take, drop, arith, drop_of_length-le, length-drop, leb, add-one, Some, None, Option, ◌&&◌, lt-ltb}
use Rattle.std.specs.Option.{SomeIff, option_eq}
use Rattle.std.proofs.Math.Seq.{drop-cons, take-length}
use borrow.Author.Tests.{leb-true, leb-false}
use Rattle.std.specs.List.{prefix_len, position_or_len, list_all, starts_with}
use Rattle.names.specs.Names.{ahead, is_digit, digits_in, behind_digits, number_on, number_of, lines_of, matches, first_match}

-- ---- the first line of a list ends at the first newline, or where the list does

abbrev pub line_end : List ℕ → ℕ
line_end list = position_or_len (λ b. b == 10) list

first_by :
    (newline : Bool) (b : ℕ) (list : List ℕ) → eqb b 10 ≡ newline
    → (0 < length list → lines_of list ≡ take (line_end list) list ∷ lines_of (drop (line_end list + 1) list))
    → lines_of (b ∷ list) ≡ take (line_end (b ∷ list)) (b ∷ list) ∷ lines_of (drop (line_end (b ∷ list) + 1) (b ∷ list))
unfolding lines_of
first_by true b list e h = rw e refl
first_by false b [] e h = rw e refl
first_by false b (c ∷ list) e h =
    let end = line_end (c ∷ list) in
    let one : 1 + end ≡ suc end = omega arith in
    let two : suc end + 1 ≡ suc (end + 1) = omega arith in
    rw (e, one, two) (ap (ahead (b ∷ [])) (h (omega arith)))

pub first_line : (list : List ℕ) → 0 < length list → lines_of list ≡ take (line_end list) list ∷ lines_of (drop (line_end list + 1) list)
first_line [] h = absurd (omega arith)
first_line (b ∷ list) h = first_by (eqb b 10) b list refl (first_line list)

drop_by : (few : Bool) (list : List ℕ) (n held : ℕ) → leb n (length list) ≡ few → held ≡ min (length list) n → drop held list ≡ drop n list
drop_by true list n held f e = let same : held ≡ n = omega (arith, leb-true n (length list) f) in rw same refl
drop_by false list n held f e =
    let more = leb-false n (length list) f in
    let h : length list ≤ held = omega arith in
    let l : length list ≤ n = omega arith in
    rw (drop_of_length-le list h, drop_of_length-le list l) refl

drop_held : (list : List ℕ) (n held : ℕ) → held ≡ min (length list) n → take (length list - held) (drop held list) ≡ drop n list
drop_held list n held e = rw (← length-drop held list, take-length (drop held list)) (drop_by (leb n (length list)) list n held refl e)

pub line_split_off :
    (list : List ℕ) (end next : ℕ) → end ≡ line_end list → next ≡ min (length list) (end + 1) → 0 < length list
    → (lines_of list ≡ take end list ∷ lines_of (take (length list - next) (drop next list))) × (length (take (length list - next) (drop next list)) < length list)
line_split_off list end next e n h =
    let tail = drop_held list (end + 1) next n in
    let length_more : length (drop (end + 1) list) ≡ length list - (end + 1) = length-drop (end + 1) list in
    rw tail (first_line list h ∙ rw e refl, omega (arith, length_more))

-- ---- the number of digits

-- digits written behind a number make it no smaller
pub number_grows : (n : ℕ) (digits : List ℕ) → n ≤ number_on n digits
unfolding number_on
number_grows n [] = omega arith
number_grows n (digit ∷ digits) = omega (arith, number_grows (10 * n + (digit - 48)) digits)

pub number_more : (digits : List ℕ) (i n : ℕ) → i < length digits → number_on n (drop i digits) ≡ number_on (10 * n + (get_or digits i 0 - 48)) (drop (i + 1) digits)
unfolding number_on
number_more digits i n here = rw (add-one i, drop-cons digits i 0 here)

pub number_large : (digits : List ℕ) (i n : ℕ) → i < length digits → number_on n (drop i digits) ≡ number_of digits → 256 ≤ 10 * n + (get_or digits i 0 - 48) → 256 ≤ number_of digits
number_large digits i n here e h = omega (arith, number_more digits i n here, number_grows (10 * n + (get_or digits i 0 - 48)) (drop (i + 1) digits))

pub number_end : (digits : List ℕ) (i n : ℕ) → length digits ≤ i → number_on n (drop i digits) ≡ n
unfolding number_on
number_end digits i n h = rw (drop_of_length-le digits h)

-- ---- the digits that a line begins with

digits_by :
    (digit : Bool) (b : ℕ) (line : List ℕ) → is_digit b ≡ digit
    → (digits_in line ≡ take (prefix_len is_digit line) line) × (behind_digits line ≡ drop (prefix_len is_digit line) line) × (list_all is_digit (digits_in line) ≡ true)
    → (digits_in (b ∷ line) ≡ take (prefix_len is_digit (b ∷ line)) (b ∷ line)) × (behind_digits (b ∷ line) ≡ drop (prefix_len is_digit (b ∷ line)) (b ∷ line)) × (list_all is_digit (digits_in (b ∷ line)) ≡ true)
unfolding digits_in behind_digits
digits_by true b line e h =
    let one : 1 + prefix_len is_digit line ≡ suc (prefix_len is_digit line) = omega arith in
    rw (e, one) (ap (λ (l : List ℕ). b ∷ l) h.0, h.1, rw e h.2)
digits_by false b line e h = rw e (refl, refl, refl)

pub digits_taken : (line : List ℕ) → (digits_in line ≡ take (prefix_len is_digit line) line) × (behind_digits line ≡ drop (prefix_len is_digit line) line) × (list_all is_digit (digits_in line) ≡ true)
unfolding digits_in behind_digits
digits_taken [] = (refl, refl, refl)
digits_taken (b ∷ line) = digits_by (is_digit b) b line refl (digits_taken line)

pub digits_only : (line : List ℕ) (n : ℕ) → n ≡ prefix_len is_digit line → list_all is_digit (take n line) ≡ true
digits_only line n e = rw (e, ← (digits_taken line).0) (digits_taken line).2

same_number : (o : Option ℕ) (object n k : ℕ) → SomeIff o ((0 < n) × (k < 256)) k → object < 256 → option_eq eqb o (Some object) ≡ (ltb 0 n && eqb k object)
same_number None object n k h few = grind arith
same_number (Some x) object n k h few = rw (h.1, lt-ltb 0 n h.0.0) refl

space_next : (bytes : List ℕ) → starts_with eqb bytes (32 ∷ []) ≡ eqb (get_or bytes 0 0) 32
space_next [] = refl
space_next (b ∷ bytes) = grind arith

pub line_matches :
    (object n : ℕ) (line digits behind : List ℕ) (o : Option ℕ) → object < 256 → n ≡ prefix_len is_digit line → digits ≡ take n line → behind ≡ drop n line
    → SomeIff o ((0 < length digits) × (number_of digits < 256)) (number_of digits)
    → matches object line ≡ (option_eq eqb o (Some object) && starts_with eqb behind (32 ∷ []))
unfolding matches
line_matches object n line digits behind o few e d b h =
    rw ((digits_taken line).0, (digits_taken line).1, ← e, ← d, ← b, same_number o object (length digits) (number_of digits) h few, space_next behind) refl

-- ---- one line more is looked at

pub match_here :
    {lines rest : List (List ℕ)} {line : List ℕ} (object : ℕ) → lines ≡ line ∷ rest → matches object line ≡ true
    → first_match object lines ≡ line
unfolding first_match
match_here object e m = rw (e, m)

pub match_later :
    {lines rest : List (List ℕ)} {line : List ℕ} (object : ℕ) → lines ≡ line ∷ rest → matches object line ≡ false
    → first_match object lines ≡ first_match object rest
unfolding first_match
match_later object e m = rw (e, m)

-- all have been
pub match_none : (list : List ℕ) (object : ℕ) → list ≡ [] → first_match object (lines_of list) ≡ []
unfolding lines_of first_match
match_none list object h = rw h
