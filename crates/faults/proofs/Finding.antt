-- A line of a text, byte by byte: where it starts, where it ends, where in it the fault fell, and the bytes of it that are shown. Assumes nothing.
use Rattle.std.specs.Prelude.{ℕ, zero, suc, ◌+◌, ◌≤◌, ◌<◌, ◌≡◌, refl, Bool, true, false, ◌||◌, map, List, [], ◌∷◌, ltb, eqb, length, get_or, take, drop}
use Rattle.std.specs.Prelude.{Option, None, Some}
use denote.Ref.{Bor}
use Rattle.std.specs.Option.{unwrap_or, option_map}
use Rattle.std.specs.List.{position, position_or_len, before_first, slice_get, slice_split, onto_first}
use Rattle.std.proofs.Common.{arith, ⊎_elim, add-one, ltb-false, drop-cons}
use Rattle.std.proofs.lemmas.List.Sums.{prefix_len-le-length}
use Rattle.std.proofs.Math.ListN.{drop_of_length-le}
use Rattle.std.proofs.Math.Seq.{drop-length}
use Rattle.rules.specs.LoopsLaws.{either}
use Rattle.words.specs.declared.scan.Mode.{Mode}
use Rattle.words.specs.declared.scan.Scan.{Scan}
use Rattle.words.specs.Scan.{is_space, is_hash, end_of, scan_next, scan_all}
use Rattle.words.proofs.TextLaws.{cond_length}
use Rattle.words.specs.Faults.{lines_past, up_to_newline, from_by, fault_from, no_word, shown_byte, shown_up_to}

-- ---- the lines of a text

onto_zero : (b : ℕ) (parts : List (List ℕ)) → unwrap_or (slice_get (onto_first b parts) 0) [] ≡ b ∷ unwrap_or (slice_get parts 0) []
onto_zero b [] = refl
onto_zero b (part ∷ parts) = refl

onto_more : (b k : ℕ) (parts : List (List ℕ)) → slice_get (onto_first b parts) (suc k) ≡ slice_get parts (suc k)
onto_more b k [] = refl
onto_more b k (part ∷ parts) = refl

-- the line behind n others is part n of what the newlines cut
pub line_cut : (text : List ℕ) (n : ℕ) → unwrap_or (slice_get (slice_split (λ b. eqb b 10) text) n) [] ≡ up_to_newline (lines_past n text)
unfolding lines_past up_to_newline
line_cut [] zero = refl
line_cut [] (suc k) = refl
line_cut (b ∷ text) zero =
    ⊎_elim
    (λ (e : eqb b 10 ≡ true). rw e)
    (λ (e : eqb b 10 ≡ false). rw (e, onto_zero b (slice_split (λ x. eqb x 10) text), line_cut text 0))
    (either (eqb b 10))
line_cut (b ∷ text) (suc k) =
    ⊎_elim
    (λ (e : eqb b 10 ≡ true). rw e (line_cut text k))
    (λ (e : eqb b 10 ≡ false). rw (e, onto_more b k (slice_split (λ x. eqb x 10) text)) (line_cut text (suc k)))
    (either (eqb b 10))

pub part_now : (o : Option (Bor (List ℕ))) (d : Bor (List ℕ)) → d.now ≡ [] → (unwrap_or o d).now ≡ unwrap_or (option_map (λ (x : Bor (List ℕ)). x.now) o) []
part_now None d e = e
part_now (Some x) d e = refl

-- ---- one byte more of a text

module _ (text : List ℕ) (i : ℕ) (here : i < length text) where
  pub opened_line : drop i text ≡ get_or text i 0 ∷ drop (i + 1) text
  opened_line = rw (add-one i) (drop-cons text i 0 here)

-- ---- where the fault fell

drop_by : (m : Mode) (line : List ℕ) (from rest : ℕ) → from_by m (drop from line) (drop rest line) ≡ drop (from_by m from rest) line
drop_by Mode.Gap line from rest = refl
drop_by Mode.Word line from rest = refl
drop_by Mode.Number line from rest = refl
drop_by Mode.Comment line from rest = refl
drop_by (Mode.Wrong f) line from rest = refl

pub by_within : (m : Mode) (n from rest : ℕ) → from ≤ n → rest ≤ n → from_by m from rest ≤ n
by_within Mode.Gap n from rest p q = q
by_within Mode.Word n from rest p q = p
by_within Mode.Number n from rest p q = p
by_within Mode.Comment n from rest p q = q
by_within (Mode.Wrong f) n from rest p q = p

-- a byte more is scanned
pub fault_more :
    (line : List ℕ) (i from : ℕ) (s : Scan) → i < length line
    → fault_from (scan_next s (get_or line i 0)) (drop (from_by (scan_next s (get_or line i 0)).mode from (i + 1)) line) (drop (i + 1) line)
    ≡ fault_from s (drop from line) (drop i line)
unfolding fault_from
fault_more line i from s here =
    rw (opened_line line i here, ← drop_by (scan_next s (get_or line i 0)).mode line from (i + 1))

pub scan_more : (line : List ℕ) (i : ℕ) (s : Scan) → i < length line → scan_all (scan_next s (get_or line i 0)) (drop (i + 1) line) ≡ scan_all s (drop i line)
unfolding scan_all
scan_more line i s here = rw (opened_line line i here)

-- all bytes are
pub fault_end : (line : List ℕ) (i from : ℕ) (s : Scan) → length line ≤ i → fault_from s (drop from line) (drop i line) ≡ drop (from_by (end_of s).mode from (length line)) line
unfolding fault_from
fault_end line i from s h =
    rw (drop_of_length-le line h, ← drop-length line) (drop_by (end_of s).mode line from (length line))

pub scan_end : (line : List ℕ) (i : ℕ) (s : Scan) → length line ≤ i → scan_all s (drop i line) ≡ s
unfolding scan_all
scan_end line i s h = rw (drop_of_length-le line h)

-- ---- what stood there

-- the front of a list ends at the first element that passes, or with the list
pub front_end : {A : Type 0} (p : A → Bool) (xs : List A) → unwrap_or (position p xs) (length xs) ≡ position_or_len p xs
front_end p xs =
    ⊎_elim
    (λ (e : ltb (position_or_len p xs) (length xs) ≡ true). rw e)
    (λ (e : ltb (position_or_len p xs) (length xs) ≡ false). let l : length xs ≤ position_or_len p xs = ltb-false _ _ e in rw e (let m : position_or_len p xs ≤ length xs = prefix_len-le-length _ xs in omega arith))
    (either (ltb (position_or_len p xs) (length xs)))

-- what is shown is the word's front, byte by byte
pub shown_word : (k : ℕ) (bytes : List ℕ) → shown_up_to k bytes ≡ map shown_byte (before_first (λ b. is_space b || is_hash b) (take k bytes))
unfolding shown_up_to
shown_word zero bytes = refl
shown_word (suc k) [] = refl
shown_word (suc k) (b ∷ rest) =
    let n = position_or_len (λ x. is_space x || is_hash x) (take k rest) in
    let one : 1 + n ≡ suc n = omega arith in
    ⊎_elim
    (λ (e : (is_space b || is_hash b) ≡ true). rw e)
    (λ (e : (is_space b || is_hash b) ≡ false). rw (e, one, shown_word k rest))
    (either (is_space b || is_hash b))

pub shown_length : (k : ℕ) (bytes : List ℕ) → length (shown_up_to k bytes) ≤ k
unfolding shown_up_to
shown_length zero bytes = omega arith
shown_length (suc k) [] = omega arith
shown_length (suc k) (b ∷ rest) = cond_length (no_word (b ∷ rest)) [] (shown_byte b ∷ shown_up_to k rest) (suc k) (omega arith) (let l = shown_length k rest in omega arith)
