-- A text in a buffer: what writing it leaves, that one text after another is both, and at most how long each text is.
-- A caller who keeps 64 bytes for each line of the listing has room. Assumes nothing.
use Rattle.std.specs.Prelude.{ℕ, ◌+◌, ◌≤◌, ◌<◌, ◌≡◌, refl, List, [], ◌∷◌, ◌++◌, length, take, drop, set}
use Rattle.std.proofs.Common.{sym, ap, ◌∙◌, append_assoc, append-nil, add_assoc, add-zero, add-one, arith, length-append, take-append-drop, length-take-le, take_at, drop_at, drop-drop}
use Rattle.std.proofs.lemmas.List.{set_split}
use Rattle.std.proofs.Math.Seq.{append_snoc}
use Rattle.rules.specs.Types.{Answer}
use Rattle.rules.specs.Answers.{answer_number, answer_value}
use Rattle.rules.specs.Listing.{decimal_of, line_of, sheet_line}
use Rattle.rules.proofs.ListingLaws.{digits_length}

-- the buffer with the text at `at`
abbrev pub written : List ℕ → ℕ → List ℕ → List ℕ
written buf at text = take at buf ++ text ++ drop (at + length text) buf

-- what putting a text leaves: the buffer with the text at `at`, and the place after the text
pub record Puts (before : List ℕ) (at : ℕ) (text after : List ℕ) (next : ℕ) : Type 0 where
  pub buffer : after ≡ written before at text
  pub ends : next ≡ at + length text

-- three numbers with single spaces, and a newline
abbrev pub numbers_line : ℕ → ℕ → ℕ → List ℕ
numbers_line place number value = decimal_of place ++ (32 ∷ decimal_of number) ++ (32 ∷ decimal_of value) ++ (10 ∷ [])

-- the line of an answer is its place, its number and its value
pub line_numbers : (place : ℕ) (answer : Answer) → line_of place answer ≡ numbers_line place (answer_number answer) (answer_value answer)
unfolding line_of
line_numbers place answer = refl

-- how far the text reaches
front_length : (buf : List ℕ) (at : ℕ) (text : List ℕ) → at ≤ length buf → length (take at buf ++ text) ≡ at + length text
front_length buf at text h = simp (length-append, length-take-le at buf h)

-- past a text that was written the buffer is as it was
past : (buf : List ℕ) (at : ℕ) (x : List ℕ) (n : ℕ) → at ≤ length buf → drop (at + length x + n) (written buf at x) ≡ drop (at + length x + n) buf
past buf at x n h =
    sym (drop-drop n (at + length x) (written buf at x))
    ∙ ap (λ (l : List ℕ). drop n l) (drop_at (take at buf ++ x) (drop (at + length x) buf) (at + length x) (front_length buf at x h))
    ∙ drop-drop n (at + length x) buf

-- one text after another is both
pub written_both : (buf : List ℕ) (at : ℕ) (x y : List ℕ) → at ≤ length buf
    → written (written buf at x) (at + length x) y ≡ written buf at (x ++ y)
written_both buf at x y h =
    rw (past buf at x (length y) h, take_at (take at buf ++ x) (drop (at + length x) buf) (at + length x) (front_length buf at x h), append_assoc (take at buf) x y, add_assoc, ← length-append x y)

-- nothing is put
pub put_none : (buf : List ℕ) (at : ℕ) → Puts buf at [] buf at
put_none buf at = record {
  buffer = rw (add-zero, append-nil, take-append-drop);
  ends = omega arith;
}

-- a store is a text of one byte
pub put_one : (buf : List ℕ) (at x : ℕ) → at < length buf → Puts buf at (x ∷ []) (set buf at x) (at + 1)
put_one buf at x h = record {
  buffer = rw (add-one, append_snoc (take at buf) x) (set_split buf at x h);
  ends = refl;
}

-- a text, and then another at the place after it
pub put_both : {buf mid last : List ℕ} {at m n : ℕ} {x y : List ℕ} → at ≤ length buf → Puts buf at x mid m → Puts mid m y last n
    → Puts buf at (x ++ y) last n
put_both {buf} {mid} {last} {at} {m} {n} {x} {y} h p q = record {
  buffer = q.buffer ∙ rw (p.buffer, p.ends) (written_both buf at x y h);
  ends = rw (q.ends, p.ends, length-append x y) (omega arith);
}

-- three numbers of at most twenty digits, two spaces and a newline
pub numbers_line_length : (place number value : ℕ) → length (numbers_line place number value) ≤ 63
numbers_line_length place number value =
    simp (length-append) (omega (arith, digits_length 20 place, digits_length 20 number, digits_length 20 value))

-- six bytes of the word and its space, a number and a newline
pub sheet_line_length : (number : ℕ) → length (sheet_line number) ≤ 27
sheet_line_length number = rw (length-append (decimal_of number)) (omega (arith, digits_length 20 number))
