-- From a sheet to words and back: what passwrite makes of the words that passread prints alone. Assumes nothing.
use Rattle.std.specs.Prelude.{ℕ, zero, suc, ◌+◌, ◌*◌, ◌-◌, ◌/◌, ◌%◌, ◌≤◌, ◌<◌, ◌≡◌, refl, Bool, true, false, ◌&&◌, ltb, eqb, length, get_or, Ok, Some, None}
use native.Mathlib.Omega.{arith}
use Rattle.std.proofs.Common.{add-zero, ap, ◌∙◌, ⊎_elim, ltb-true, le-ltb, eqb-true, length-drop, get_or-drop, drop-drop, ext_get_or}
use Rattle.std.proofs.Math.Path.{sym}
use mathlib.Core.List.{List, [], ◌∷◌, ◌++◌, append-nil, append_assoc}
use Rattle.std.proofs.Math.ListN.{take, drop, take-append-drop}
use Rattle.rules.specs.LoopsLaws.{and_left, and_right, either}
use Rattle.rules.proofs.RecordLaws.{each_row_at}
use Rattle.rules.specs.Record.{step_of_record}
use Rattle.rules.specs.Sheet.{trailer_at, distance_of, sheet_answer, sheet_records, records_up_to}
use Rattle.rules.proofs.SheetLaws.{taken_whole, taken_length, records_sixteens}
use Rattle.rules.specs.Listing.{spelt}
use Rattle.words.specs.Types.{Reading}
use Rattle.words.specs.Grammar.{raw_word}
use Rattle.words.specs.Say.{Token, letters_of, word_text, token_text, rest_text, first_word, more_tokens, step_text, hex_text, raw_text, record_by, record_text, lines_text}
use Rattle.words.specs.Tell.{plain_of}
use Rattle.words.specs.Sheets.{trailer_of, sheet_of, answer_text, text_most, unmarked, sheet_text}
use Rattle.words.proofs.TextLaws.{lines_length}
use Rattle.words.proofs.SheetsLaws.{records_count, records_are, part_read, sheet_bytes, sheet_most_lem, plain_lines, other_unmarked}

-- ---- the words of a sheet start with no mark

-- words start with a letter
letters_first : (k w x : ℕ) (rest : List ℕ) → x < 128 → get_or (letters_of k w ++ (x ∷ rest)) 0 0 < 128
unfolding spelt
letters_first zero w x rest h = h
letters_first (suc k) w x rest h =
    ⊎_elim
    (λ (e : ltb w 32 ≡ true). let few : w < 32 = ltb-true w 32 e in rw e (omega arith))
    (λ (e : ltb w 32 ≡ false).
    rw (e, append_assoc (letters_of k (w / 32)) ((96 + w % 32) ∷ []) (x ∷ rest))
    (letters_first k (w / 32) (96 + w % 32) (x ∷ rest) (omega arith)))
    (either (ltb w 32))

step_first : (w : ℕ) (ts : List Token) (rest : List ℕ) → get_or ((word_text w ++ rest_text ts) ++ (10 ∷ rest)) 0 0 < 128
step_first w [] rest = rw (append-nil (word_text w)) (letters_first 9 w 10 rest (omega arith))
step_first w (t ∷ ts) rest =
    rw (append_assoc (word_text w) (rest_text (t ∷ ts)) (10 ∷ rest))
    (letters_first 9 w 32 ((token_text t ++ rest_text ts) ++ (10 ∷ rest)) (omega arith))

record_first : (r : Reading) (b rest : List ℕ) → get_or (record_by r b ++ (10 ∷ rest)) 0 0 < 128
unfolding step_text raw_text
record_first None b rest =
    rw (append_assoc (word_text raw_word) (32 ∷ hex_text b) (10 ∷ rest))
    (letters_first 9 raw_word 32 (hex_text b ++ (10 ∷ rest)) (omega arith))
record_first (Some s) b rest = step_first (first_word s) (more_tokens s) rest

lines_first : (bs : List (List ℕ)) → get_or (lines_text bs) 0 0 < 128
unfolding lines_text record_text
lines_first [] = omega arith
lines_first (b ∷ bs) = record_first (step_of_record b) b (lines_text bs)

low_unmarked : (text rest : List ℕ) → get_or text 0 0 < 128 → text ≡ 239 ∷ 187 ∷ 191 ∷ rest → ⊥
low_unmarked text rest low e = let first : get_or text 0 0 ≡ 239 = ap (λ (l : List ℕ). get_or l 0 0) e in omega arith

-- ---- a part of records

-- its words are a text that is not too long
pub part_short :
    (part : List ℕ) → ((i : ℕ) → get_or part i 0 < 256) → length part ≤ 65520
    → length (lines_text (records_up_to part (length part / 16))) ≤ 446355
part_short part byte short =
    let n = length part / 16 in
    let most : length (lines_text (records_up_to part n)) ≤ 109 * length (records_up_to part n) = lines_length (records_up_to part n) (records_are part byte n (omega arith)) in
    omega (arith, most, records_count part n)

-- and the sheet made of them comes back
pub part_comes_back :
    (part : List ℕ) → ((i : ℕ) → get_or part i 0 < 256) → length part % 16 ≡ 0 → length part ≤ 65520
    → sheet_text (lines_text (records_up_to part (length part / 16))) ≡ sheet_of part
unfolding sheet_text answer_text
part_comes_back part byte whole short =
    let words = lines_text (records_up_to part (length part / 16)) in
    let fits : length words ≤ 446355 = part_short part byte short in
    let bare : unmarked words ≡ words = other_unmarked words (λ rest e. low_unmarked words rest (lines_first (records_up_to part (length part / 16))) e) in
    rw (le-ltb text_most (length words) (omega arith), bare, part_read part byte whole short)

-- ---- a whole sheet

-- "passread --plain" and then "passwrite": the records come back as a sheet, without the heading
pub sheet_comes_back :
    (b : List ℕ) → ((i : ℕ) → get_or b i 0 < 256) → sheet_answer b ≡ Ok tt
    → sheet_text (plain_of b) ≡ sheet_of (sheet_records b)
unfolding plain_of
sheet_comes_back b byte e =
    rw (e, plain_lines (sheet_records b) (length (sheet_records b) / 16))
    (part_comes_back (sheet_records b) (sheet_bytes (sheet_answer b) b refl byte) (records_sixteens b) (sheet_most_lem (sheet_answer b) b refl))

-- ---- what a sheet that is taken is made of: its heading, its records, and their trailer

module _ (b : List ℕ) (byte : (i : ℕ) → get_or b i 0 < 256) (e : sheet_answer b ≡ Ok tt) where
  abbrev mark : ℕ → ℕ → Bool
  mark k x = eqb (get_or b (trailer_at b + k) 0) x

  marked : (mark 4 80 ≡ true) × (mark 5 65 ≡ true) × (mark 6 83 ≡ true) × (mark 7 83 ≡ true)
  marked =
      let m = (taken_whole b e).mark in
      let three = and_left (mark 4 80 && mark 5 65 && mark 6 83) (mark 7 83) m in
      let two = and_left (mark 4 80 && mark 5 65) (mark 6 83) three in
      (and_left (mark 4 80) (mark 5 65) two, and_right (mark 4 80) (mark 5 65) two, and_right (mark 4 80 && mark 5 65) (mark 6 83) three, and_right (mark 4 80 && mark 5 65 && mark 6 83) (mark 7 83) m)

  -- the trailer's eight bytes
  trailer_byte : (i : ℕ) → i < 8 → get_or b (trailer_at b + i) 0 ≡ get_or (trailer_of (distance_of b)) i 0
  trailer_byte =
      let b0 : get_or b (trailer_at b) 0 < 256 = byte (trailer_at b) in
      let b1 : get_or b (trailer_at b + 1) 0 < 256 = byte (trailer_at b + 1) in
      let b2 : get_or b (trailer_at b + 2) 0 < 256 = byte (trailer_at b + 2) in
      let b3 : get_or b (trailer_at b + 3) 0 < 256 = byte (trailer_at b + 3) in
      each_row_at (λ i. get_or b (trailer_at b + i) 0 ≡ get_or (trailer_of (distance_of b)) i 0) 8
      ((((((((tt, ap (λ (i : ℕ). get_or b i 0) (add-zero (trailer_at b)) ∙ omega arith), omega arith), omega arith), omega arith), eqb-true (get_or b (trailer_at b + 4) 0) 80 marked.0), eqb-true (get_or b (trailer_at b + 5) 0) 65 marked.1), eqb-true (get_or b (trailer_at b + 6) 0) 83 marked.2), eqb-true (get_or b (trailer_at b + 7) 0) 83 marked.3)

  trailer_there : drop (trailer_at b) b ≡ trailer_of (distance_of b)
  trailer_there =
      let least : 8 ≤ length b = (taken_whole b e).least in
      let eight : length (drop (trailer_at b) b) ≡ 8 = rw (length-drop (trailer_at b) b) (omega arith) in
      ext_get_or 0 (drop (trailer_at b) b) (trailer_of (distance_of b)) eight
      (λ i h. get_or-drop (trailer_at b) b i 0 ∙ trailer_byte i (omega arith))

  -- and what follows the heading is the sheet of its records
  after_heading : sheet_of (sheet_records b) ≡ drop (trailer_at b - distance_of b) b
  unfolding sheet_records
  after_heading =
      let within : distance_of b ≤ trailer_at b = (taken_whole b e).within in
      let back : trailer_at b - distance_of b + distance_of b ≡ trailer_at b = omega arith in
      let d = distance_of b in
      rw (taken_length b e, ← trailer_there, e)
      (ap (λ (t : List ℕ). take d (drop (trailer_at b - d) b) ++ t) (ap (λ (k : ℕ). drop k b) (sym back) ∙ sym (drop-drop d (trailer_at b - d) b))
      ∙ take-append-drop d (drop (trailer_at b - d) b))

  heading_long : trailer_at b - distance_of b ≡ length b - length (sheet_of (sheet_records b))
  heading_long =
      let least : 8 ≤ length b = (taken_whole b e).least in
      let within : distance_of b ≤ trailer_at b = (taken_whole b e).within in
      rw (after_heading, length-drop (trailer_at b - distance_of b) b) (omega arith)

  -- the heading apart, a sheet comes back byte by byte
  pub heading_apart : take (length b - length (sheet_text (plain_of b))) b ++ sheet_text (plain_of b) ≡ b
  heading_apart =
      rw (sheet_comes_back b byte e, ← heading_long, after_heading) (take-append-drop (trailer_at b - distance_of b) b)

  -- and one without a heading whole
  pub whole_comes_back : length b ≡ length (sheet_records b) + 8 → sheet_text (plain_of b) ≡ b
  whole_comes_back bare =
      let d : length (sheet_records b) ≡ distance_of b = taken_length b e in
      let none : trailer_at b - distance_of b ≡ 0 = omega arith in
      sheet_comes_back b byte e ∙ after_heading ∙ ap (λ (k : ℕ). drop k b) none
