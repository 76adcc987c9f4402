-- The sheet that is made of records is taken and holds them, the records of any sheet come back from their words, and a mark before a text is blank. Assumes nothing.
use Rattle.std.specs.Prelude.{ℕ, zero, suc, ◌+◌, ◌*◌, ◌-◌, ◌/◌, ◌%◌, ◌≤◌, ◌<◌, ◌≡◌, refl, List, [], ◌∷◌, ◌++◌, get_or, take, drop, eqb, true, false, ◌&&◌, Ok, Err}
use native.Mathlib.Omega.{arith}
use Rattle.std.proofs.Common.{add-zero, sym, ap, ◌∙◌, append-nil, append_assoc, length-append, length-take, length-drop, take-add, get_or-append-add, get_or-take, get_or-drop, true≢false, ⊎_elim}
use borrow.Author.Tests.{le-ltb, eqb-true}
use Rattle.std.proofs.Math.ListN.{length}
use Rattle.std.proofs.Math.Seq.{take-length, take-append_seam}
use Rattle.rules.specs.Loops.{joined}
use Rattle.rules.specs.Types.{SheetAnswer}
use Rattle.rules.proofs.RecordLaws.{Bytes16}
use Rattle.rules.specs.Record.{long_bytes}
use Rattle.rules.specs.Sheet.{trailer_at, distance_of, sheet_answer, sheet_records, record_at, records_up_to}
use Rattle.rules.proofs.SheetLaws.{Whole, taken_whole, taken_length, records_sixteens}
use Rattle.words.specs.Scan.{blank, Read, text_read}
use Rattle.words.specs.Say.{record_text, lines_text}
use Rattle.words.specs.Tell.{plain_up_to, plain_of}
use Rattle.words.specs.Sheets.{sheet_of, is_marked, unmarked}
use Rattle.words.proofs.TextLaws.{Records, going, text_read_lem}
use Rattle.rules.specs.LoopsLaws.{and_left, and_right, either}

-- ---- a part in records

joined_append : (xs ys : List (List ℕ)) → joined (xs ++ ys) ≡ joined xs ++ joined ys
joined_append [] ys = refl
joined_append (x ∷ xs) ys = rw (joined_append xs ys) (sym (append_assoc x (joined xs) (joined ys)))

-- the first n records of a part are its first 16 n bytes
joined_records : (part : List ℕ) (n : ℕ) → joined (records_up_to part n) ≡ take (16 * n) part
unfolding records_up_to
joined_records part zero = refl
joined_records part (suc n) =
    let more : 16 * suc n ≡ 16 * n + 16 = omega arith in
    rw (joined_append (records_up_to part n) (record_at part n ∷ []), joined_records part n, append-nil (record_at part n), more, take-add (16 * n) 16 part)

pub records_count : (part : List ℕ) (n : ℕ) → length (records_up_to part n) ≡ n
unfolding records_up_to
records_count part zero = refl
records_count part (suc n) = rw (length-append (records_up_to part n), records_count part n) (omega arith)

records_append : (xs : List (List ℕ)) (b : List ℕ) → Records xs → Bytes16 b → Records (xs ++ (b ∷ []))
records_append [] b r w = (w, tt)
records_append (x ∷ xs) b r w = (r.0, records_append xs b r.1 w)

-- of bytes, each record is sixteen bytes
pub records_are :
    (part : List ℕ) → ((i : ℕ) → get_or part i 0 < 256)
    → (n : ℕ) → 16 * n ≤ length part → Records (records_up_to part n)
unfolding records_up_to
records_are part byte zero l = tt
records_are part byte (suc n) l =
    records_append (records_up_to part n) (record_at part n) (records_are part byte n (omega arith))
    (record {
      sixteen = simp (length-take, length-drop) (omega arith);
      byte = λ i h. rw (get_or-take 16 (drop (16 * n) part) i 0 h, get_or-drop (16 * n) part i 0) (byte (16 * n + i));
    })

-- ---- "any sheet's records survive the trip to words and back"

-- the reader comes to the end of it, and has the records
pub part_read :
    (part : List ℕ) → ((i : ℕ) → get_or part i 0 < 256) → length part % 16 ≡ 0 → length part ≤ 65520
    → text_read (lines_text (records_up_to part (length part / 16))) ≡ going (length part / 16 + 1) (length part / 16) 0 blank part
part_read part byte whole short =
    let n = length part / 16 in
    let all : 16 * (length part / 16) ≡ length part = omega arith in
    let room : length (records_up_to part n) ≤ 4095 = rw (records_count part n) (omega arith) in
    rw (text_read_lem (records_up_to part n) (records_are part byte n (omega arith)) room, joined_records part n, all, take-length part, records_count part n)

pub part_survives :
    (part : List ℕ) → ((i : ℕ) → get_or part i 0 < 256) → length part % 16 ≡ 0 → length part ≤ 65520
    → (text_read (lines_text (records_up_to part (length part / 16)))).records ≡ part
part_survives part byte whole short = ap (λ (t : Read). t.records) (part_read part byte whole short)

-- bytes are bytes in any part of them
take_bytes : (k : ℕ) (l : List ℕ) → ((i : ℕ) → get_or l i 0 < 256) → (i : ℕ) → get_or (take k l) i 0 < 256
take_bytes zero l h i = omega arith
take_bytes (suc k) [] h i = omega arith
take_bytes (suc k) (x ∷ l) h zero = h zero
take_bytes (suc k) (x ∷ l) h (suc i) = take_bytes k l (λ j. h (suc j)) i

drop_bytes : (k : ℕ) (l : List ℕ) → ((i : ℕ) → get_or l i 0 < 256) → (i : ℕ) → get_or (drop k l) i 0 < 256
drop_bytes k l h i = rw (get_or-drop k l i 0) (h (k + i))

pub sheet_bytes : (a : SheetAnswer) (b : List ℕ) → sheet_answer b ≡ a → ((i : ℕ) → get_or b i 0 < 256) → (i : ℕ) → get_or (sheet_records b) i 0 < 256
unfolding sheet_records
sheet_bytes (Ok u) b e h i = rw e (take_bytes (distance_of b) (drop (trailer_at b - distance_of b) b) (drop_bytes (trailer_at b - distance_of b) b h) i)
sheet_bytes (Err r) b e h i = rw e (omega arith)

pub sheet_most_lem : (a : SheetAnswer) (b : List ℕ) → sheet_answer b ≡ a → length (sheet_records b) ≤ 65520
unfolding sheet_records
sheet_most_lem (Ok tt) b e =
    let w : Whole b = taken_whole b e in
    let m : length b ≤ 65536 = w.most in
    let s : distance_of b % 16 ≡ 0 = w.sixteens in
    let d : distance_of b ≤ length b - 8 = w.within in
    rw (taken_length b e) (omega arith)
sheet_most_lem (Err r) b e = rw e (omega arith)

-- the records of any sheet: what the text of their words reads as is those records
pub sheet_survives :
    (b : List ℕ) → ((i : ℕ) → get_or b i 0 < 256)
    → (text_read (lines_text (records_up_to (sheet_records b) (length (sheet_records b) / 16)))).records ≡ sheet_records b
sheet_survives b byte =
    part_survives (sheet_records b) (sheet_bytes (sheet_answer b) b refl byte) (records_sixteens b) (sheet_most_lem (sheet_answer b) b refl)

-- ---- a sheet that is made of records

module _ (r : List ℕ) (whole : length r % 16 ≡ 0) (short : length r ≤ 65520) where
  abbrev sheet : List ℕ
  sheet = sheet_of r

  made_length : length (sheet_of r) ≡ length r + 8
  made_length = rw (length-append r)

  made_trailer : trailer_at (sheet_of r) ≡ length r
  made_trailer = rw made_length (omega arith)

  made_byte : (k : ℕ) → get_or (sheet_of r) (length r + k) 0 ≡ get_or (long_bytes (length r) ++ (80 ∷ 65 ∷ 83 ∷ 83 ∷ [])) k 0
  made_byte k = get_or-append-add r (long_bytes (length r) ++ (80 ∷ 65 ∷ 83 ∷ 83 ∷ [])) k 0

  made_distance : distance_of (sheet_of r) ≡ length r
  made_distance =
      let n = length r in
      let one : length r / 256 ≡ length r / 256 % 256 + 256 * (length r / 65536) = omega arith in
      let two : length r / 65536 ≡ 0 = omega arith in
      let three : length r / 16777216 ≡ 0 = omega arith in
      rw (made_trailer, made_first, made_byte 1, made_byte 2, made_byte 3) (omega arith)
    where
      made_first : get_or (sheet_of r) (length r) 0 ≡ length r % 256
      made_first = ap (λ (i : ℕ). get_or (sheet_of r) i 0) (sym (add-zero (length r))) ∙ made_byte 0

  pub made_taken : sheet_answer (sheet_of r) ≡ Ok tt
  unfolding sheet_answer
  made_taken =
      rw (made_distance, made_trailer, made_byte 4, made_byte 5, made_byte 6, made_byte 7, made_length, le-ltb 65536 (length r + 8) (omega arith), le-ltb (length r + 8) 8 (omega arith), whole, le-ltb (length r) (length r) (omega arith))

  pub made_holds : sheet_records (sheet_of r) ≡ r
  unfolding sheet_records
  made_holds =
      let none : length r - length r ≡ 0 = omega arith in
      rw (made_taken, made_distance, made_trailer, none) (take-append_seam r (long_bytes (length r) ++ (80 ∷ 65 ∷ 83 ∷ 83 ∷ [])))

-- ---- the words alone, as passread gives them

lines_more : (bs : List (List ℕ)) (b : List ℕ) → lines_text (bs ++ (b ∷ [])) ≡ lines_text bs ++ (record_text b ++ (10 ∷ []))
unfolding lines_text
lines_more [] b = refl
lines_more (c ∷ bs) b = rw (lines_more bs b, ← append_assoc (record_text c) (10 ∷ lines_text bs) (record_text b ++ (10 ∷ [])))

pub plain_lines : (part : List ℕ) (n : ℕ) → plain_up_to part n ≡ lines_text (records_up_to part n)
unfolding plain_up_to records_up_to lines_text
plain_lines part zero = refl
plain_lines part (suc n) = rw (plain_lines part n, lines_more (records_up_to part n) (record_at part n))

-- the words of a sheet that is taken read as its records
pub plain_survives :
    (b : List ℕ) → ((i : ℕ) → get_or b i 0 < 256) → sheet_answer b ≡ Ok tt
    → (text_read (plain_of b)).records ≡ sheet_records b
unfolding plain_of
plain_survives b byte e =
    rw (e, plain_lines (sheet_records b) (length (sheet_records b) / 16)) (sheet_survives b byte)

-- ---- the mark before a text

-- one mark is blank; a second one is what it was
pub mark_blank : (text : List ℕ) → unmarked (239 ∷ 187 ∷ 191 ∷ text) ≡ text
unfolding unmarked
mark_blank text = refl

marked_starts : (text : List ℕ) → is_marked text ≡ true → text ≡ 239 ∷ 187 ∷ 191 ∷ drop 3 text
marked_starts [] e = absurd (true≢false (sym e))
marked_starts (a ∷ []) e = absurd (true≢false (sym (and_right (eqb a 239 && false) false e)))
marked_starts (a ∷ b ∷ []) e = absurd (true≢false (sym (and_right (eqb a 239 && eqb b 187) false e)))
marked_starts (a ∷ b ∷ c ∷ text) e =
    let two = and_left (eqb a 239 && eqb b 187) (eqb c 191) e in
    rw (eqb-true a 239 (and_left (eqb a 239) (eqb b 187) two), eqb-true b 187 (and_right (eqb a 239) (eqb b 187) two), eqb-true c 191 (and_right (eqb a 239 && eqb b 187) (eqb c 191) e))

-- a text that starts otherwise stays as it is
pub other_unmarked : (text : List ℕ) → ((rest : List ℕ) → text ≡ 239 ∷ 187 ∷ 191 ∷ rest → ⊥) → unmarked text ≡ text
unfolding unmarked
other_unmarked text other =
    ⊎_elim
    (λ (h : is_marked text ≡ true). absurd (other (drop 3 text) (marked_starts text h)))
    (λ (h : is_marked text ≡ false). rw h)
    (either (is_marked text))
