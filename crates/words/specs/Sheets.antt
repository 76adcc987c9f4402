-- Lists of records in words, the sheet that they make, and what passwrite answers. Assumes nothing.
use Rattle.std.specs.Prelude.{Option, None, Some, ℕ, ◌+◌, List, [], ◌∷◌, ◌++◌, Bool, cond, ◌&&◌, ltb, eqb, length, get_or, drop}
use Rattle.rules.specs.Record.{long_bytes}
use Rattle.words.specs.Types.{Fault}
use Rattle.words.specs.Scan.{Read, text_read}
use Rattle.words.specs.Say.{text_bytes}
use Rattle.words.specs.Faults.{line_behind, fault_line}

-- "The trailer is a distance in four bytes, .. then the bytes "PASS"."
abbrev pub trailer_of : ℕ → List ℕ
trailer_of distance = long_bytes distance ++ (80 ∷ 65 ∷ 83 ∷ 83 ∷ [])

-- the records start at the front
abbrev pub sheet_of : List ℕ → List ℕ
sheet_of records = records ++ trailer_of (length records)

-- ---- what passwrite answers: a sheet, or the first bad line

abbrev pub answer_by : Option Fault → Read → List ℕ → List ℕ
answer_by None t text = sheet_of t.records
answer_by (Some f) t text = fault_line (t.reader.lines + 1) f (line_behind t.reader.lines text)

unfoldable pub answer_text : List ℕ → List ℕ
answer_text text = answer_by (text_read text).reader.stop (text_read text) text

-- a text has at most so many bytes; a longer one gets one line, "text too long"
abbrev pub text_most : ℕ
text_most = 524288

abbrev pub long_line : List ℕ
long_line = text_bytes "text too long" ++ (10 ∷ [])

-- "The three bytes EF BB BF at the very start of a text are blank"
abbrev pub is_marked : List ℕ → Bool
is_marked text = eqb (get_or text 0 0) 239 && eqb (get_or text 1 0) 187 && eqb (get_or text 2 0) 191

unfoldable pub unmarked : List ℕ → List ℕ
unmarked text = cond (is_marked text) (drop 3 text) text

-- "They count to the text's bytes and not to the line's."
unfoldable pub sheet_text : List ℕ → List ℕ
sheet_text text = cond (ltb text_most (length text)) long_line (answer_text (unmarked text))
