-- The reader: a fold over the bytes of a line, and over the bytes of a text. Assumes nothing.
use Rattle.std.specs.Prelude.{Option, None, Some, Ok, Err, ℕ, ◌+◌, ◌*◌, ◌-◌, ◌/◌, ◌%◌, Bool, true, false, cond, ◌&&◌, ◌||◌, List, [], ◌∷◌, ◌++◌, leb, ltb, eqb, get_or, set}
use Rattle.words.specs.Types.{Edge, Slot, Fault, Mode, Scan, Line, Verdict, Reader}
use Rattle.words.specs.Grammar.{edge_count, edge_of, edge_at, slot_at, most_in, raw_node, may_end, said, slot_stored}

-- ---- bytes

-- a space, a tab or a carriage return
abbrev pub is_space : ℕ → Bool
is_space b = eqb b 32 || eqb b 9 || eqb b 13

-- `#`
abbrev pub is_hash : ℕ → Bool
is_hash b = eqb b 35

abbrev pub is_letter : ℕ → Bool
is_letter b = leb 97 b && leb b 122

abbrev pub is_digit : ℕ → Bool
is_digit b = leb 48 b && leb b 57

-- a hex digit's number, in small or capital letters; 16 for any other byte
abbrev pub hex_value : ℕ → ℕ
hex_value b =
    cond
    (is_digit b)
    (b - 48)
    (cond (leb 97 b && leb b 102) (b - 87) (cond (leb 65 b && leb b 70) (b - 55) 16))

-- ---- one line

abbrev pub at : Mode → ℕ → ℕ → ℕ → List ℕ → Scan
at mode token node digits bytes =
    record { mode = mode; token = token; node = node; digits = digits; bytes = bytes }

abbrev pub zeros : List ℕ
zeros = 0 ∷ 0 ∷ 0 ∷ 0 ∷ 0 ∷ 0 ∷ 0 ∷ 0 ∷ 0 ∷ 0 ∷ 0 ∷ 0 ∷ 0 ∷ 0 ∷ 0 ∷ 0 ∷ []

-- before a line
abbrev pub blank : Scan
blank = at Mode.Gap 0 0 0 zeros

abbrev pub wrong : Scan → Fault → Scan
wrong s f = at (Mode.Wrong f) 0 s.node s.digits s.bytes

-- a word or a number that does not belong here: unknown where the line may end, else a field is missing before it
abbrev pub misplaced : Scan → Scan
misplaced s = wrong s (cond (may_end s.node) Fault.UnknownWord Fault.MissingField)

-- after a word: the row of the word at this place says what follows
abbrev pub followed : Scan → Edge → Scan
followed s e = at Mode.Gap 0 e.to s.digits (said e.says s.bytes)

unfoldable pub word_taken : Scan → Scan
word_taken s =
    cond
    (ltb (edge_at s.node s.token) edge_count)
    (followed s (edge_of (edge_at s.node s.token)))
    (misplaced s)

-- after a number: "a number too large for its field is an error, not a wrap"
abbrev pub filled : Scan → Slot → Scan
filled s f =
    cond
    (ltb (most_in f.width) s.token)
    (wrong s Fault.TooLarge)
    (at Mode.Gap 0 f.to s.digits (slot_stored f s.token s.bytes))

unfoldable pub number_taken : Scan → Scan
number_taken s =
    cond (eqb (slot_at s.node).width 0) (misplaced s) (filled s (slot_at s.node))

-- what ends a word or a number
abbrev pub end_by : Mode → Scan → Scan
end_by Mode.Gap s = s
end_by Mode.Word s = word_taken s
end_by Mode.Number s = number_taken s
end_by Mode.Comment s = s
end_by (Mode.Wrong f) s = s

abbrev pub end_of : Scan → Scan
end_of s = end_by s.mode s

-- `#`: the rest of the line says nothing, unless something was wrong before
abbrev pub noted_by : Mode → Scan → Scan
noted_by Mode.Gap s = at Mode.Comment 0 s.node s.digits s.bytes
noted_by Mode.Word s = s
noted_by Mode.Number s = s
noted_by Mode.Comment s = s
noted_by (Mode.Wrong f) s = s

abbrev pub noted : Scan → Scan
noted s = noted_by s.mode s

-- hex digits go into the record two to a byte, at most 32 of them
abbrev pub hex_taken : Scan → ℕ → Scan
hex_taken s x =
    at Mode.Gap 0 s.node (s.digits + 1)
    (set s.bytes (s.digits / 2) (get_or s.bytes (s.digits / 2) 0 % 16 * 16 + x))

abbrev pub hex_next : Scan → ℕ → Scan
hex_next s b =
    cond (ltb (hex_value b) 16 && ltb s.digits 32) (hex_taken s (hex_value b)) (wrong s Fault.UnknownWord)

-- no word has more than twelve letters, and no field more than four bytes
abbrev pub lettered : Scan → ℕ → Scan
lettered s b =
    cond
    (ltb 36028797018963967 s.token)
    (wrong s Fault.UnknownWord)
    (at Mode.Word (s.token * 32 + (b - 96)) s.node s.digits s.bytes)

abbrev pub numbered : Scan → ℕ → Scan
numbered s b =
    cond
    (ltb 429496729 s.token)
    (wrong s Fault.TooLarge)
    (at Mode.Number (s.token * 10 + (b - 48)) s.node s.digits s.bytes)

-- the first byte of a word or a number
abbrev pub token_begun : Scan → ℕ → Scan
token_begun s b =
    cond
    (is_letter b)
    (lettered s b)
    (cond (is_digit b) (numbered s b) (wrong s Fault.UnknownWord))

-- any byte but a space and `#`
abbrev pub byte_by : Mode → Scan → ℕ → Scan
byte_by Mode.Gap s b = cond (eqb s.node raw_node) (hex_next s b) (token_begun s b)
byte_by Mode.Word s b = cond (is_letter b) (lettered s b) (wrong s Fault.UnknownWord)
byte_by Mode.Number s b = cond (is_digit b) (numbered s b) (wrong s Fault.UnknownWord)
byte_by Mode.Comment s b = s
byte_by (Mode.Wrong f) s b = s

-- one byte of a line more; after a comment's `#` and after something wrong nothing changes
abbrev pub live_next : Scan → ℕ → Scan
live_next s b =
    cond
    (is_space b)
    (end_of s)
    (cond (is_hash b) (noted (end_of s)) (byte_by s.mode s b))

abbrev pub next_by : Mode → Scan → ℕ → Scan
next_by Mode.Gap s b = live_next s b
next_by Mode.Word s b = live_next s b
next_by Mode.Number s b = live_next s b
next_by Mode.Comment s b = s
next_by (Mode.Wrong f) s b = s

unfoldable pub scan_next : Scan → ℕ → Scan
scan_next s b = next_by s.mode s b

-- the bytes of a line, or of a part of it
unfoldable pub scan_all : Scan → List ℕ → Scan
scan_all s [] = s
scan_all s (b ∷ bs) = scan_all (scan_next s b) bs

-- ---- what a line says

abbrev pub is_record : Scan → Bool
is_record s = cond (eqb s.node raw_node) (eqb s.digits 32) (may_end s.node)

abbrev pub ends_at : Scan → Verdict
ends_at s =
    cond
    (eqb s.node 0)
    (Ok Line.Blank)
    (cond (is_record s) (Ok Line.Record) (Err Fault.MissingField))

abbrev pub verdict_by : Mode → Scan → Verdict
verdict_by Mode.Gap s = ends_at s
verdict_by Mode.Word s = ends_at s
verdict_by Mode.Number s = ends_at s
verdict_by Mode.Comment s = ends_at s
verdict_by (Mode.Wrong f) s = Err f

-- of a line whose last word or number has ended
abbrev pub verdict_of : Scan → Verdict
verdict_of s = verdict_by s.mode s

-- ---- a whole text

-- "line too long": a line has at most so many bytes, its newline apart
abbrev pub line_most : ℕ
line_most = 1000

-- "too many lines": a sheet holds at most so many records
abbrev pub record_most : ℕ
record_most = 4095

-- and a text has fewer lines than this, those that say nothing counted
abbrev pub lines_most : ℕ
lines_most = 1000000

abbrev pub reading : ℕ → ℕ → ℕ → Scan → Reader
reading lines count length scan =
    record { stop = None; scan = scan; length = length; lines = lines; count = count }

-- something is wrong: the line under way is line `lines + 1`
abbrev pub stopped : Reader → Fault → Reader
stopped r f =
    record {
      stop = Some f;
      scan = r.scan;
      length = r.length;
      lines = r.lines;
      count = r.count;
    }

-- a line has ended, and says a record, or nothing, or something wrong
abbrev pub recorded : Reader → Reader
recorded r =
    cond
    (ltb r.count record_most)
    (reading (r.lines + 1) (r.count + 1) 0 blank)
    (stopped r Fault.TooManyLines)

abbrev pub judged : Reader → Verdict → Reader
judged r (Ok Line.Blank) = reading (r.lines + 1) r.count 0 blank
judged r (Ok Line.Record) = recorded r
judged r (Err f) = stopped r f

abbrev pub line_ended : Reader → Reader
line_ended r =
    cond (ltb r.lines lines_most) (judged r (verdict_of (end_of r.scan))) (stopped r Fault.TooManyLines)

-- a byte of a line more
abbrev pub byte_read : Reader → ℕ → Reader
byte_read r b =
    cond
    (ltb r.length line_most)
    (reading r.lines r.count (r.length + 1) (scan_next r.scan b))
    (stopped r Fault.LineTooLong)

abbrev pub next_while : Option Fault → Reader → ℕ → Reader
next_while None r b = cond (eqb b 10) (line_ended r) (byte_read r b)
next_while (Some f) r b = r

unfoldable pub reader_next : Reader → ℕ → Reader
reader_next r b = next_while r.stop r b

-- whether this byte ends a line that says a record, and there is room for it
abbrev pub is_going : Option Fault → Bool
is_going None = true
is_going (Some f) = false

abbrev pub says_record : Verdict → Bool
says_record (Ok Line.Blank) = false
says_record (Ok Line.Record) = true
says_record (Err f) = false

unfoldable pub gives_record : Reader → ℕ → Bool
gives_record r b =
    is_going r.stop && eqb b 10 && ltb r.lines lines_most && says_record (verdict_of (end_of r.scan))
    && ltb r.count record_most

-- what this byte adds to the records
unfoldable pub given : Reader → ℕ → List ℕ
given r b = cond (gives_record r b) (end_of r.scan).bytes []

-- a text under way, with the bytes of its records
pub record Read : Type 0 where
  pub reader : Reader
  pub records : List ℕ

unfoldable pub read_next : Read → ℕ → Read
read_next t b =
    record { reader = reader_next t.reader b; records = t.records ++ given t.reader b }

unfoldable pub read_all : Read → List ℕ → Read
read_all t [] = t
read_all t (b ∷ bs) = read_all (read_next t b) bs

-- before a text
abbrev pub unread : Read
unread = record { reader = reading 0 0 0 blank; records = [] }

-- the last line needs no newline: one more is read at the end
unfoldable pub text_read : List ℕ → Read
text_read text = read_next (read_all unread text) 10
