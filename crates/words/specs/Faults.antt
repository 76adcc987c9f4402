-- The line that names a fault: the bad line's number, what is wrong, what stood there and what was expected. Assumes nothing.
use Rattle.std.specs.Prelude.{ℕ, zero, suc, ◌+◌, Bool, true, cond, ◌&&◌, ◌||◌, List, [], ◌∷◌, ◌++◌, leb, eqb}
use Rattle.rules.specs.Loops.{one_if, sum_up_to}
use Rattle.rules.specs.Listing.{decimal_of}
use Rattle.words.specs.Types.{Fault, Mode, Scan}
use Rattle.words.specs.Grammar.{edge_count, edge_of, slot_at, raw_node, may_end}
use Rattle.words.specs.Scan.{is_space, is_hash, is_letter, is_digit, blank, end_of, scan_next, scan_all}
use Rattle.words.specs.Say.{text_bytes, word_text}

-- ---- the line, found in the text

-- what stands behind so many newlines
unfoldable pub lines_past : ℕ → List ℕ → List ℕ
lines_past zero text = text
lines_past (suc k) [] = []
lines_past (suc k) (b ∷ text) = cond (eqb b 10) (lines_past k text) (lines_past (suc k) text)

-- up to the next newline
unfoldable pub up_to_newline : List ℕ → List ℕ
up_to_newline [] = []
up_to_newline (b ∷ text) = cond (eqb b 10) [] (b ∷ up_to_newline text)

-- the line behind so many others, without its newline
abbrev pub line_behind : ℕ → List ℕ → List ℕ
line_behind lines text = up_to_newline (lines_past lines text)

-- ---- what stood there

-- where a word or a number is under way, or one was wrong, the line from its first byte on; else what is still to come
abbrev pub from_by : {A : Type 0} → Mode → A → A → A
from_by Mode.Gap from rest = rest
from_by Mode.Word from rest = from
from_by Mode.Number from rest = from
from_by Mode.Comment from rest = rest
from_by (Mode.Wrong f) from rest = from

-- the line is scanned again: what is left of it from the first byte of the word or number in which the fault fell
unfoldable pub fault_from : Scan → List ℕ → List ℕ → List ℕ
fault_from s from [] = from_by (end_of s).mode from []
fault_from s from (b ∷ rest) = fault_from (scan_next s b) (from_by (scan_next s b).mode from rest) rest

abbrev pub fault_in : List ℕ → List ℕ
fault_in line = fault_from blank line line

-- at the line's end no word and no number stands, nor before a space or `#`
abbrev pub no_word : List ℕ → Bool
no_word [] = true
no_word (b ∷ rest) = is_space b || is_hash b

-- "a byte that is no letter, small or capital, and no digit as `?`"
abbrev pub is_capital : ℕ → Bool
is_capital b = leb 65 b && leb b 90

abbrev pub shown_byte : ℕ → ℕ
shown_byte b = cond (is_letter b || is_capital b || is_digit b) b 63

-- "to the next space, tab, carriage return, `#` or newline", at most so many bytes
unfoldable pub shown_up_to : ℕ → List ℕ → List ℕ
shown_up_to zero bytes = []
shown_up_to (suc k) [] = []
shown_up_to (suc k) (b ∷ rest) = cond (no_word (b ∷ rest)) [] (shown_byte b ∷ shown_up_to k rest)

-- "its first twenty bytes"
abbrev pub quoted : List ℕ → List ℕ
quoted bytes = text_bytes "'" ++ shown_up_to 20 bytes ++ text_bytes "'"

-- where no word and no number stands, nothing is said
abbrev pub stood_text : List ℕ → List ℕ
stood_text bytes = cond (no_word bytes) [] (text_bytes " at " ++ quoted bytes)

-- ---- what was expected, read off the grammar's two tables

-- how many of the first k words lead on from this place
unfoldable pub choices_up_to : ℕ → ℕ → ℕ
choices_up_to node k = sum_up_to (λ i. one_if (eqb (edge_of i).from node)) k

-- the words that lead on, and nothing where the line may end
abbrev pub choice_count : ℕ → ℕ
choice_count node = choices_up_to node edge_count + one_if (may_end node)

-- "value or nothing", "read, write or operation": what stands before a choice that has so many before it
abbrev pub separator : ℕ → ℕ → List ℕ
separator before count = cond (eqb before 0) [] (cond (eqb (before + 1) count) (text_bytes " or ") (text_bytes ", "))

abbrev pub choice_text : ℕ → ℕ → List ℕ
choice_text node k =
    cond
    (eqb (edge_of k).from node)
    (separator (choices_up_to node k) (choice_count node) ++ word_text (edge_of k).word)
    []

unfoldable pub choices_text : ℕ → ℕ → List ℕ
choices_text node zero = []
choices_text node (suc k) = choices_text node k ++ choice_text node k

abbrev pub nothing_text : ℕ → List ℕ
nothing_text node =
    cond (may_end node) (separator (choices_up_to node edge_count) (choice_count node) ++ text_bytes "nothing") []

-- at this place of the grammar
unfoldable pub expected_at : ℕ → List ℕ
expected_at node =
    cond
    (eqb node 0)
    (text_bytes "a step")
    (cond
    (eqb node raw_node)
    (text_bytes "32 hex digits")
    (cond
    (eqb (slot_at node).width 0)
    (choices_text node edge_count ++ nothing_text node)
    (text_bytes "a number")))

abbrev pub expected_text : ℕ → List ℕ
expected_text node = text_bytes ", " ++ expected_at node ++ text_bytes " expected"

-- the place that the line has come to
abbrev pub place_in : List ℕ → ℕ
place_in line = (end_of (scan_all blank line)).node

-- ---- "the first bad line is named by its number and what is wrong"

-- what is wrong with this line
abbrev pub fault_text : Fault → List ℕ → List ℕ
fault_text Fault.UnknownWord line = text_bytes "unknown word " ++ quoted (fault_in line) ++ expected_text (place_in line)
fault_text Fault.MissingField line = text_bytes "missing field" ++ stood_text (fault_in line) ++ expected_text (place_in line)
fault_text Fault.TooLarge line = text_bytes "number too large"
fault_text Fault.LineTooLong line = text_bytes "line too long"
fault_text Fault.TooManyLines line = text_bytes "too many lines"

-- "line ", the line's number, ": ", what is wrong
unfoldable pub fault_line : ℕ → Fault → List ℕ → List ℕ
fault_line number f line = text_bytes "line " ++ decimal_of number ++ text_bytes ": " ++ fault_text f line ++ (10 ∷ [])
