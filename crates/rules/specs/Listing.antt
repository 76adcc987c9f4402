-- The listing: what passrun prints for a sheet, byte for byte. Assumes nothing.
-- "prints for each record: its place from 1, refusal number, value, one space between, each line ended by a newline"
use Rattle.std.specs.Prelude.{ℕ, zero, suc, ◌+◌, ◌/◌, ◌%◌, cond, List, [], ◌∷◌, ◌++◌, ltb, length, Ok, Err}
use Rattle.rules.specs.Types.{Tables, Answer, Outcome, SheetAnswer}
use Rattle.rules.specs.Tables.{start}
use Rattle.rules.specs.Answers.{answer_number, answer_value}
use Rattle.rules.specs.Record.{step_record_of}
use Rattle.rules.specs.Sheet.{sheet_answer, sheet_number, sheet_records, record_at}

-- a number in a base, its highest sign first, of which there are at most `left`
-- the sign of 0 has the code `first`, the sign of 1 the next one, and so on
unfoldable pub spelt : (base first left n : ℕ) → List ℕ
spelt base first zero n = []
spelt base first (suc left) n =
    let front : List ℕ = spelt base first left (n / base) in
    cond (ltb n base) ((first + n) ∷ []) (front ++ ((first + n % base) ∷ []))

-- a number in decimal digits, of which there are at most k
abbrev pub digits_of : ℕ → ℕ → List ℕ
digits_of k n = spelt 10 48 k n

-- twenty digits are enough for any number below 10 ^ 20, and so for any of 64 bits
abbrev pub decimal_of : ℕ → List ℕ
decimal_of n = digits_of 20 n

-- place, number, value, single spaces, newline
unfoldable pub line_of : ℕ → Answer → List ℕ
line_of place answer =
    decimal_of place ++ (32 ∷ decimal_of (answer_number answer)) ++ (32 ∷ decimal_of (answer_value answer))
    ++ (10 ∷ [])

-- a run of records under way: its tables, and the lines so far
pub record Printed : Type 0 where
  pub tables : Tables
  pub text : List ℕ

-- the line of record n, from 0, is added; the tables are those that it leaves
abbrev pub printed_next : List ℕ → ℕ → Printed → Printed
printed_next part n p =
    let o : Outcome = step_record_of p.tables (record_at part n) in
    record { tables = o.tables; text = p.text ++ line_of (n + 1) o.answer }

-- after the first n records of a part, from the start
unfoldable pub printed_up_to : List ℕ → ℕ → Printed
printed_up_to part zero = record { tables = start; text = [] }
printed_up_to part (suc n) = printed_next part n (printed_up_to part n)

-- "A refused sheet prints one line, "sheet", a space and its number, and nothing else."
abbrev pub sheet_line : ℕ → List ℕ
sheet_line number = 115 ∷ 104 ∷ 101 ∷ 101 ∷ 116 ∷ 32 ∷ (decimal_of number ++ (10 ∷ []))

abbrev pub listing_by : SheetAnswer → List ℕ → List ℕ
listing_by (Ok u) part = (printed_up_to part (length part / 16)).text
listing_by (Err r) part = sheet_line (sheet_number (Err r))

unfoldable pub listing_of : List ℕ → List ℕ
listing_of sheet = listing_by (sheet_answer sheet) (sheet_records sheet)
