-- What passread prints: each record in words with its answer beside it, or the words alone. Assumes nothing.
use Rattle.std.specs.Prelude.{ℕ, zero, suc, ◌+◌, ◌/◌, List, [], ◌∷◌, ◌++◌, length, get_or, Ok, Err}
use Prim.Native.String.{String}
use Rattle.rules.specs.Types.{Answer}
use Rattle.rules.specs.declared.steps.SheetRefusal.{SheetRefusal}
use Rattle.rules.specs.Types.{SheetAnswer}
use Rattle.rules.specs.Answers.{refusal_number}
use Rattle.rules.specs.Record.{step_record_of}
use Rattle.rules.specs.Sheet.{sheet_answer, sheet_number, sheet_records, record_at}
use Rattle.rules.specs.Listing.{decimal_of, printed_up_to}
use Rattle.words.specs.Say.{text_bytes, record_text}

-- ---- what each refusal means, in a short phrase

-- the phrase of refusal number n stands at place n; a place with no phrase is no refusal's (`refusal_has_phrase`, in telling)
unfoldable pub refusal_phrases : List String
refusal_phrases =
    ""  -- 0
    ∷ "no such step"  -- 1
    ∷ "field or times not allowed"  -- 2
    ∷ "no such passage or message"  -- 3
    ∷ "site is down"  -- 4
    ∷ "does not fit as it stands"  -- 5
    ∷ "no visit there"  -- 6
    ∷ "clock would pass its end"  -- 7
    ∷ "quiesced or dead"  -- 8
    ∷ "wrong round or done before"  -- 9
    ∷ "object is held"  -- 10
    ∷ "the message table is full"  -- 11
    ∷ "round is not closed"  -- 12
    ∷ "no call is left to that station"  -- 13
    ∷ "no round is left"  -- 14
    ∷ ""  -- 15
    ∷ ""  -- 16
    ∷ ""  -- 17
    ∷ ""  -- 18
    ∷ ""  -- 19
    ∷ "tables out of range"  -- 20
    ∷ []

-- what the refusal of this number means; of a number that is no refusal's nothing is said
abbrev pub refusal_phrase : ℕ → List ℕ
refusal_phrase number = text_bytes (get_or refusal_phrases number "")

abbrev pub sheet_phrase : SheetAnswer → List ℕ
-- "taken"
sheet_phrase (Ok u) = 116 ∷ 97 ∷ 107 ∷ 101 ∷ 110 ∷ []
-- "over 65536 bytes"
sheet_phrase (Err SheetRefusal.TooLong) = 111 ∷ 118 ∷ 101 ∷ 114 ∷ 32 ∷ 54 ∷ 53 ∷ 53 ∷ 51 ∷ 54 ∷ 32 ∷ 98 ∷ 121 ∷ 116 ∷ 101 ∷ 115 ∷ []
-- "under 8 bytes"
sheet_phrase (Err SheetRefusal.TooShort) = 117 ∷ 110 ∷ 100 ∷ 101 ∷ 114 ∷ 32 ∷ 56 ∷ 32 ∷ 98 ∷ 121 ∷ 116 ∷ 101 ∷ 115 ∷ []
-- "mark is wrong"
sheet_phrase (Err SheetRefusal.BadMark) = 109 ∷ 97 ∷ 114 ∷ 107 ∷ 32 ∷ 105 ∷ 115 ∷ 32 ∷ 119 ∷ 114 ∷ 111 ∷ 110 ∷ 103 ∷ []
-- "distance is wrong"
sheet_phrase (Err SheetRefusal.BadDistance) = 100 ∷ 105 ∷ 115 ∷ 116 ∷ 97 ∷ 110 ∷ 99 ∷ 101 ∷ 32 ∷ 105 ∷ 115 ∷ 32 ∷ 119 ∷ 114 ∷ 111 ∷ 110 ∷ 103 ∷ []

-- ---- a record, its answer beside it

-- " = " and the value
abbrev pub accepted_told : ℕ → List ℕ
accepted_told value = (32 ∷ 61 ∷ 32 ∷ []) ++ decimal_of value

-- " refused ", the number and what it means
abbrev pub refused_told : ℕ → List ℕ
refused_told number =
    (32 ∷ 114 ∷ 101 ∷ 102 ∷ 117 ∷ 115 ∷ 101 ∷ 100 ∷ 32 ∷ []) ++ decimal_of number ++ (32 ∷ refusal_phrase number)

abbrev pub answer_told : Answer → List ℕ
answer_told (Ok v) = accepted_told v
answer_told (Err r) = refused_told (refusal_number r)

-- place, words, answer
unfoldable pub told_line : ℕ → List ℕ → Answer → List ℕ
told_line place bytes answer =
    decimal_of place ++ (32 ∷ record_text bytes) ++ answer_told answer ++ (10 ∷ [])

-- the first n records of a part, run from the start
unfoldable pub told_up_to : List ℕ → ℕ → List ℕ
told_up_to part zero = []
told_up_to part (suc n) =
    told_up_to part n
    ++ told_line (n + 1) (record_at part n) (step_record_of (printed_up_to part n).tables (record_at part n)).answer

-- ---- the words alone, fit for passwrite again

unfoldable pub plain_up_to : List ℕ → ℕ → List ℕ
plain_up_to part zero = []
plain_up_to part (suc n) = plain_up_to part n ++ (record_text (record_at part n) ++ (10 ∷ []))

-- ---- a whole sheet; a refused one has one line: its number and what it means

abbrev pub refused_sheet : SheetAnswer → List ℕ
refused_sheet a =
    (115 ∷ 104 ∷ 101 ∷ 101 ∷ 116 ∷ 32 ∷ []) ++ decimal_of (sheet_number a) ++ (32 ∷ sheet_phrase a) ++ (10 ∷ [])

abbrev pub sheet_by : SheetAnswer → List ℕ → List ℕ
sheet_by (Ok u) text = text
sheet_by (Err r) text = refused_sheet (Err r)

unfoldable pub sheet_told : List ℕ → List ℕ
sheet_told sheet = sheet_by (sheet_answer sheet) (told_up_to (sheet_records sheet) (length (sheet_records sheet) / 16))

unfoldable pub plain_of : List ℕ → List ℕ
plain_of sheet = sheet_by (sheet_answer sheet) (plain_up_to (sheet_records sheet) (length (sheet_records sheet) / 16))
