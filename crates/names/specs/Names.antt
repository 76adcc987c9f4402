-- Looking up an object in two lists of lines, a station's own and the company's. Assumes nothing.
-- "A station's own width list stands before the company's: looking up an object hands back the line's bytes from whichever list has it
-- (number, space, text; first match; a miss gives the company list's empty end)."
use Rattle.std.specs.Prelude.{ℕ, ◌+◌, ◌*◌, ◌-◌, Bool, cond, ◌&&◌, List, [], ◌∷◌, ◌++◌, leb, ltb, eqb, length, get_or}

-- ---- the lines of a list: each ends at byte 10 or at the list's end

-- bytes that stand before the first line belong to it
abbrev pub ahead : List ℕ → List (List ℕ) → List (List ℕ)
ahead front [] = front ∷ []
ahead front (line ∷ lines) = (front ++ line) ∷ lines

-- without their newlines
unfoldable pub lines_of : List ℕ → List (List ℕ)
lines_of [] = []
lines_of (b ∷ list) = cond (eqb b 10) ([] ∷ lines_of list) (ahead (b ∷ []) (lines_of list))

-- ---- the number of a line

abbrev pub is_digit : ℕ → Bool
is_digit b = leb 48 b && leb b 57

-- the digits that it begins with
unfoldable pub digits_in : List ℕ → List ℕ
digits_in [] = []
digits_in (b ∷ line) = cond (is_digit b) (b ∷ digits_in line) []

-- what stands behind them
unfoldable pub behind_digits : List ℕ → List ℕ
behind_digits [] = []
behind_digits (b ∷ line) = cond (is_digit b) (behind_digits line) (b ∷ line)

-- a number, and digits written behind it
unfoldable pub number_on : ℕ → List ℕ → ℕ
number_on n [] = n
number_on n (digit ∷ digits) = number_on (10 * n + (digit - 48)) digits

abbrev pub number_of : List ℕ → ℕ
number_of digits = number_on 0 digits

-- ---- the line of an object

-- it begins with digits whose number is the object's, then byte 32
unfoldable pub matches : ℕ → List ℕ → Bool
matches object line =
    ltb 0 (length (digits_in line)) && eqb (number_of (digits_in line)) object && eqb (get_or (behind_digits line) 0 0) 32

-- the first of these lines that does; nothing where none does
unfoldable pub first_match : ℕ → List (List ℕ) → List ℕ
first_match object [] = []
first_match object (line ∷ lines) = cond (matches object line) line (first_match object lines)

-- the station's lines stand before the company's
unfoldable pub line_for : List ℕ → List ℕ → ℕ → List ℕ
line_for station company object = first_match object (lines_of station ++ lines_of company)
