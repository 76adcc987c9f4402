-- The request to a check, read from its words. Assumes nothing.
-- "The words stand in the order shown, each once. Numbers are decimal, at most 4,294,967,295; home, slot and an object above 255 count as 255.
-- Anything else: `request not read`. `objects` with none behind it is an empty list; of more than nine the first nine are handed on."
-- The order shown: beam 11500 margin 400 home 0 slot 2 quiesce 500 release 600 objects 4 8 0
use Rattle.std.specs.Prelude.{ℕ, ◌+◌, ◌*◌, ◌-◌, min, Bool, true, false, cond, ◌&&◌, List, [], ◌∷◌, ◌++◌, map, leb, ltb, eqb, length, get_or, take, drop, replicate, Option, Some, None}
use Prim.Native.Char.{code}
use Prim.Native.String.{String, [] as no_more, ◌∷◌ as ◌then◌}
use Rattle.requests.specs.declared.Request.{Request}

-- ---- the words of a text: one space, byte 32, stands between two of them

-- bytes that stand before the first word belong to it
abbrev pub ahead : List ℕ → List (List ℕ) → List (List ℕ)
ahead front [] = front ∷ []
ahead front (word ∷ words) = (front ++ word) ∷ words

-- a space at the start or at the end, or one behind another, has an empty word beside it
unfoldable pub words_of : List ℕ → List (List ℕ)
words_of [] = [] ∷ []
words_of (b ∷ text) = cond (eqb b 32) ([] ∷ words_of text) (ahead (b ∷ []) (words_of text))

-- where there is no word, an empty one, which is no name and no number
abbrev pub word_at : ℕ → List (List ℕ) → List ℕ
word_at k words = get_or words k []

-- ---- names

-- the bytes of a text in plain letters, one for each
abbrev pub text_bytes : String → List ℕ
text_bytes no_more = []
text_bytes (letter then more) = code letter ∷ text_bytes more

unfoldable pub same : List ℕ → List ℕ → Bool
same [] [] = true
same [] (b ∷ name) = false
same (a ∷ word) [] = false
same (a ∷ word) (b ∷ name) = eqb a b && same word name

-- ---- numbers

abbrev pub number_most : ℕ
number_most = 4294967295

abbrev pub is_digit : ℕ → Bool
is_digit b = leb 48 b && leb b 57

unfoldable pub all_digits : List ℕ → Bool
all_digits [] = true
all_digits (b ∷ word) = is_digit b && all_digits word

-- a number, and digits written behind it
unfoldable pub number_on : ℕ → List ℕ → ℕ
number_on n [] = n
number_on n (digit ∷ digits) = number_on (10 * n + (digit - 48)) digits

abbrev pub number_of : List ℕ → ℕ
number_of word = number_on 0 word

-- one digit or more, nothing else, and not too large
unfoldable pub is_number : List ℕ → Bool
is_number word = ltb 0 (length word) && all_digits word && leb (number_of word) number_most

unfoldable pub all_numbers : List (List ℕ) → Bool
all_numbers [] = true
all_numbers (word ∷ words) = is_number word && all_numbers words

-- above 255 it counts as 255
abbrev pub byte_of : List ℕ → ℕ
byte_of word = min 255 (number_of word)

-- ---- the request

-- a longer text is not read
abbrev pub text_most : ℕ
text_most = 65536

-- a name, and a number behind it
unfoldable pub asks : List ℕ → ℕ → List (List ℕ) → Bool
asks name k words = same (word_at k words) name && is_number (word_at (k + 1) words)

-- six names in the order shown, each with its number, then `objects` with any numbers behind it
unfoldable pub in_order : List (List ℕ) → Bool
in_order words =
    asks (text_bytes "beam") 0 words
    && asks (text_bytes "margin") 2 words
    && asks (text_bytes "home") 4 words
    && asks (text_bytes "slot") 6 words
    && asks (text_bytes "quiesce") 8 words
    && asks (text_bytes "release") 10 words
    && same (word_at 12 words) (text_bytes "objects")
    && all_numbers (drop 13 words)

abbrev pub is_request : List ℕ → Bool
is_request text = leb (length text) text_most && in_order (words_of text)

-- the first nine, and 0 in each place that is left
abbrev pub first_nine : List ℕ → List ℕ
first_nine objects = take 9 (objects ++ replicate 9 0)

-- what the words of a request ask
unfoldable pub asked : List (List ℕ) → Request
asked words =
    record {
      beam = number_of (word_at 1 words);
      margin = number_of (word_at 3 words);
      home = byte_of (word_at 5 words);
      slot = byte_of (word_at 7 words);
      quiesce = number_of (word_at 9 words);
      release = number_of (word_at 11 words);
      objects = first_nine (map byte_of (drop 13 words));
      count = min 9 (length (drop 13 words));
    }

-- what is not read asks nothing
unfoldable pub request_of : List ℕ → Option Request
request_of text = cond (is_request text) (Some (asked (words_of text))) None
