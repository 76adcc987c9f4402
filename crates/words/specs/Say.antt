-- The writer: the words of a step, the line of a record, the text of a list of records. Assumes nothing.
use Rattle.std.specs.Prelude.{ℕ, ◌+◌, ◌/◌, ◌%◌, cond, List, [], ◌∷◌, ◌++◌, ltb, eqb, Some, None}
use Prim.Native.Char.{code}
use Prim.Native.String.{String, [] as no_more, ◌∷◌ as ◌then◌}
use Rattle.rules.specs.Listing.{spelt, digits_of}
use Rattle.rules.specs.Record.{step_of_record}
pub use Rattle.words.specs.declared.tokens.Token.{Token}
use Rattle.words.specs.Types.{Step, Reading}
use Rattle.words.specs.Grammar.{tick_word, begin_word, invoke_word, refresh_word, terminate_word, prepare_word, ask_word, close_word, tell_word, abort_word, deliver_word, drop_word, sweep_word, crash_word, recover_word, retire_word, raw_word, by_word, home_word, slot_word, quiesce_word, release_word, at_word, read_word, write_word, operation_word, object_word, value_word}

-- the bytes of a text in plain letters, one for each
abbrev pub text_bytes : String → List ℕ
text_bytes no_more = []
text_bytes (letter then more) = code letter ∷ text_bytes more

-- a word's letters, of which there are at most k
abbrev pub letters_of : ℕ → ℕ → List ℕ
letters_of k w = spelt 32 96 k w

-- no word of the grammar has more than nine letters, and no field's number more than ten digits
abbrev pub word_text : ℕ → List ℕ
word_text w = letters_of 9 w

abbrev pub number_text : ℕ → List ℕ
number_text n = digits_of 10 n

abbrev pub token_text : Token → List ℕ
token_text (Token.Word w) = word_text w
token_text (Token.Number n) = number_text n

-- each further one after a single space
abbrev pub rest_text : List Token → List ℕ
rest_text [] = []
rest_text (t ∷ ts) = 32 ∷ (token_text t ++ rest_text ts)

-- ---- the words of a step

-- what an invoke does with which object
abbrev pub object_tokens : ℕ → List Token → List Token
object_tokens object more = Token.Word object_word ∷ Token.Number object ∷ more

abbrev pub value_tokens : ℕ → List Token
value_tokens value = Token.Word value_word ∷ Token.Number value ∷ []

abbrev pub write_tokens : ℕ → ℕ → List Token
write_tokens object value = Token.Word write_word ∷ object_tokens object (value_tokens value)

abbrev pub read_tokens : ℕ → List Token
read_tokens object = Token.Word read_word ∷ object_tokens object []

-- a read's value is said where it is not 0
abbrev pub read_value_tokens : ℕ → ℕ → List Token
read_value_tokens object value = Token.Word read_word ∷ object_tokens object (value_tokens value)

-- neither read nor write: the number itself
abbrev pub other_tokens : ℕ → ℕ → ℕ → List Token
other_tokens write object value = Token.Word operation_word ∷ Token.Number write ∷ object_tokens object (value_tokens value)

-- "b=0 read or 1 write, c=object, u=value (0 for read)"
abbrev pub operation_tokens : ℕ → ℕ → ℕ → List Token
operation_tokens write object value =
    cond
    (eqb write 1)
    (write_tokens object value)
    (cond
    (eqb write 0)
    (cond (eqb value 0) (read_tokens object) (read_value_tokens object value))
    (other_tokens write object value))

abbrev pub first_word : Step → ℕ
first_word (Step.Tick site n) = tick_word
first_word (Step.Begin home slot q r) = begin_word
first_word (Step.Invoke h site write object value) = invoke_word
first_word (Step.Refresh h q r) = refresh_word
first_word (Step.Terminate h) = terminate_word
first_word (Step.Prepare h) = prepare_word
first_word (Step.Ask h site) = ask_word
first_word (Step.Close h) = close_word
first_word (Step.Tell h site) = tell_word
first_word (Step.Abort h) = abort_word
first_word (Step.Deliver m) = deliver_word
first_word (Step.Drop m) = drop_word
first_word (Step.Sweep site) = sweep_word
first_word (Step.Crash site) = crash_word
first_word (Step.Recover site) = recover_word
first_word (Step.Retire h) = retire_word

abbrev pub more_tokens : Step → List Token
more_tokens (Step.Tick site n) = Token.Number site ∷ Token.Word by_word ∷ Token.Number n ∷ []
more_tokens (Step.Begin home slot q r) =
    Token.Word home_word ∷ Token.Number home ∷ Token.Word slot_word ∷ Token.Number slot ∷ Token.Word quiesce_word ∷ Token.Number q ∷ Token.Word release_word ∷ Token.Number r ∷ []
more_tokens (Step.Invoke h site write object value) =
    Token.Number h ∷ Token.Word at_word ∷ Token.Number site ∷ operation_tokens write object value
more_tokens (Step.Refresh h q r) =
    Token.Number h ∷ Token.Word quiesce_word ∷ Token.Number q ∷ Token.Word release_word ∷ Token.Number r ∷ []
more_tokens (Step.Terminate h) = Token.Number h ∷ []
more_tokens (Step.Prepare h) = Token.Number h ∷ []
more_tokens (Step.Ask h site) = Token.Number h ∷ Token.Word at_word ∷ Token.Number site ∷ []
more_tokens (Step.Close h) = Token.Number h ∷ []
more_tokens (Step.Tell h site) = Token.Number h ∷ Token.Word at_word ∷ Token.Number site ∷ []
more_tokens (Step.Abort h) = Token.Number h ∷ []
more_tokens (Step.Deliver m) = Token.Number m ∷ []
more_tokens (Step.Drop m) = Token.Number m ∷ []
more_tokens (Step.Sweep site) = Token.Number site ∷ []
more_tokens (Step.Crash site) = Token.Number site ∷ []
more_tokens (Step.Recover site) = Token.Number site ∷ []
more_tokens (Step.Retire h) = Token.Number h ∷ []

unfoldable pub step_text : Step → List ℕ
step_text s = word_text (first_word s) ++ rest_text (more_tokens s)

-- ---- the line of a record

abbrev pub hex_digit : ℕ → ℕ
hex_digit d = cond (ltb d 10) (48 + d) (87 + d)

unfoldable pub hex_text : List ℕ → List ℕ
hex_text [] = []
hex_text (x ∷ xs) = hex_digit (x / 16) ∷ hex_digit (x % 16) ∷ hex_text xs

unfoldable pub raw_text : List ℕ → List ℕ
raw_text bytes = word_text raw_word ++ (32 ∷ hex_text bytes)

abbrev pub record_by : Reading → List ℕ → List ℕ
record_by None bytes = raw_text bytes
record_by (Some s) bytes = step_text s

-- words where the record stands for a step, else `raw`
unfoldable pub record_text : List ℕ → List ℕ
record_text bytes = record_by (step_of_record bytes) bytes

-- a newline after each
unfoldable pub lines_text : List (List ℕ) → List ℕ
lines_text [] = []
lines_text (b ∷ bs) = record_text b ++ (10 ∷ lines_text bs)
