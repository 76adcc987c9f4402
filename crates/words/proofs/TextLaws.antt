-- Any list of records survives the trip to words and back. Assumes nothing.
-- First that no line of the writer holds a newline, and how long it is; then one line; then all of them.
use Rattle.std.specs.Prelude.{ℕ, zero, suc, ◌+◌, ◌*◌, ◌/◌, ◌%◌, ◌≤◌, ◌<◌, ◌≡◌, refl, Bool, true, false, cond, List, [], ◌∷◌, ◌++◌, ltb, eqb, length, Some, None}
use Rattle.std.proofs.Common.{arith, add-zero, zero-add, ap, ◌∙◌, append-nil, append_assoc, lt-ltb, ne_eqb, length-append}
use Rattle.rules.specs.Loops.{joined}
use Rattle.rules.specs.LoopsLaws.{cond_keeps}
use Rattle.rules.specs.Listing.{spelt}
use Rattle.rules.proofs.ListingLaws.{spelt_length, digits_length}
use Rattle.rules.specs.Record.{step_of_record}
use Rattle.rules.proofs.RecordLaws.{Bytes16}
use Rattle.words.specs.Types.{Scan, Step, Reading}
use Rattle.words.specs.Grammar.{raw_word}
use Rattle.words.specs.Scan.{blank, scan_next, scan_all, Read, reading, reader_next, gives_record, given, read_next, read_all, text_read}
use Rattle.words.specs.Say.{Token, letters_of, word_text, token_text, rest_text, write_tokens, read_tokens, read_value_tokens, other_tokens, operation_tokens, first_word, more_tokens, step_text, hex_digit, hex_text, raw_text, record_by, record_text, lines_text}
use Rattle.words.proofs.StepLaws.{Says}
use Rattle.words.proofs.RecordLaws.{record_says}

-- ---- the writer's bytes are no newlines

abbrev pub PlainText : List ℕ → Type 0
PlainText [] = Unit {0}
PlainText (b ∷ bs) = (10 < b) × PlainText bs

plain_append : (xs ys : List ℕ) → PlainText xs → PlainText ys → PlainText (xs ++ ys)
plain_append [] ys p q = q
plain_append (x ∷ xs) ys p q = (p.0, plain_append xs ys p.1 q)

plain_cond : (t : Bool) (xs ys : List ℕ) → PlainText xs → PlainText ys → PlainText (cond t xs ys)
plain_cond = cond_keeps PlainText

plain_spelt : (base first k n : ℕ) → 10 < first → PlainText (spelt base first k n)
unfolding spelt
plain_spelt base first zero n h = tt
plain_spelt base first (suc k) n h =
    plain_cond (ltb n base) ((first + n) ∷ []) (spelt base first k (n / base) ++ ((first + n % base) ∷ [])) (omega arith, tt)
    (plain_append (spelt base first k (n / base)) ((first + n % base) ∷ []) (plain_spelt base first k (n / base) h) (omega arith, tt))

plain_word : (w : ℕ) → PlainText (word_text w)
plain_word w = plain_spelt 32 96 9 w (omega arith)

plain_token : (t : Token) → PlainText (token_text t)
plain_token (Token.Word w) = plain_word w
plain_token (Token.Number n) = plain_spelt 10 48 10 n (omega arith)

plain_rest : (ts : List Token) → PlainText (rest_text ts)
plain_rest [] = tt
plain_rest (t ∷ ts) = (omega arith, plain_append (token_text t) (rest_text ts) (plain_token t) (plain_rest ts))

hex_past : (t : Bool) (d : ℕ) → 10 < cond t (48 + d) (87 + d)
hex_past true d = omega arith
hex_past false d = omega arith

plain_hex : (xs : List ℕ) → PlainText (hex_text xs)
unfolding hex_text
plain_hex [] = tt
plain_hex (x ∷ xs) =
    (hex_past (ltb (x / 16) 10) (x / 16), (hex_past (ltb (x % 16) 10) (x % 16), plain_hex xs))

plain_by : (r : Reading) (b : List ℕ) → PlainText (record_by r b)
unfolding step_text raw_text
plain_by None b = plain_append (word_text raw_word) (32 ∷ hex_text b) (plain_word raw_word) (omega arith, plain_hex b)
plain_by (Some s) b =
    plain_append (word_text (first_word s)) (rest_text (more_tokens s)) (plain_word (first_word s)) (plain_rest (more_tokens s))

pub plain_record : (b : List ℕ) → PlainText (record_text b)
unfolding record_text
plain_record b = plain_by (step_of_record b) b

-- so they are the bytes of one line
abbrev pub OneLine : List ℕ → Type 0
OneLine [] = Unit {0}
OneLine (b ∷ bs) = (eqb b 10 ≡ false) × OneLine bs

plain_one : (xs : List ℕ) → PlainText xs → OneLine xs
plain_one [] p = tt
plain_one (x ∷ xs) p = (let past : 10 < x = p.0 in ne_eqb x 10 (λ e. omega arith), plain_one xs p.1)

-- ---- how long they are

pub cond_length : {A : Type 0} (t : Bool) (xs ys : List A) (k : ℕ) → length xs ≤ k → length ys ≤ k → length (cond t xs ys) ≤ k
cond_length t xs ys k = cond_keeps (λ zs. length zs ≤ k) t xs ys

pub letters_length : (k w : ℕ) → length (letters_of k w) ≤ k
letters_length = spelt_length 32 96

pub token_length : (t : Token) → length (token_text t) ≤ 10
token_length (Token.Word w) = let r : length (letters_of 9 w) ≤ 9 = letters_length 9 w in omega arith
token_length (Token.Number n) = digits_length 10 n

rest_length : (ts : List Token) → length (rest_text ts) ≤ 11 * length ts
rest_length [] = omega arith
rest_length (t ∷ ts) =
    rw (length-append (token_text t) (rest_text ts)) (omega (arith, token_length t, rest_length ts))

operation_count : (write object value : ℕ) → length (operation_tokens write object value) ≤ 6
operation_count write object value =
    cond_length (eqb write 1) (write_tokens object value) (cond (eqb write 0) (cond (eqb value 0) (read_tokens object) (read_value_tokens object value)) (other_tokens write object value)) 6 (omega arith)
    (cond_length (eqb write 0) (cond (eqb value 0) (read_tokens object) (read_value_tokens object value)) (other_tokens write object value) 6
    (cond_length (eqb value 0) (read_tokens object) (read_value_tokens object value) 6 (omega arith) (omega arith))
    (omega arith))

more_count : (s : Step) → length (more_tokens s) ≤ 9
more_count (Step.Tick site n) = omega arith
more_count (Step.Begin home slot q r) = omega arith
more_count (Step.Invoke h site write object value) = omega (arith, operation_count write object value)
more_count (Step.Refresh h q r) = omega arith
more_count (Step.Terminate h) = omega arith
more_count (Step.Prepare h) = omega arith
more_count (Step.Ask h site) = omega arith
more_count (Step.Close h) = omega arith
more_count (Step.Tell h site) = omega arith
more_count (Step.Abort h) = omega arith
more_count (Step.Deliver m) = omega arith
more_count (Step.Drop m) = omega arith
more_count (Step.Sweep site) = omega arith
more_count (Step.Crash site) = omega arith
more_count (Step.Recover site) = omega arith
more_count (Step.Retire h) = omega arith

pub step_length : (s : Step) → length (step_text s) ≤ 108
unfolding step_text
step_length s =
    rw (length-append (word_text (first_word s)) (rest_text (more_tokens s)))
    (omega (arith, letters_length 9 (first_word s), rest_length (more_tokens s), more_count s))

pub hex_length : (xs : List ℕ) → length (hex_text xs) ≡ 2 * length xs
unfolding hex_text
hex_length [] = refl
hex_length (x ∷ xs) = let r : length (hex_text xs) ≡ 2 * length xs = hex_length xs in omega arith

raw_length : (b : List ℕ) → length b ≡ 16 → length (raw_text b) ≤ 108
unfolding raw_text
raw_length b e =
    rw (length-append (word_text raw_word) (32 ∷ hex_text b)) (omega (arith, letters_length 9 raw_word, hex_length b, e))

by_length : (r : Reading) (b : List ℕ) → length b ≡ 16 → length (record_by r b) ≤ 108
by_length None b e = raw_length b e
by_length (Some s) b e = step_length s

-- no line of the writer is longer than 108 bytes, its newline apart
pub record_length : (b : List ℕ) → length b ≡ 16 → length (record_text b) ≤ 108
unfolding record_text
record_length b e = by_length (step_of_record b) b e

-- ---- one line

pub read_append : (t : Read) (xs ys : List ℕ) → read_all t (xs ++ ys) ≡ read_all (read_all t xs) ys
unfolding read_all
read_append t [] ys = refl
read_append t (x ∷ xs) ys = read_append (read_next t x) xs ys

abbrev pub going : ℕ → ℕ → ℕ → Scan → List ℕ → Read
going lines count n s records = record { reader = reading lines count n s; records = records }

byte_read_lem :
    (b lines count n : ℕ) (s : Scan) (records : List ℕ) → eqb b 10 ≡ false → n < 1000
    → read_next (going lines count n s records) b ≡ going lines count (n + 1) (scan_next s b) records
unfolding read_next reader_next gives_record given
byte_read_lem b lines count n s records other room = rw (other, lt-ltb n 1000 room, append-nil records)

pub line_bytes :
    (xs : List ℕ) (lines count n : ℕ) (s : Scan) (records : List ℕ) → OneLine xs → n + length xs ≤ 1000
    → read_all (going lines count n s records) xs ≡ going lines count (n + length xs) (scan_all s xs) records
unfolding read_all scan_all
line_bytes [] lines count n s records p room = rw add-zero
line_bytes (x ∷ xs) lines count n s records p room =
    let last : n + 1 + length xs ≡ n + suc (length xs) = omega arith in
    ap (λ (t : Read). read_all t xs) (byte_read_lem x lines count n s records p.0 (omega arith))
    ∙ line_bytes xs lines count (n + 1) (scan_next s x) records p.1 (omega arith)
    ∙ ap (λ (k : ℕ). going lines count k (scan_all (scan_next s x) xs) records) last

newline_read :
    (text bytes : List ℕ) (lines count n : ℕ) (records : List ℕ) → Says text bytes → count < 4095 → lines < 1000000
    → read_next (going lines count n (scan_all blank text) records) 10 ≡ going (lines + 1) (count + 1) 0 blank (records ++ bytes)
unfolding read_next reader_next gives_record given
newline_read text bytes lines count n records says room few =
    rw (lt-ltb lines 1000000 few, says.ends, says.gives, lt-ltb count 4095 room)

-- a line that says a record adds it to the records
pub line_read :
    (text bytes rest : List ℕ) (lines count : ℕ) (records : List ℕ) → Says text bytes → OneLine text → length text ≤ 1000 → count < 4095 → lines < 1000000
    → read_all (going lines count 0 blank records) (text ++ (10 ∷ rest))
    ≡ read_all (going (lines + 1) (count + 1) 0 blank (records ++ bytes)) rest
unfolding read_all
line_read text bytes rest lines count records says plain short room few =
    read_append (going lines count 0 blank records) text (10 ∷ rest)
    ∙ ap (λ (t : Read). read_all (read_next t 10) rest) (line_bytes text lines count 0 blank records plain (omega arith))
    ∙ ap (λ (t : Read). read_all t rest) (newline_read text bytes lines count (0 + length text) records says room few)

-- ---- all of them

abbrev pub Records : List (List ℕ) → Type 0
Records [] = Unit {0}
Records (b ∷ bs) = Bytes16 b × Records bs

pub lines_read :
    (bs : List (List ℕ)) (lines count : ℕ) (records : List ℕ) → Records bs → count + length bs ≤ 4095 → lines + length bs < 1000000
    → read_all (going lines count 0 blank records) (lines_text bs)
    ≡ going (lines + length bs) (count + length bs) 0 blank (records ++ joined bs)
unfolding read_all lines_text
lines_read [] lines count records w room few = rw (add-zero lines, add-zero count, append-nil)
lines_read (b ∷ bs) lines count records w room few =
    let l : lines + 1 + length bs ≡ lines + suc (length bs) = omega arith in
    let c : count + 1 + length bs ≡ count + suc (length bs) = omega arith in
    let short : length (record_text b) ≤ 108 = record_length b w.0.sixteen in
    line_read (record_text b) b (lines_text bs) lines count records (record_says b w.0) (plain_one (record_text b) (plain_record b)) (omega arith) (omega arith) (omega arith)
    ∙ lines_read bs (lines + 1) (count + 1) (records ++ b) w.1 (omega arith) (omega arith)
    ∙ ap (λ (k : ℕ). going k (count + 1 + length bs) 0 blank ((records ++ b) ++ joined bs)) l
    ∙ ap (λ (k : ℕ). going (lines + suc (length bs)) k 0 blank ((records ++ b) ++ joined bs)) c
    ∙ ap (λ (r : List ℕ). going (lines + suc (length bs)) (count + suc (length bs)) 0 blank r) (append_assoc records b (joined bs))

-- "any sheet's records survive the trip to words and back"
pub text_read_lem :
    (bs : List (List ℕ)) → Records bs → length bs ≤ 4095
    → text_read (lines_text bs) ≡ going (length bs + 1) (length bs) 0 blank (joined bs)
unfolding text_read read_next reader_next gives_record given
text_read_lem bs w room = rw (lines_read bs 0 0 [] w (omega arith) (omega arith), zero-add (length bs), lt-ltb (length bs) 1000000 (omega arith), append-nil (joined bs))

-- how long the text is: each line has its newline
pub lines_length : (bs : List (List ℕ)) → Records bs → length (lines_text bs) ≤ 109 * length bs
unfolding lines_text
lines_length [] w = omega arith
lines_length (b ∷ bs) w =
    let short : length (record_text b) ≤ 108 = record_length b w.0.sixteen in
    rw (length-append (record_text b) (10 ∷ lines_text bs)) (omega (arith, lines_length bs w.1))

-- ---- one word or number, or one byte in hex, more

pub rest_more : (ts : List Token) (t : Token) → rest_text (ts ++ (t ∷ [])) ≡ rest_text ts ++ (32 ∷ token_text t)
rest_more [] t = rw (append-nil (token_text t))
rest_more (u ∷ us) t = rw (rest_more us t, ← append_assoc (token_text u) (rest_text us) (32 ∷ token_text t))

pub hex_more : (xs : List ℕ) (x : ℕ) → hex_text (xs ++ (x ∷ [])) ≡ hex_text xs ++ (hex_digit (x / 16) ∷ hex_digit (x % 16) ∷ [])
unfolding hex_text
hex_more [] x = refl
hex_more (y ∷ ys) x = rw (hex_more ys x)
