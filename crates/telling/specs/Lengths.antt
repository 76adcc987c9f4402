-- At most how long the texts are: a record's line has at most 128 bytes, its place being at most 9,999. Assumes nothing.
use Rattle.std.specs.Prelude.{ℕ, zero, suc, ◌+◌, ◌*◌, ◌/◌, ◌%◌, ◌≤◌, ◌<◌, ◌≡◌, refl, Bool, cond, List, [], ◌∷◌, ◌++◌, ltb, eqb, length, get_or, drop, Ok, Err, Some, None}
use Rattle.std.proofs.Common.{arith, ⊎_elim, lt-ltb, ltb-true, ltb-false, length-append, length-take, length-drop, get_or-take, get_or-drop}
use Rattle.std.proofs.Math.ListN.{get_or-eq_default}
use Rattle.rules.specs.declared.steps.Step.{Step}
use Rattle.rules.specs.Types.{Reading}
use Rattle.rules.specs.declared.steps.SheetRefusal.{SheetRefusal}
use Rattle.rules.specs.Types.{Answer, SheetAnswer}
use Rattle.rules.specs.Answers.{refusal_number}
use Rattle.rules.specs.Listing.{spelt, digits_of, decimal_of}
use Rattle.rules.proofs.ListingLaws.{digits_length}
use Rattle.rules.specs.LoopsLaws.{either, cond_keeps}
use Rattle.rules.specs.Record.{step_of_record}
use Rattle.rules.proofs.RecordLaws.{each_row_at, Bytes16, StepFits, read_fits}
use Rattle.rules.specs.Sheet.{record_at}
use Rattle.words.specs.declared.tokens.Token.{Token}
use Rattle.words.specs.Say.{write_tokens, read_tokens, read_value_tokens, other_tokens, operation_tokens, rest_text, step_text, raw_text, record_by, record_text}
use Rattle.words.proofs.TextLaws.{cond_length, hex_length}
use Rattle.words.specs.Tell.{refusal_phrases, sheet_phrase, accepted_told, refused_told, answer_told, told_line}
use Rattle.telling.specs.Numbers.{numbers_told, numbers_told_line}

-- ---- digits

abbrev ten_to : ℕ → ℕ
ten_to zero = 1
ten_to (suc m) = 10 * ten_to m

-- a number below ten to the m + 1 has at most m + 1 digits
pub digits_few : (k m n : ℕ) → n < 10 * ten_to m → length (digits_of k n) ≤ suc m
unfolding spelt
digits_few zero m n h = omega arith
digits_few (suc k) zero n h = rw (lt-ltb n 10 (omega arith)) (omega arith)
digits_few (suc k) (suc m) n h =
    let r : length (digits_of k (n / 10)) ≤ suc m = digits_few k m (n / 10) (omega arith) in
    cond_length (ltb n 10) ((48 + n) ∷ []) (digits_of k (n / 10) ++ ((48 + n % 10) ∷ [])) (suc (suc m)) (omega arith)
    (rw (length-append (digits_of k (n / 10))) (omega arith))

byte_digits : (n : ℕ) → n < 256 → length (digits_of 10 n) ≤ 3
byte_digits n h = digits_few 10 2 n (omega arith)

handle_digits : (n : ℕ) → n < 65536 → length (digits_of 10 n) ≤ 5
handle_digits n h = digits_few 10 4 n (omega arith)

pub place_digits : (n : ℕ) → n ≤ 9999 → length (decimal_of n) ≤ 4
place_digits n h = digits_few 20 3 n (omega arith)

-- ---- the words of a record

rest_cond : (t : Bool) (x y : List Token) → length (rest_text x) ≤ 42 → length (rest_text y) ≤ 42 → length (rest_text (cond t x y)) ≤ 42
rest_cond = cond_keeps (λ (x : List Token). length (rest_text x) ≤ 42)

-- what an invoke says after its site
operation_length : (write object value : ℕ) → write < 256 → object < 256 → length (rest_text (operation_tokens write object value)) ≤ 42
unfolding spelt
operation_length write object value hw ho =
    let d : length (digits_of 10 write) ≤ 3 = byte_digits write hw in
    let o : length (digits_of 10 object) ≤ 3 = byte_digits object ho in
    let v : length (digits_of 10 value) ≤ 10 = digits_length 10 value in
    rest_cond (eqb write 1) (write_tokens object value) _ (simp (length-append) (omega (arith, o, v)))
    (rest_cond (eqb write 0) (cond (eqb value 0) (read_tokens object) (read_value_tokens object value)) (other_tokens write object value)
    (rest_cond (eqb value 0) (read_tokens object) (read_value_tokens object value) (simp (length-append) (omega (arith, o))) (simp (length-append) (omega (arith, o, v))))
    (simp (length-append) (omega (arith, d, o, v))))

pub step_short : (s : Step) → StepFits s → length (step_text s) ≤ 66
unfolding step_text spelt
step_short (Step.Tick site n) w = simp (length-append) (omega (arith, digits_length 10 site, digits_length 10 n))
step_short (Step.Begin home slot q r) w =
    simp (length-append) (omega (arith, byte_digits home w.a, byte_digits slot w.b, digits_length 10 q, digits_length 10 r))
step_short (Step.Invoke h site write object value) w =
    simp (length-append)
    (omega (arith, handle_digits h w.h, byte_digits site w.a, operation_length write object value w.b w.c))
step_short (Step.Refresh h q r) w = simp (length-append) (omega (arith, digits_length 10 h, digits_length 10 q, digits_length 10 r))
step_short (Step.Terminate h) w = simp (length-append) (omega (arith, digits_length 10 h))
step_short (Step.Prepare h) w = simp (length-append) (omega (arith, digits_length 10 h))
step_short (Step.Ask h site) w = simp (length-append) (omega (arith, digits_length 10 h, digits_length 10 site))
step_short (Step.Close h) w = simp (length-append) (omega (arith, digits_length 10 h))
step_short (Step.Tell h site) w = simp (length-append) (omega (arith, digits_length 10 h, digits_length 10 site))
step_short (Step.Abort h) w = simp (length-append) (omega (arith, digits_length 10 h))
step_short (Step.Deliver m) w = simp (length-append) (omega (arith, digits_length 10 m))
step_short (Step.Drop m) w = simp (length-append) (omega (arith, digits_length 10 m))
step_short (Step.Sweep site) w = simp (length-append) (omega (arith, digits_length 10 site))
step_short (Step.Crash site) w = simp (length-append) (omega (arith, digits_length 10 site))
step_short (Step.Recover site) w = simp (length-append) (omega (arith, digits_length 10 site))
step_short (Step.Retire h) w = simp (length-append) (omega (arith, digits_length 10 h))

raw_short : (b : List ℕ) → length b ≡ 16 → length (raw_text b) ≤ 66
unfolding raw_text spelt
raw_short b e = omega (arith, hex_length b, e)

by_short : (r : Reading) (b : List ℕ) → Bytes16 b → step_of_record b ≡ r → length (record_by r b) ≤ 66
by_short None b w e = raw_short b w.sixteen
by_short (Some s) b w e = step_short s (read_fits b w s e)

-- the words of a record have at most 66 bytes
pub record_short : (b : List ℕ) → Bytes16 b → length (record_text b) ≤ 66
unfolding record_text
record_short b w = by_short (step_of_record b) b w refl

-- a record of a part is sixteen bytes
pub record_bytes : (part : List ℕ) (i : ℕ) → ((k : ℕ) → get_or part k 0 < 256) → 16 * i + 16 ≤ length part → Bytes16 (record_at part i)
record_bytes part i bytes room =
    record {
      sixteen = simp (length-take, length-drop) (omega arith);
      byte = λ k h. rw (get_or-take 16 (drop (16 * i) part) k 0 h, get_or-drop (16 * i) part k 0) (bytes (16 * i + k));
    }

-- ---- the answer

pub accepted_length : (v : ℕ) → length (accepted_told v) ≤ 23
accepted_length v = omega (arith, digits_length 20 v)

-- computed at each place that has a phrase
phrase_told : (n : ℕ) → n < length refusal_phrases → length (refused_told n) ≤ 56
unfolding refusal_phrases spelt
phrase_told n h = each_row_at (λ k. length (refused_told k) ≤ 56) (length refusal_phrases) (omega arith) n h

-- past them there is a number alone
pub refused_length : (n : ℕ) → length (refused_told n) ≤ 56
refused_length n =
    ⊎_elim
    (λ h. phrase_told n (ltb-true n (length refusal_phrases) h))
    (λ h.
    rw (get_or-eq_default refusal_phrases "" (ltb-false n (length refusal_phrases) h))
    (omega (arith, digits_length 20 n, length-append (digits_of 20 n) (32 ∷ []))))
    (either (ltb n (length refusal_phrases)))

pub answer_length : (answer : Answer) → length (answer_told answer) ≤ 56
answer_length (Ok v) = omega (arith, accepted_length v)
answer_length (Err r) = refused_length (refusal_number r)

-- the same of any number and value
pub told_length : (n v : ℕ) → length (numbers_told n v) ≤ 56
told_length n v = cond_length (eqb n 0) (accepted_told v) (refused_told n) 56 (omega (arith, accepted_length v)) (refused_length n)

-- ---- the line of a refused sheet

pub sheet_phrase_length : (a : SheetAnswer) → length (sheet_phrase a) ≤ 17
sheet_phrase_length (Ok u) = omega arith
sheet_phrase_length (Err SheetRefusal.TooLong) = omega arith
sheet_phrase_length (Err SheetRefusal.TooShort) = omega arith
sheet_phrase_length (Err SheetRefusal.BadMark) = omega arith
sheet_phrase_length (Err SheetRefusal.BadDistance) = omega arith

-- ---- the line of a record

pub answer_line_length :
    (place : ℕ) (b : List ℕ) (answer : Answer) → place ≤ 9999 → length (record_text b) ≤ 66 → length (told_line place b answer) ≤ 128
unfolding told_line
answer_line_length place b answer few short =
    simp (length-append) (omega (arith, place_digits place few, short, answer_length answer))

-- the same of any number and value
pub told_line_length :
    (place : ℕ) (b : List ℕ) (n v : ℕ) → place ≤ 9999 → length (record_text b) ≤ 66 → length (numbers_told_line place b n v) ≤ 128
unfolding numbers_told_line
told_line_length place b n v few short =
    simp (length-append) (omega (arith, place_digits place few, short, told_length n v))
