-- What reading keeps: a record under way has sixteen bytes, and the records so far have sixteen for each one counted. Assumes nothing.
use Rattle.std.specs.Prelude.{Option, None, Some, Ok, Err, ℕ, ◌+◌, ◌*◌, ◌/◌, ◌%◌, ◌≤◌, ◌≡◌, refl, Bool, true, false, cond, ◌&&◌, List, [], ◌∷◌, ltb, eqb, length, get_or}
use Rattle.std.proofs.Common.{arith, ◌∙◌, ⊎_elim, length-append, length-set}
use Rattle.rules.specs.LoopsLaws.{either, cond_keeps}
use Rattle.words.specs.Types.{Said, Slot, Fault, Mode, Scan, Line, Verdict, Reader}
use Rattle.words.specs.Grammar.{edge_count, edge_of, edge_at, slot_at, most_in, raw_node, said, put_two, put_four, slot_stored}
use Rattle.words.specs.Scan.{is_space, is_hash, is_letter, is_digit, hex_value, at, blank, wrong, misplaced, followed, word_taken, filled, number_taken, end_by, end_of, noted_by, noted, hex_taken, hex_next, lettered, numbered, token_begun, byte_by, live_next, next_by, scan_next, verdict_of, line_most, record_most, lines_most, reading, stopped, judged, line_ended, byte_read, next_while, reader_next, gives_record, given, Read, unread, read_next, read_all, text_read}
use Rattle.words.proofs.ReadLaws.{next_count, count_most}

-- ---- a line

list_long : (t : Bool) (xs ys : List ℕ) (n : ℕ) → length xs ≡ n → length ys ≡ n → length (cond t xs ys) ≡ n
list_long t xs ys n = cond_keeps (λ (zs : List ℕ). length zs ≡ n) t xs ys

-- a scan whose record has so many bytes
abbrev Long : Scan → ℕ → Type 0
Long s n = length s.bytes ≡ n

cond_long : (t : Bool) (x y : Scan) (n : ℕ) → Long x n → Long y n → Long (cond t x y) n
cond_long t x y n = cond_keeps (λ (s : Scan). Long s n) t x y

said_long : (says : Option Said) (bytes : List ℕ) → length (said says bytes) ≡ length bytes
said_long None bytes = refl
said_long (Some s) bytes = length-set bytes s.field s.value

stored_long : (f : Slot) (n : ℕ) (bytes : List ℕ) → length (slot_stored f n bytes) ≡ length bytes
stored_long f n bytes =
    list_long (eqb f.width 1) _ _ (length bytes) (length-set bytes f.field n)
    (list_long (eqb f.width 2) (put_two f.field n bytes) (put_four f.field n bytes) (length bytes) (simp length-set) (simp length-set))

word_long : (s : Scan) → Long (word_taken s) (length s.bytes)
unfolding word_taken
word_long s =
    let e = edge_of (edge_at s.node s.token) in
    cond_long (ltb (edge_at s.node s.token) edge_count) (followed s e) (misplaced s) (length s.bytes) (said_long e.says s.bytes) refl

number_long : (s : Scan) → Long (number_taken s) (length s.bytes)
unfolding number_taken
number_long s =
    let f = slot_at s.node in
    cond_long (eqb f.width 0) (misplaced s) (filled s f) (length s.bytes) refl
    (cond_long (ltb (most_in f.width) s.token) (wrong s Fault.TooLarge) (at Mode.Gap 0 f.to s.digits (slot_stored f s.token s.bytes)) (length s.bytes) refl (stored_long f s.token s.bytes))

end_by_long : (m : Mode) (s : Scan) → Long (end_by m s) (length s.bytes)
end_by_long Mode.Gap s = refl
end_by_long Mode.Word s = word_long s
end_by_long Mode.Number s = number_long s
end_by_long Mode.Comment s = refl
end_by_long (Mode.Wrong f) s = refl

pub end_long : (s : Scan) → length (end_of s).bytes ≡ length s.bytes
end_long s = end_by_long s.mode s

noted_by_long : (m : Mode) (s : Scan) → Long (noted_by m s) (length s.bytes)
noted_by_long Mode.Gap s = refl
noted_by_long Mode.Word s = refl
noted_by_long Mode.Number s = refl
noted_by_long Mode.Comment s = refl
noted_by_long (Mode.Wrong f) s = refl

hex_long : (s : Scan) (b : ℕ) → Long (hex_next s b) (length s.bytes)
hex_long s b =
    cond_long (ltb (hex_value b) 16 && ltb s.digits 32) (hex_taken s (hex_value b)) (wrong s Fault.UnknownWord) (length s.bytes)
    (length-set s.bytes (s.digits / 2) (get_or s.bytes (s.digits / 2) 0 % 16 * 16 + hex_value b)) refl

lettered_long : (s : Scan) (b : ℕ) → Long (lettered s b) (length s.bytes)
lettered_long s b = cond_long (ltb 36028797018963967 s.token) _ _ (length s.bytes) refl refl

numbered_long : (s : Scan) (b : ℕ) → Long (numbered s b) (length s.bytes)
numbered_long s b = cond_long (ltb 429496729 s.token) _ _ (length s.bytes) refl refl

byte_by_long : (m : Mode) (s : Scan) (b : ℕ) → Long (byte_by m s b) (length s.bytes)
byte_by_long Mode.Gap s b =
    cond_long (eqb s.node raw_node) (hex_next s b) (token_begun s b) (length s.bytes) (hex_long s b)
    (cond_long (is_letter b) (lettered s b) _ (length s.bytes) (lettered_long s b)
    (cond_long (is_digit b) (numbered s b) _ (length s.bytes) (numbered_long s b) refl))
byte_by_long Mode.Word s b = cond_long (is_letter b) (lettered s b) _ (length s.bytes) (lettered_long s b) refl
byte_by_long Mode.Number s b = cond_long (is_digit b) (numbered s b) _ (length s.bytes) (numbered_long s b) refl
byte_by_long Mode.Comment s b = refl
byte_by_long (Mode.Wrong f) s b = refl

live_long : (s : Scan) (b : ℕ) → Long (live_next s b) (length s.bytes)
live_long s b =
    cond_long (is_space b) (end_of s) _ (length s.bytes) (end_long s)
    (cond_long (is_hash b) (noted (end_of s)) (byte_by s.mode s b) (length s.bytes)
    (noted_by_long (end_of s).mode (end_of s) ∙ end_long s)
    (byte_by_long s.mode s b))

next_by_long : (m : Mode) (s : Scan) (b : ℕ) → Long (next_by m s b) (length s.bytes)
next_by_long Mode.Gap s b = live_long s b
next_by_long Mode.Word s b = live_long s b
next_by_long Mode.Number s b = live_long s b
next_by_long Mode.Comment s b = refl
next_by_long (Mode.Wrong f) s b = refl

pub scan_long : (s : Scan) (b : ℕ) → length (scan_next s b).bytes ≡ length s.bytes
unfolding scan_next
scan_long s b = next_by_long s.mode s b

-- ---- a text

cond_sixteen : (t : Bool) (x y : Reader) → Long x.scan 16 → Long y.scan 16 → Long (cond t x y).scan 16
cond_sixteen = cond_keeps (λ (r : Reader). Long r.scan 16)

judged_sixteen : (r : Reader) (v : Verdict) → Long r.scan 16 → Long (judged r v).scan 16
judged_sixteen r (Ok Line.Blank) h = refl
judged_sixteen r (Ok Line.Record) h = cond_sixteen (ltb r.count record_most) (reading (r.lines + 1) (r.count + 1) 0 blank) (stopped r Fault.TooManyLines) refl h
judged_sixteen r (Err f) h = h

while_sixteen : (stop : Option Fault) (r : Reader) (b : ℕ) → Long r.scan 16 → Long (next_while stop r b).scan 16
while_sixteen None r b h =
    cond_sixteen (eqb b 10) (line_ended r) (byte_read r b)
    (cond_sixteen (ltb r.lines lines_most) (judged r (verdict_of (end_of r.scan))) (stopped r Fault.TooManyLines) (judged_sixteen r (verdict_of (end_of r.scan)) h) h)
    (cond_sixteen (ltb r.length line_most) (reading r.lines r.count (r.length + 1) (scan_next r.scan b)) (stopped r Fault.LineTooLong) (scan_long r.scan b ∙ h) h)
while_sixteen (Some f) r b h = h

pub reader_sixteen : (r : Reader) (b : ℕ) → length r.scan.bytes ≡ 16 → length (reader_next r b).scan.bytes ≡ 16
unfolding reader_next
reader_sixteen r b h = while_sixteen r.stop r b h

-- what is so before a text and stays so
pub record KeptReader (t : Read) : Type 0 where
  pub sixteen : length t.reader.scan.bytes ≡ 16
  pub counted : length t.records ≡ 16 * t.reader.count
  pub most : t.reader.count ≤ 4095

unread_kept : KeptReader unread
unread_kept = record { sixteen = refl; counted = refl; most = omega arith }

next_counted : (t : Read) (b : ℕ) → KeptReader t → length (read_next t b).records ≡ 16 * (read_next t b).reader.count
unfolding read_next given
next_counted t b k =
    ⊎_elim
    (λ (g : gives_record t.reader b ≡ true).
    let more : length (end_of t.reader.scan).bytes ≡ 16 = end_long t.reader.scan ∙ k.sixteen in
    rw (next_count t.reader b, length-append t.records (given t.reader b), g) (omega (arith, k.counted)))
    (λ (g : gives_record t.reader b ≡ false).
    rw (next_count t.reader b, length-append t.records (given t.reader b), g) (omega (arith, k.counted)))
    (either (gives_record t.reader b))

pub next_kept : (t : Read) (b : ℕ) → KeptReader t → KeptReader (read_next t b)
unfolding read_next
next_kept t b k =
    record {
      sixteen = reader_sixteen t.reader b k.sixteen;
      counted = next_counted t b k;
      most = count_most t.reader b k.most;
    }

all_kept : (t : Read) (bs : List ℕ) → KeptReader t → KeptReader (read_all t bs)
unfolding read_all
all_kept t [] k = k
all_kept t (b ∷ bs) k = all_kept (read_next t b) bs (next_kept t b k)

pub text_kept : (text : List ℕ) → KeptReader (text_read text)
unfolding text_read
text_kept text = next_kept (read_all unread text) 10 (all_kept unread text unread_kept)
