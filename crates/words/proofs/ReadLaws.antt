-- Laws of reading a text byte by byte, for the loops that do it. Assumes nothing.
use Rattle.std.specs.Prelude.{Option, None, Some, Ok, Err, ℕ, ◌+◌, ◌≤◌, ◌<◌, ◌≡◌, Bool, true, false, cond, ◌&&◌, List, [], ◌∷◌, ◌++◌, ltb, eqb, length, get_or, take}
use Rattle.std.proofs.Common.{arith, add-one, ap, ⊎_elim, ltb-true, take-suc}
use Rattle.std.proofs.Math.Nat.{add-zero}
use Rattle.std.proofs.Math.Path.{refl}
use Rattle.rules.specs.Loops.{one_if}
use Rattle.rules.specs.LoopsLaws.{and_right, either, cond_keeps}
use Rattle.words.specs.Types.{Fault, Line, Verdict, Reader}
use Rattle.words.specs.Scan.{blank, scan_next, reading, stopped, is_going, says_record, verdict_of, end_of, line_most, record_most, lines_most, reader_next, gives_record, given, Read, unread, read_next, read_all, text_read}
use Rattle.words.proofs.TextLaws.{read_append}

-- ---- the count of records grows by one where a record is given

same_count : (t : Bool) (x y : Reader) (n : ℕ) → x.count ≡ n → y.count ≡ n → (cond t x y).count ≡ n
same_count t x y n = cond_keeps (λ (r : Reader). r.count ≡ n) t x y

one_count : (t : Bool) (x y : Reader) (n : ℕ) → x.count ≡ n + 1 → y.count ≡ n → (cond t x y).count ≡ n + one_if t
one_count true x y n p q = p
one_count false x y n p q = rw add-zero q

abbrev CountsOn : Reader → ℕ → Type 0
CountsOn r b = (reader_next r b).count ≡ r.count + one_if (gives_record r b)

module _ (r : Reader) (b : ℕ) (going : r.stop ≡ None) where
  byte_counts : eqb b 10 ≡ false → CountsOn r b
  unfolding reader_next gives_record
  byte_counts e =
      rw (going, e, add-zero r.count)
      (same_count (ltb r.length line_most) (reading r.lines r.count (r.length + 1) (scan_next r.scan b)) (stopped r Fault.LineTooLong) r.count refl refl)

  many_counts : eqb b 10 ≡ true → ltb r.lines lines_most ≡ false → CountsOn r b
  unfolding reader_next gives_record
  many_counts e l = rw (going, e, l, add-zero r.count)

  line_counts : (v : Verdict) → eqb b 10 ≡ true → ltb r.lines lines_most ≡ true → verdict_of (end_of r.scan) ≡ v → CountsOn r b
  unfolding reader_next gives_record
  line_counts (Ok Line.Blank) e l w = rw (going, e, l, w, add-zero r.count)
  line_counts (Err f) e l w = rw (going, e, l, w, add-zero r.count)
  line_counts (Ok Line.Record) e l w =
      rw (going, e, l, w)
      (one_count (ltb r.count record_most) (reading (r.lines + 1) (r.count + 1) 0 blank) (stopped r Fault.TooManyLines) r.count refl refl)

  going_counts : CountsOn r b
  going_counts =
      ⊎_elim
      (λ e.
      ⊎_elim
      (λ l. line_counts (verdict_of (end_of r.scan)) e l refl)
      (λ l. many_counts e l)
      (either (ltb r.lines lines_most)))
      (λ e. byte_counts e)
      (either (eqb b 10))

counts_by : (stop : Option Fault) (r : Reader) (b : ℕ) → r.stop ≡ stop → CountsOn r b
unfolding reader_next gives_record
counts_by None r b e = going_counts r b e
counts_by (Some f) r b e = rw (e, add-zero r.count)

pub next_count : (r : Reader) (b : ℕ) → (reader_next r b).count ≡ r.count + one_if (gives_record r b)
next_count r b = counts_by r.stop r b refl

-- and there is room for it
pub gives_room : (r : Reader) (b : ℕ) → gives_record r b ≡ true → r.count < 4095
unfolding gives_record
gives_room r b e = ltb-true r.count record_most (and_right (is_going r.stop && eqb b 10 && ltb r.lines lines_most && says_record (verdict_of (end_of r.scan))) (ltb r.count record_most) e)

pub count_most : (r : Reader) (b : ℕ) → r.count ≤ 4095 → (reader_next r b).count ≤ 4095
count_most r b h =
    ⊎_elim
    (λ (g : gives_record r b ≡ true). let l : r.count < 4095 = gives_room r b g in rw (next_count r b, g) (omega arith))
    (λ (g : gives_record r b ≡ false). rw (next_count r b, g) (omega arith))
    (either (gives_record r b))

-- ---- one byte more of a text

pub read_more :
    (t : Read) (text : List ℕ) (i : ℕ) → i < length text
    → read_next (read_all t (take i text)) (get_or text i 0) ≡ read_all t (take (i + 1) text)
unfolding read_all
read_more t text i h = rw (add-one i, take-suc text i 0 h, read_append t (take i text) (get_or text i 0 ∷ []))

pub reader_more :
    (t : Read) (text : List ℕ) (i : ℕ) → i < length text
    → reader_next (read_all t (take i text)).reader (get_or text i 0) ≡ (read_all t (take (i + 1) text)).reader
unfolding read_next
reader_more t text i h = ap (λ (x : Read). x.reader) (read_more t text i h)

pub records_more :
    (t : Read) (text : List ℕ) (i : ℕ) → i < length text
    → (read_all t (take i text)).records ++ given (read_all t (take i text)).reader (get_or text i 0) ≡ (read_all t (take (i + 1) text)).records
unfolding read_next
records_more t text i h = ap (λ (x : Read). x.records) (read_more t text i h)

-- ---- the whole text, and one newline more

pub reader_whole : (text : List ℕ) → reader_next (read_all unread text).reader 10 ≡ (text_read text).reader
unfolding text_read read_next
reader_whole text = refl

pub records_whole : (text : List ℕ) → (read_all unread text).records ++ given (read_all unread text).reader 10 ≡ (text_read text).records
unfolding text_read read_next
records_whole text = refl
