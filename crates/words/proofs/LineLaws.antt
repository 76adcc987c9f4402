-- Where a line stands in a text: its number, and that the line behind so many others is the one under way. Assumes nothing.
use Rattle.std.specs.Prelude.{Option, None, Some, Ok, Err, ℕ, zero, suc, ◌+◌, ◌≡◌, refl, Bool, true, false, cond, List, [], ◌∷◌, ◌++◌, ltb, eqb, length}
use Rattle.std.proofs.Common.{arith, add-zero, zero-add, sym, ap, ◌∙◌, subst, ⊎_elim, append_assoc, eqb-true, length-append}
use Rattle.rules.specs.Loops.{one_if}
use Rattle.rules.specs.LoopsLaws.{either, cond_keeps}
use Rattle.words.specs.Types.{Fault, Line, Verdict, Reader}
use Rattle.words.specs.Scan.{blank, scan_next, end_of, verdict_of, line_most, record_most, lines_most, reading, stopped, judged, line_ended, byte_read, next_while, reader_next, Read, unread, read_next, read_all}
use Rattle.words.specs.Faults.{lines_past, up_to_newline, line_behind}
use Rattle.words.proofs.TextLaws.{OneLine, going}

-- ---- one byte more

-- where reading goes on, a newline ends a line and no other byte does; where it stops, the line is the one under way
abbrev pub LinedBy : Option Fault → Reader → Reader → Bool → Type 0
LinedBy None now before newline =
    (now.lines ≡ before.lines + one_if newline) × (now.length ≡ cond newline 0 (before.length + 1))
LinedBy (Some f) now before newline = now.lines ≡ before.lines

abbrev Lined : Reader → Reader → Bool → Type 0
Lined now before newline = LinedBy now.stop now before newline

cond_lined : (t : Bool) (x y r : Reader) (newline : Bool) → Lined x r newline → Lined y r newline → Lined (cond t x y) r newline
cond_lined t x y r newline = cond_keeps (λ (z : Reader). Lined z r newline) t x y

judged_lined : (r : Reader) (v : Verdict) → Lined (judged r v) r true
judged_lined r (Ok Line.Blank) = (refl, refl)
judged_lined r (Ok Line.Record) = cond_lined (ltb r.count record_most) (reading (r.lines + 1) (r.count + 1) 0 blank) (stopped r Fault.TooManyLines) r true (refl, refl) refl
judged_lined r (Err f) = refl

end_lined : (r : Reader) → Lined (line_ended r) r true
end_lined r = cond_lined (ltb r.lines lines_most) (judged r (verdict_of (end_of r.scan))) (stopped r Fault.TooManyLines) r true (judged_lined r (verdict_of (end_of r.scan))) refl

byte_lined : (r : Reader) (b : ℕ) → Lined (byte_read r b) r false
byte_lined r b = cond_lined (ltb r.length line_most) (reading r.lines r.count (r.length + 1) (scan_next r.scan b)) (stopped r Fault.LineTooLong) r false (sym (add-zero r.lines), refl) refl

newline_lined : (newline : Bool) (r : Reader) (b : ℕ) → Lined (cond newline (line_ended r) (byte_read r b)) r newline
newline_lined true r b = end_lined r
newline_lined false r b = byte_lined r b

next_lined : (r : Reader) (b : ℕ) → r.stop ≡ None → Lined (reader_next r b) r (eqb b 10)
unfolding reader_next
next_lined r b e = subst (λ (s : Option Fault). Lined (next_while s r b) r (eqb b 10)) (sym e) (newline_lined (eqb b 10) r b)

-- by whether reading goes on after it
pub lined_by : (stop : Option Fault) (r : Reader) (b : ℕ) → r.stop ≡ None → (reader_next r b).stop ≡ stop → LinedBy stop (reader_next r b) r (eqb b 10)
lined_by stop r b e g = subst (λ (s : Option Fault). LinedBy s (reader_next r b) r (eqb b 10)) g (next_lined r b e)

-- after something wrong nothing is read
pub stopped_stays : (t : Read) (bs : List ℕ) (f : Fault) → t.reader.stop ≡ Some f → (read_all t bs).reader ≡ t.reader
unfolding read_all read_next reader_next
stopped_stays t [] f e = refl
stopped_stays t (b ∷ bs) f e =
    let same : (read_next t b).reader ≡ t.reader = ap (λ (s : Option Fault). next_while s t.reader b) e in
    stopped_stays (read_next t b) bs f (ap (λ (r : Reader). r.stop) same ∙ e) ∙ same

-- ---- a line in a text

-- up to its newline
line_whole : (line rest : List ℕ) → OneLine line → up_to_newline (line ++ (10 ∷ rest)) ≡ line
unfolding up_to_newline
line_whole [] rest one = refl
line_whole (b ∷ line) rest one = rw (one.0, line_whole line rest one.1)

-- past it
past_line : (k : ℕ) (line rest : List ℕ) → OneLine line → lines_past (suc k) (line ++ (10 ∷ rest)) ≡ lines_past k rest
unfolding lines_past
past_line k [] rest one = refl
past_line k (b ∷ line) rest one = rw one.0 (past_line k line rest one.1)

pub past_none : (k : ℕ) → lines_past k [] ≡ []
unfolding lines_past
past_none zero = refl
past_none (suc k) = refl

cond_both : {A : Type 0} (t : Bool) {x y u v : A} → x ≡ u → y ≡ v → cond t x y ≡ cond t u v
cond_both true p q = p
cond_both false p q = q

-- the text's last line needs no newline
pub last_newline : (k : ℕ) (text : List ℕ) → line_behind k (text ++ (10 ∷ [])) ≡ line_behind k text
unfolding lines_past up_to_newline
last_newline zero [] = refl
last_newline zero (b ∷ text) = cond_both (eqb b 10) refl (ap (λ (l : List ℕ). b ∷ l) (last_newline zero text))
last_newline (suc k) [] = ap up_to_newline (past_none k)
last_newline (suc k) (b ∷ text) = ⊎_elim
    (λ (h : eqb b 10 ≡ true). rw h (last_newline k text))
    (λ (h : eqb b 10 ≡ false). rw h (last_newline (suc k) text))
    (either (eqb b 10))

-- ---- the line under way

-- bytes that are read and stand behind `under`, the bytes of the line under way; then the line under way is `now`
record Under (t : Read) (under bytes : List ℕ) : Type 0 where
  now : List ℕ
  ended : ℕ
  one : OneLine now
  long : (read_all t bytes).reader.length ≡ length now
  lines : (read_all t bytes).reader.lines ≡ t.reader.lines + ended
  found : (rest : List ℕ) → lines_past ended (under ++ (bytes ++ rest)) ≡ now ++ rest

one_line_more : (under : List ℕ) (b : ℕ) → OneLine under → eqb b 10 ≡ false → OneLine (under ++ (b ∷ []))
one_line_more [] b one other = (other, tt)
one_line_more (x ∷ under) b one other = (one.0, one_line_more under b one.1 other)

byte_under :
    (newline : Bool) (t : Read) (under : List ℕ) (b : ℕ) (bytes : List ℕ) → eqb b 10 ≡ newline → OneLine under
    → t.reader.length ≡ length under → LinedBy None (reader_next t.reader b) t.reader newline
    → ((next : List ℕ) → OneLine next → (reader_next t.reader b).length ≡ length next → Under (read_next t b) next bytes)
    → Under t under (b ∷ bytes)
unfolding read_all read_next lines_past
byte_under true t under b bytes e one long lined more =
    let u : Under (read_next t b) [] bytes = more [] tt lined.1 in
    let l : (read_all (read_next t b) bytes).reader.lines ≡ (reader_next t.reader b).lines + u.ended = u.lines in
    record {
      now = u.now;
      ended = suc u.ended;
      one = u.one;
      long = u.long;
      lines = omega (arith, l, lined.0);
      found = λ rest.
          ap (λ (x : ℕ). lines_past (suc u.ended) (under ++ (x ∷ (bytes ++ rest)))) (eqb-true b 10 e)
          ∙ past_line u.ended under (bytes ++ rest) one
          ∙ u.found rest;
    }
byte_under false t under b bytes e one long lined more =
    let u : Under (read_next t b) (under ++ (b ∷ [])) bytes = more (under ++ (b ∷ [])) (one_line_more under b one e) (rw (length-append under (b ∷ [])) (omega (arith, lined.1, long))) in
    let l : (read_all (read_next t b) bytes).reader.lines ≡ (reader_next t.reader b).lines + u.ended = u.lines in
    record {
      now = u.now;
      ended = u.ended;
      one = u.one;
      long = u.long;
      lines = omega (arith, l, lined.0);
      found = λ rest. ap (λ (x : List ℕ). lines_past u.ended x) (sym (append_assoc under (b ∷ []) (bytes ++ rest))) ∙ u.found rest;
    }

under_by :
    (stop : Option Fault) (t : Read) (under : List ℕ) (b : ℕ) (bytes : List ℕ) → t.reader.stop ≡ None → OneLine under
    → t.reader.length ≡ length under → (reader_next t.reader b).stop ≡ stop
    → (read_all (read_next t b) bytes).reader.stop ≡ None
    → ((next : List ℕ) → (reader_next t.reader b).stop ≡ None → OneLine next → (reader_next t.reader b).length ≡ length next → Under (read_next t b) next bytes)
    → Under t under (b ∷ bytes)
unfolding read_next
under_by None t under b bytes e one long g a more =
    byte_under (eqb b 10) t under b bytes refl one long (lined_by None t.reader b e g) (λ next. more next g)
under_by (Some f) t under b bytes e one long g a more =
    let stays : (read_all (read_next t b) bytes).reader ≡ reader_next t.reader b = stopped_stays (read_next t b) bytes f g in
    absurd (let z : ◌≡◌ {A = ℕ} 0 1 = cc in omega arith)

under_way :
    (bytes : List ℕ) (t : Read) (under : List ℕ) → t.reader.stop ≡ None → OneLine under
    → t.reader.length ≡ length under → (read_all t bytes).reader.stop ≡ None → Under t under bytes
unfolding read_all read_next lines_past
under_way [] t under e one long a =
    record {
      now = under;
      ended = 0;
      one = one;
      long = long;
      lines = omega arith;
      found = λ rest. refl;
    }
under_way (b ∷ bytes) t under e one long a =
    under_by (reader_next t.reader b).stop t under b bytes e one long refl a (λ next g o l. under_way bytes (read_next t b) next g o l a)

none_long : (l : List ℕ) → 0 ≡ length l → l ≡ []
none_long [] e = refl
none_long (b ∷ l) e = absurd (omega arith)

-- behind lines that were read, the next line is found
pub line_found :
    (front line rest : List ℕ) (lines count : ℕ) (records : List ℕ) → read_all unread front ≡ going lines count 0 blank records → OneLine line
    → line_behind lines (front ++ (line ++ (10 ∷ rest))) ≡ line
line_found front line rest lines count records well one =
    let u : Under unread [] front = under_way front unread [] refl tt refl (ap (λ (t : Read). t.reader.stop) well) in
    let here : u.now ≡ [] = none_long u.now (ap (λ (t : Read). t.reader.length) (sym well) ∙ u.long) in
    let number : lines ≡ u.ended = ap (λ (t : Read). t.reader.lines) (sym well) ∙ u.lines ∙ zero-add u.ended in
    ap (λ (k : ℕ). line_behind k (front ++ (line ++ (10 ∷ rest)))) number
    ∙ ap up_to_newline (u.found (line ++ (10 ∷ rest)) ∙ ap (λ (l : List ℕ). l ++ (line ++ (10 ∷ rest))) here)
    ∙ line_whole line rest one
