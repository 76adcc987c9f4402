-- What passwrite answers by how reading stopped, and what a text is without its mark. Assumes nothing.
use Rattle.std.specs.Prelude.{Option, Some, None, MatchOption, ℕ, ◌+◌, ◌≤◌, ◌≡◌, refl, Bool, true, false, ◌&&◌, List, [], ◌∷◌, ◌++◌, eqb, length, take, drop}
use Rattle.std.proofs.Common.{◌∙◌, ◌-◌, arith, length-drop}
use denote.Ref.{Bor}
use Rattle.std.specs.Option.{unwrap_or}
use Rattle.std.specs.Cmp.Lexicographic.{pointwise}
use Rattle.words.specs.declared.scan.Fault.{Fault}
use Rattle.words.specs.declared.scan.Reader.{Reader}
use Rattle.words.specs.Scan.{unread, reader_next, read_all, text_read}
use Rattle.words.proofs.ReadLaws.{reader_whole}
use Rattle.std.proofs.Math.Seq.{take_all}
use Rattle.words.specs.Faults.{line_behind, fault_line}
use Rattle.words.specs.Sheets.{trailer_of, answer_text, is_marked, unmarked}

-- all bytes have been read, and one newline more is read at the end
pub reader_done : (text : List ℕ) (n : ℕ) → length text ≤ n → reader_next (read_all unread (take n text)).reader 10 ≡ (text_read text).reader
reader_done text n h = rw (take_all n text h) (reader_whole text)

pub sheet_taken :
    (text : List ℕ) → (text_read text).reader.stop ≡ None
    → (text_read text).records ++ trailer_of (length (text_read text).records) ≡ answer_text text
unfolding answer_text
sheet_taken text e = rw e

-- a text that is refused has the line that names what is wrong
pub refused_line :
    (text : List ℕ) (r : Reader) (f : Fault) → r ≡ (text_read text).reader → r.stop ≡ Some f
    → fault_line (r.lines + 1) f (line_behind r.lines text) ≡ answer_text text
unfolding answer_text
refused_line text r f e s = rw (← e, s)

three_tests : (a b c : Bool) → (a && (b && (c && true))) ≡ ((a && b) && c)
three_tests true true true = refl
three_tests true true false = refl
three_tests true false c = refl
three_tests false b c = refl

-- the three bytes, tested one by one
marked_three : (text : List ℕ) → pointwise eqb (take 3 text) (239 ∷ 187 ∷ 191 ∷ []) ≡ is_marked text
marked_three [] = refl
marked_three (x ∷ []) = three_tests (eqb x 239) false false
marked_three (x ∷ y ∷ []) = three_tests (eqb x 239) (eqb y 187) false
marked_three (x ∷ y ∷ z ∷ text) = three_tests (eqb x 239) (eqb y 187) (eqb z 191)

-- what `strip_prefix` leaves of a text at the mark, or the text
pub mark_stripped :
    (text : List ℕ) (o : Option (Bor (List ℕ))) (d : Bor (List ℕ)) → d.now ≡ text
    → MatchOption o (pointwise eqb (take 3 text) (239 ∷ 187 ∷ 191 ∷ []) ≡ false) (λ x. (pointwise eqb (take 3 text) (239 ∷ 187 ∷ 191 ∷ []) ≡ true) × (x.now ≡ drop 3 text) × (length x.now + 3 ≡ length text))
    → (unwrap_or o d).now ≡ unmarked text
unfolding unmarked
mark_stripped text None d e m = rw (← marked_three text, m) e
mark_stripped text (Some x) d e m = rw (← marked_three text, m.0) m.1

-- the same of what is handed back, and what stands behind the mark, or without one, however it is taken
pub mark_left :
    (text : List ℕ) (o : Option (Bor (List ℕ))) (d r : Bor (List ℕ)) → r ≡ unwrap_or o d → d.now ≡ text
    → MatchOption o (pointwise eqb (take 3 text) (239 ∷ 187 ∷ 191 ∷ []) ≡ false) (λ x. (pointwise eqb (take 3 text) (239 ∷ 187 ∷ 191 ∷ []) ≡ true) × (x.now ≡ drop 3 text) × (length x.now + 3 ≡ length text))
    → r.now ≡ unmarked text
mark_left text o d r e n m = rw e (mark_stripped text o d n m)

pub mark_some : (text : List ℕ) → pointwise eqb (take 3 text) (239 ∷ 187 ∷ 191 ∷ []) ≡ true → drop 3 text ≡ unmarked text
unfolding unmarked
mark_some text m = rw (← marked_three text, m)

pub mark_none : (text : List ℕ) → pointwise eqb (take 3 text) (239 ∷ 187 ∷ 191 ∷ []) ≡ false → text ≡ unmarked text
unfolding unmarked
mark_none text m = rw (← marked_three text, m)

pub mark_cut : (text : List ℕ) → pointwise eqb (take 3 text) (239 ∷ 187 ∷ 191 ∷ []) ≡ true → take (length text - 3) (drop 3 text) ≡ unmarked text
mark_cut text m = take_all (length text - 3) (drop 3 text) (omega (arith, length-drop 3 text)) ∙ mark_some text m
