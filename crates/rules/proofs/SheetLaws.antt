-- Laws of the sheet: what is known of a sheet that is taken, and of the part that holds its records. Assumes nothing.
use Rattle.std.specs.Prelude.{ℕ, ◌-◌, ◌%◌, ◌≤◌, ◌<◌, ◌≡◌, refl, Bool, true, false, cond, not, ◌||◌, List, ltb, eqb, length, take, drop, Ok, Err}
use Rattle.std.proofs.Common.{arith, ap, ◌∙◌, ltb-false, eqb-true, length-take, length-drop}
use Rattle.rules.specs.Types.{SheetAnswer, SheetRefusal}
use Rattle.rules.specs.LoopsLaws.{or_left, or_right, not_false}
use Rattle.rules.specs.Sheet.{sheet_most, trailer_at, distance_of, has_mark, sheet_answer, sheet_number, sheet_records}

-- what the four refusals leave
pub record Whole (b : List ℕ) : Type 0 where
  pub most : length b ≤ 65536
  pub least : 8 ≤ length b
  pub mark : has_mark b ≡ true
  pub sixteens : distance_of b % 16 ≡ 0
  pub within : distance_of b ≤ length b - 8

-- a test whose answer is a refusal is false where the sheet is taken, and the next tests decide
passed :
    (t : Bool) (x y : SheetAnswer)
    → 0 < sheet_number x
    → cond t x y ≡ Ok tt
    → (t ≡ false) × (y ≡ Ok tt)
passed true x y h e = absurd (let z : sheet_number x ≡ 0 = ap sheet_number e in omega arith)
passed false x y h e = (refl, e)

-- a sheet that is taken meets none of the four refusals
pub taken_whole : (b : List ℕ) → sheet_answer b ≡ Ok tt → Whole b
unfolding sheet_answer
taken_whole b e =
    let long = passed (ltb sheet_most (length b)) (Err SheetRefusal.TooLong) _ (omega arith) e in
    let short = passed (ltb (length b) 8) (Err SheetRefusal.TooShort) _ (omega arith) long.1 in
    let mark = passed (not (has_mark b)) (Err SheetRefusal.BadMark) _ (omega arith) short.1 in
    let part = not (eqb (distance_of b % 16) 0) in
    let far = ltb (trailer_at b) (distance_of b) in
    let back = passed (part || far) (Err SheetRefusal.BadDistance) _ (omega arith) mark.1 in
    record {
      most = ltb-false sheet_most (length b) long.0;
      least = ltb-false (length b) 8 short.0;
      mark = not_false (has_mark b) mark.0;
      sixteens = eqb-true (distance_of b % 16) 0 (not_false (eqb (distance_of b % 16) 0) (or_left part far back.0));
      within = ltb-false (trailer_at b) (distance_of b) (or_right part far back.0);
    }

-- the records of a sheet that is taken are what lies from the first record to the trailer
pub taken_records :
    (b : List ℕ)
    → sheet_answer b ≡ Ok tt
    → take (trailer_at b - (trailer_at b - distance_of b)) (drop (trailer_at b - distance_of b) b) ≡ sheet_records b
unfolding sheet_records
taken_records b e =
    let all : trailer_at b - (trailer_at b - distance_of b) ≡ distance_of b = omega (arith, (taken_whole b e).within) in
    rw (e, all)

-- they are as long as the distance says
pub taken_length : (b : List ℕ) → sheet_answer b ≡ Ok tt → length (sheet_records b) ≡ distance_of b
unfolding sheet_records
taken_length b e = rw e (simp (length-take, length-drop) (omega (arith, (taken_whole b e).within)))

-- so what is handed back holds whole records, of any sheet
sixteens_of : (a : SheetAnswer) (b : List ℕ) → sheet_answer b ≡ a → length (sheet_records b) % 16 ≡ 0
unfolding sheet_records
sixteens_of (Ok u) b e = ap (λ (n : ℕ). n % 16) (taken_length b e) ∙ (taken_whole b e).sixteens
sixteens_of (Err r) b e = rw e

pub records_sixteens : (b : List ℕ) → length (sheet_records b) % 16 ≡ 0
records_sixteens b = sixteens_of (sheet_answer b) b refl
