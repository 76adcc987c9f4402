-- At most how long a looked-up line is, and at most how many widths a check gives. Assumes nothing.
use Rattle.std.specs.Prelude.{ℕ, suc, ◌&&◌, ◌++◌, ◌+◌, ◌≤◌, ◌≡◌, refl, List, [], ◌∷◌, ltb, eqb, length}
use Rattle.std.proofs.Common.{arith, length-append, ltb-false}
use Rattle.rules.specs.LoopsLaws.{cond_keeps, or_right}
use Rattle.rules.specs.declared.tables.Tables.{Tables}
use Rattle.names.specs.Names.{ahead, lines_of, matches, first_match, line_for}
use Rattle.names.proofs.HandedBack.{station_first, company_next}
use Rattle.rules.specs.Listing.{decimal_of}
use Rattle.rules.proofs.ListingLaws.{digits_length}
use Rattle.words.specs.Say.{text_bytes}
use Rattle.telling.specs.Lengths.{accepted_length}
use Rattle.reporting.specs.Report.{name_for, own_name, width_told, read_told}
use Rattle.clearing.specs.Question.{listed}
use Rattle.clearing.specs.declared.OwnRefusal.{OwnRefusal}
use Rattle.clearing.specs.declared.Cleared.{Cleared}
use Rattle.clearing.specs.Clearing.{is_begun, cleared_of}
use Rattle.clearing.specs.Ends.{Ends}
use Rattle.clearing.proofs.Ends.{ends}

-- ---- a line is at most as long as its list

abbrev total : List (List ℕ) → ℕ
total [] = 0
total (line ∷ lines) = length line + total lines

ahead_total : (b : ℕ) (lines : List (List ℕ)) → total (ahead (b ∷ []) lines) ≤ suc (total lines)
ahead_total b [] = omega arith
ahead_total b (line ∷ lines) = omega arith

lines_total : (list : List ℕ) → total (lines_of list) ≤ length list
unfolding lines_of
lines_total [] = omega arith
lines_total (b ∷ list) =
    cond_keeps (λ (lines : List (List ℕ)). total lines ≤ suc (length list)) (eqb b 10) ([] ∷ lines_of list) (ahead (b ∷ []) (lines_of list))
    (omega (arith, lines_total list))
    (omega (arith, lines_total list, ahead_total b (lines_of list)))

first_total : (object : ℕ) (lines : List (List ℕ)) → length (first_match object lines) ≤ total lines
unfolding first_match
first_total object [] = omega arith
first_total object (line ∷ lines) =
    cond_keeps (λ (l : List ℕ). length l ≤ total (line ∷ lines)) (matches object line) line (first_match object lines) (omega arith)
    (omega (arith, first_total object lines))

match_short : (object : ℕ) (list : List ℕ) (most : ℕ) → length list ≤ most → length (first_match object (lines_of list)) ≤ most
match_short object list most h = omega (arith, first_total object (lines_of list), lines_total list)

module _ (station company : List ℕ) (object most : ℕ) (s : length station ≤ most) (c : length company ≤ most) where
  short_by : (own : List ℕ) → first_match object (lines_of station) ≡ own → length (line_for station company object) ≤ most
  short_by [] e = rw (company_next station company object e) (match_short object company most c)
  short_by (b ∷ own) e = rw (station_first station company object (rw e (omega arith))) (match_short object station most s)

  -- the looked-up line is at most as long as the longer list
  pub line_short : length (line_for station company object) ≤ most
  line_short = short_by (first_match object (lines_of station)) refl

  -- and so is what an object is told by, where that is twenty bytes or more
  pub name_short : 20 ≤ most → length (name_for station company object) ≤ most
  name_short h =
      cond_keeps (λ (l : List ℕ). length l ≤ most) (eqb (length (line_for station company object)) 0) (decimal_of object) (line_for station company object)
      (omega (arith, h, digits_length 20 object))
      line_short

-- ---- the line of a width, and what is said of a read

module _ (station company : List ℕ) where
  pub width_length :
      (object width : ℕ) → length station ≤ 16384 → length company ≤ 16384 → length (width_told station company object width) ≤ 16448
  unfolding width_told
  width_length object width s c =
      simp (length-append) (omega (arith, accepted_length width, name_short station company object 16384 s c (omega arith)))

  pub read_length :
      (objects : List ℕ) (cleared : Cleared) → length station ≤ 16384 → length company ≤ 16384
      → length (read_told station company objects cleared) ≤ 16389
  unfolding read_told
  read_length objects cleared s c =
      cond_keeps (λ (l : List ℕ). length l ≤ 16389) (is_begun cleared && ltb cleared.read (length objects))
      (text_bytes " for " ++ name_for station company (listed objects cleared.read)) []
      (omega (arith, name_short station company (listed objects cleared.read) 16384 s c (omega arith)))
      (omega arith)

-- ---- the own refusals

pub own_name_length : (own : OwnRefusal) → length (own_name own) ≤ 6
own_name_length OwnRefusal.Beam = omega arith
own_name_length OwnRefusal.Margin = omega arith
own_name_length OwnRefusal.List = omega arith
own_name_length OwnRefusal.Object = omega arith
own_name_length OwnRefusal.Twice = omega arith

-- ---- a check gives at most eight widths, and none for which there is no object

module _ (t : Tables) (beam margin : ℕ) (objects : List ℕ) (home slot quiesce release : ℕ) where
  few_by : (c : Cleared) → Ends t beam margin objects home slot quiesce release c → (c.count ≤ 8) × (c.count ≤ length objects)
  few_by c (Ends.Refused own e) = rw e (omega arith, omega arith)
  few_by c (Ends.Unbegun r b e) = rw e (omega arith, omega arith)
  few_by c (Ends.GivenUp v r b w e) = rw e (omega arith, omega arith)
  few_by c (Ends.Committed v u fair b w e) =
      rw e (ltb-false 8 (length objects) (or_right (eqb (length objects) 0) (ltb 8 (length objects)) fair.list_fair), omega arith)

  pub few_widths :
      ((cleared_of t beam margin objects home slot quiesce release).count ≤ 8)
      × ((cleared_of t beam margin objects home slot quiesce release).count ≤ length objects)
  few_widths = few_by _ (ends t beam margin objects home slot quiesce release)
