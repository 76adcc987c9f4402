-- Numbers in a line: one that fits its field is stored as it is, and one that is too large is an error, not a wrap. Assumes nothing.
use Rattle.std.specs.Prelude.{Err, ℕ, ◌+◌, ◌*◌, ◌-◌, ◌^◌, ◌≤◌, ◌<◌, ◌≡◌, Bool, true, false, ◌||◌, ltb, eqb}
use Rattle.std.proofs.Common.{arith, zero-add, sym, ◌∙◌, true≢false}
use Rattle.std.proofs.Math.Path.{refl, ap, subst}
use Rattle.std.proofs.Math.Logic.{⊎_elim}
use mathlib.Core.List.{List, [], ◌∷◌, ◌++◌}
use borrow.Author.Tests.{ltb-true, ltb-false, lt-ltb, le-ltb, eqb-true}
use Rattle.std.proofs.Math.ListN.{get_or-eq_default}
use Rattle.rules.specs.Loops.{every_up_to}
use Rattle.rules.specs.LoopsLaws.{either, every_at}
use Rattle.rules.proofs.RecordLaws.{Each, each_row_at}
use Rattle.words.specs.Types.{Slot, Fault, Mode, Scan}
use Rattle.words.specs.Grammar.{none, slots, slot_at, most_in, raw_node, slot_stored}
use Rattle.words.specs.Scan.{is_space, is_hash, at, blank, number_taken, end_of, scan_next, scan_all, verdict_by, verdict_of}
use Rattle.words.proofs.Spelling.{end_again, space_ends, wrong_stays, comment_verdict}
use Rattle.words.proofs.ScanLaws.{scan_append, digit_first, digit_more, most_in_lem}

-- ---- how much a field holds

-- one less than 256 for each byte
pub most_in_width : (most_in 1 ≡ 256 ^ 1 - 1) × (most_in 2 ≡ 256 ^ 2 - 1) × (most_in 4 ≡ 256 ^ 4 - 1)
most_in_width = (refl, refl, refl)

abbrev wide : ℕ → Bool
wide node = eqb (slot_at node).width 0 || eqb (most_in (slot_at node).width + 1) (256 ^ (slot_at node).width)

places_wide : every_up_to wide 31 ≡ true
unfolding every_up_to
places_wide = refl

place_wide : (node : ℕ) → wide node ≡ true
place_wide node =
    ⊎_elim
    (λ h. every_at wide 31 places_wide node (ltb-true node 31 h))
    (λ h. ap (λ (s : Slot). eqb s.width 0 || eqb (most_in s.width + 1) (256 ^ s.width)) (get_or-eq_default slots none {n = node} (ltb-false node 31 h)))
    (either (ltb node 31))

pub or_second : (a b : Bool) → (a || b) ≡ true → a ≡ false → b ≡ true
or_second true b e f = absurd (true≢false f)
or_second false b e f = e

-- so it is at each place of the grammar that takes a number
pub most_at_place : (node : ℕ) → eqb (slot_at node).width 0 ≡ false → most_in (slot_at node).width + 1 ≡ 256 ^ (slot_at node).width
most_at_place node takes =
    eqb-true (most_in (slot_at node).width + 1) (256 ^ (slot_at node).width)
    (or_second (eqb (slot_at node).width 0) (eqb (most_in (slot_at node).width + 1) (256 ^ (slot_at node).width)) (place_wide node) takes)

-- the place of `raw` takes none
place_plain : (node : ℕ) → eqb (slot_at node).width 0 ≡ false → eqb node raw_node ≡ false
place_plain node takes =
    ⊎_elim
    (λ (h : eqb node raw_node ≡ true).
    absurd (true≢false (subst (λ (k : ℕ). eqb (slot_at k).width 0 ≡ false) (eqb-true node raw_node h) takes)))
    (λ h. h)
    (either (eqb node raw_node))

-- ---- digits

-- the number that digits give after a number n
abbrev pub value_from : ℕ → List ℕ → ℕ
value_from n [] = n
value_from n (d ∷ ds) = value_from (n * 10 + d) ds

abbrev pub Digits : List ℕ → Type 0
Digits [] = Unit {0}
Digits (d ∷ ds) = (d < 10) × Digits ds

-- in ASCII
abbrev pub digit_text : List ℕ → List ℕ
digit_text [] = []
digit_text (d ∷ ds) = (48 + d) ∷ digit_text ds

value_grows : (ds : List ℕ) (n : ℕ) → n ≤ value_from n ds
value_grows [] n = omega arith
value_grows (d ∷ ds) n = omega (arith, value_grows ds (n * 10 + d))

-- ---- a number at a place that takes one

module _ (node digits : ℕ) (bytes : List ℕ) (takes : eqb (slot_at node).width 0 ≡ false) where
  -- where a number under way ends: too large, or it is stored as it is
  pub ends_large : (n : ℕ) → most_in (slot_at node).width < n → end_of (at Mode.Number n node digits bytes) ≡ at (Mode.Wrong Fault.TooLarge) 0 node digits bytes
  unfolding number_taken
  ends_large n more = rw (takes, lt-ltb (most_in (slot_at node).width) n more)

  pub ends_stored : (n : ℕ) → n ≤ most_in (slot_at node).width → end_of (at Mode.Number n node digits bytes) ≡ at Mode.Gap 0 (slot_at node).to digits (slot_stored (slot_at node) n bytes)
  unfolding number_taken
  ends_stored n most = rw (takes, le-ltb (most_in (slot_at node).width) n most)

  -- a digit after more than four bytes hold
  PastNumber : ℕ → ℕ → Type 0
  PastNumber n d = scan_next (at Mode.Number n node digits bytes) (48 + d) ≡ at (Mode.Wrong Fault.TooLarge) 0 node digits bytes

  pasts : (n : ℕ) → ltb 429496729 n ≡ true → Each (PastNumber n) 10
  unfolding PastNumber scan_next
  pasts n full =
      ((((((((((tt, rw full), rw full), rw full), rw full), rw full), rw full), rw full), rw full), rw full), rw full)

  digit_past : (n d : ℕ) → 429496729 < n → d < 10 → scan_next (at Mode.Number n node digits bytes) (48 + d) ≡ at (Mode.Wrong Fault.TooLarge) 0 node digits bytes
  unfolding PastNumber
  digit_past n d full h = each_row_at (PastNumber n) 10 (pasts n (lt-ltb 429496729 n full)) d h

  -- a digit where there is room
  digit_room : (n d : ℕ) → n ≤ 429496729 → d < 10 → scan_next (at Mode.Number n node digits bytes) (48 + d) ≡ at Mode.Number (n * 10 + d) node digits bytes
  digit_room n d room h = digit_more node digits bytes (place_plain node takes) n (le-ltb 429496729 n room) d h

  -- after a number under way, digits and then its end
  more_large : (ds : List ℕ) (n : ℕ) → Digits ds → most_in (slot_at node).width < value_from n ds → end_of (scan_all (at Mode.Number n node digits bytes) (digit_text ds)) ≡ at (Mode.Wrong Fault.TooLarge) 0 node digits bytes
  unfolding scan_all
  more_large [] n all more = ends_large n more
  more_large (d ∷ ds) n all more =
      ⊎_elim
      (λ h.
      ap (λ (s : Scan). end_of (scan_all s (digit_text ds))) (digit_past n d (ltb-true 429496729 n h) all.0)
      ∙ ap end_of (wrong_stays (digit_text ds) (at (Mode.Wrong Fault.TooLarge) 0 node digits bytes) Fault.TooLarge refl))
      (λ h.
      ap (λ (s : Scan). end_of (scan_all s (digit_text ds))) (digit_room n d (ltb-false 429496729 n h) all.0)
      ∙ more_large ds (n * 10 + d) all.1 more)
      (either (ltb 429496729 n))

  more_read : (ds : List ℕ) (n : ℕ) → Digits ds → value_from n ds ≤ 4294967295 → scan_all (at Mode.Number n node digits bytes) (digit_text ds) ≡ at Mode.Number (value_from n ds) node digits bytes
  unfolding scan_all
  more_read [] n all fits = refl
  more_read (d ∷ ds) n all fits =
      let grows : n * 10 + d ≤ value_from (n * 10 + d) ds = value_grows ds (n * 10 + d) in
      ap (λ (s : Scan). scan_all s (digit_text ds)) (digit_room n d (omega arith) all.0)
      ∙ more_read ds (n * 10 + d) all.1 fits

  -- a first digit, digits of any number, and their end
  pub digits_large :
      (d : ℕ) (ds : List ℕ) → Digits (d ∷ ds) → most_in (slot_at node).width < value_from 0 (d ∷ ds)
      → end_of (scan_all (at Mode.Gap 0 node digits bytes) (digit_text (d ∷ ds))) ≡ at (Mode.Wrong Fault.TooLarge) 0 node digits bytes
  unfolding scan_all
  digits_large d ds all more =
      ap (λ (s : Scan). end_of (scan_all s (digit_text ds))) (digit_first node digits bytes (place_plain node takes) d all.0)
      ∙ more_large ds d all.1 (subst (λ (k : ℕ). most_in (slot_at node).width < value_from k ds) (zero-add d) more)

  pub digits_stored :
      (d : ℕ) (ds : List ℕ) → Digits (d ∷ ds) → value_from 0 (d ∷ ds) ≤ most_in (slot_at node).width
      → end_of (scan_all (at Mode.Gap 0 node digits bytes) (digit_text (d ∷ ds))) ≡ at Mode.Gap 0 (slot_at node).to digits (slot_stored (slot_at node) (value_from 0 (d ∷ ds)) bytes)
  unfolding scan_all
  digits_stored d ds all fits =
      let most : value_from d ds ≤ most_in (slot_at node).width = subst (λ (k : ℕ). value_from k ds ≤ most_in (slot_at node).width) (zero-add d) fits in
      ap (λ (s : Scan). end_of (scan_all s (digit_text ds))) (digit_first node digits bytes (place_plain node takes) d all.0)
      ∙ ap end_of (more_read ds d all.1 (most_in_lem (slot_at node).width (value_from d ds) most))
      ∙ ends_stored (value_from d ds) most
      ∙ ap (λ (k : ℕ). at Mode.Gap 0 (slot_at node).to digits (slot_stored (slot_at node) (value_from k ds) bytes)) (sym (zero-add d))

-- ---- a whole line

-- a number ends where the line does, at a space, and at `#`
abbrev pub Ends : List ℕ → Type 0
Ends [] = Unit {0}
Ends (b ∷ bs) = (is_space b || is_hash b) ≡ true

-- whatever ended with something wrong stays wrong
ended_wrong : (s : Scan) (f : Fault) (rest : List ℕ) → (end_of s).mode ≡ Mode.Wrong f → Ends rest → verdict_of (end_of (scan_all s rest)) ≡ Err f
unfolding scan_all
ended_wrong s f [] e ends = ap (λ (m : Mode). verdict_by m (end_of s)) e
ended_wrong s f (b ∷ bs) e ends =
    ⊎_elim
    (λ (h : is_space b ≡ true).
    ap (λ (x : Scan). verdict_of (end_of (scan_all x bs))) (space_ends s b h)
    ∙ ap (λ (x : Scan). verdict_of (end_of x)) (wrong_stays bs (end_of s) f e)
    ∙ ap verdict_of (end_again s)
    ∙ ap (λ (m : Mode). verdict_by m (end_of s)) e)
    (λ (h : is_space b ≡ false).
    ap (λ (k : ℕ). verdict_of (end_of (scan_all (scan_next s k) bs))) (eqb-true b 35 (or_second (is_space b) (is_hash b) ends h))
    ∙ comment_verdict s bs
    ∙ ap (λ (m : Mode). verdict_by m (end_of s)) e)
    (either (is_space b))

-- "a number too large for its field is an error, not a wrap": at any place that takes a number, with digits of any number, whatever follows
pub too_large :
    (front : List ℕ) (node digits : ℕ) (bytes : List ℕ) (d : ℕ) (ds rest : List ℕ)
    → scan_all blank front ≡ at Mode.Gap 0 node digits bytes
    → eqb (slot_at node).width 0 ≡ false
    → Digits (d ∷ ds)
    → most_in (slot_at node).width < value_from 0 (d ∷ ds)
    → Ends rest
    → verdict_of (end_of (scan_all blank (front ++ (digit_text (d ∷ ds) ++ rest)))) ≡ Err Fault.TooLarge
too_large front node digits bytes d ds rest there takes all more ends =
    ap (λ (s : Scan). verdict_of (end_of s)) (
    scan_append blank front (digit_text (d ∷ ds) ++ rest)
    ∙ ap (λ (s : Scan). scan_all s (digit_text (d ∷ ds) ++ rest)) there
    ∙ scan_append (at Mode.Gap 0 node digits bytes) (digit_text (d ∷ ds)) rest
    )
    ∙ ended_wrong (scan_all (at Mode.Gap 0 node digits bytes) (digit_text (d ∷ ds))) Fault.TooLarge rest
    (ap (λ (s : Scan). s.mode) (digits_large node digits bytes takes d ds all more)) ends
