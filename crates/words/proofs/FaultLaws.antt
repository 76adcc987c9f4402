-- What the line that names a fault says: the very word in which the fault fell, and what its place in the grammar takes. Assumes nothing.
use Rattle.std.specs.Prelude.{ℕ, zero, suc, ◌≡◌, Bool, true, false, cond, ◌||◌, ltb, eqb, take}
use Prim.Native.String.{String}
use Rattle.std.proofs.Common.{arith, ◌∙◌, ⊎_elim, eqb-true}
use Rattle.std.proofs.Math.Path.{refl, ap}
use mathlib.Core.List.{List, [], ◌∷◌, ◌++◌, map}
use Rattle.rules.specs.Loops.{sum_up_to, first_up_to}
use Rattle.rules.specs.Listing.{spelt, decimal_of}
use Rattle.rules.specs.LoopsLaws.{either, cond_keeps}
use Rattle.words.specs.Types.{Fault, Mode, Scan}
use Rattle.words.specs.Grammar.{edge_count, edge_of, edge_at, slot_at, most_in, raw_node}
use Rattle.words.specs.Scan.{is_space, is_hash, is_letter, is_digit, at, blank, wrong, misplaced, followed, word_taken, filled, number_taken, end_by, end_of, noted_by, lettered, numbered, next_by, scan_next, scan_all, reader_next, gives_record, given, read_next, read_all, text_read}
use Rattle.words.specs.Say.{text_bytes}
use Rattle.words.specs.Faults.{from_by, fault_from, fault_in, no_word, shown_byte, shown_up_to, choices_up_to, choices_text, expected_at, place_in, lines_past, up_to_newline, fault_line}
use Rattle.words.specs.Sheets.{answer_text, unmarked, sheet_text}
use Rattle.words.proofs.Spelling.{end_again, space_ends, hash_ends, wrong_stays}
use Rattle.words.proofs.ScanLaws.{scan_append}
use Rattle.words.proofs.NumberLaws.{or_second, Ends}

-- ---- what is expected at each place of the grammar

abbrev places : List ℕ
places =
    0 ∷ 1 ∷ 2 ∷ 3 ∷ 4 ∷ 5 ∷ 6 ∷ 7 ∷ 8 ∷ 9 ∷ 10 ∷ 11 ∷ 12 ∷ 13 ∷ 14 ∷ 15 ∷ 16 ∷ 17 ∷ 18 ∷ 19 ∷ 20 ∷ 21 ∷ 22 ∷ 23 ∷ 24 ∷ 25 ∷ 26 ∷ 27 ∷ 28 ∷ 29 ∷ 30 ∷ []

pub expected_everywhere :
    map expected_at places
    ≡ map text_bytes (
    "a step" ∷ "nothing"
    -- the last number of a line; tick
    ∷ "a number" ∷ "a number" ∷ "a number" ∷ "a number" ∷ "by" ∷ "a number"
    -- begin
    ∷ "home" ∷ "a number" ∷ "slot" ∷ "a number" ∷ "quiesce" ∷ "a number" ∷ "release" ∷ "a number"
    -- refresh; ask and tell; invoke
    ∷ "a number"
    ∷ "a number" ∷ "at"
    ∷ "a number" ∷ "at" ∷ "a number" ∷ "read, write or operation"
    -- read; operation; write
    ∷ "object" ∷ "a number" ∷ "value or nothing"
    ∷ "a number"
    ∷ "object" ∷ "a number" ∷ "value"
    -- raw
    ∷ "32 hex digits"
    ∷ [])
unfolding expected_at choices_text choices_up_to sum_up_to spelt
expected_everywhere = refl

-- ---- the forms, each of a text's third line

abbrev third_line : String → List ℕ
third_line line = text_bytes "tick 0 by 1" ++ (10 ∷ 10 ∷ []) ++ text_bytes line

pub forms :
    map (λ (line : String). sheet_text (third_line line)) (
    "begn home 0"
    ∷ "begin home 0 slot 0 quiece 5"
    ∷ "begin # at station 0"
    ∷ "sweep"
    ∷ [])
    ≡ map (λ (answer : String). text_bytes answer ++ (10 ∷ [])) (
    "line 3: unknown word 'begn', a step expected"
    ∷ "line 3: missing field at 'quiece', quiesce expected"
    ∷ "line 3: missing field, home expected"
    ∷ "line 3: missing field, a number expected"
    ∷ [])
unfolding sheet_text unmarked answer_text text_read read_all read_next reader_next gives_record given scan_next word_taken edge_at first_up_to number_taken fault_line spelt lines_past up_to_newline fault_from scan_all shown_up_to expected_at choices_text choices_up_to sum_up_to
forms = refl

-- ---- where the fault fell

-- after something wrong the place stays
wrong_from : (xs from : List ℕ) (s : Scan) (f : Fault) → s.mode ≡ Mode.Wrong f → fault_from s from xs ≡ from
unfolding fault_from scan_next
wrong_from [] from s f e = rw e
wrong_from (x ∷ xs) from s f e =
    let same : scan_next s x ≡ s = ap (λ (m : Mode). next_by m s x) e in
    ap (λ (y : Scan). fault_from y (from_by y.mode from xs) xs) same
    ∙ ap (λ (m : Mode). fault_from s (from_by m from xs) xs) e
    ∙ wrong_from xs from s f e

-- behind a gap it is what follows
gap_from :
    (x : ℕ) (xs ys from : List ℕ) (s : Scan) → (scan_all s (x ∷ xs)).mode ≡ Mode.Gap
    → fault_from s from (x ∷ (xs ++ ys)) ≡ fault_from (scan_all s (x ∷ xs)) ys ys
unfolding fault_from scan_all
gap_from x [] ys from s e = ap (λ (m : Mode). fault_from (scan_next s x) (from_by m from ys) ys) e
gap_from x (y ∷ xs) ys from s e = gap_from y xs ys (from_by (scan_next s x).mode from (y ∷ (xs ++ ys))) (scan_next s x) e

fault_behind :
    (front rest : List ℕ) → (scan_all blank front).mode ≡ Mode.Gap
    → fault_from blank (front ++ rest) (front ++ rest) ≡ fault_from (scan_all blank front) rest rest
unfolding scan_all
fault_behind [] rest e = refl
fault_behind (x ∷ xs) rest e = gap_from x xs rest (x ∷ (xs ++ rest)) blank e

-- at the line's end nothing stood there
end_from : (xs from : List ℕ) (s : Scan) → (end_of (scan_all s xs)).mode ≡ Mode.Gap → fault_from s from xs ≡ []
unfolding fault_from scan_all
end_from [] from s e = rw e
end_from (x ∷ xs) from s e = end_from xs (from_by (scan_next s x).mode from xs) (scan_next s x) e

comment_from : (xs from : List ℕ) (s : Scan) → (end_of (scan_all s xs)).mode ≡ Mode.Comment → fault_from s from xs ≡ []
unfolding fault_from scan_all
comment_from [] from s e = rw e
comment_from (x ∷ xs) from s e = comment_from xs (from_by (scan_next s x).mode from xs) (scan_next s x) e

pub fault_at_end : (line : List ℕ) → (end_of (scan_all blank line)).mode ≡ Mode.Gap → fault_in line ≡ []
fault_at_end line e = end_from line line blank e

pub fault_at_comment : (line : List ℕ) → (end_of (scan_all blank line)).mode ≡ Mode.Comment → fault_in line ≡ []
fault_at_comment line e = comment_from line line blank e

-- ---- bytes without a space

abbrev pub Solid : List ℕ → Type 0
Solid [] = Unit {0}
Solid (b ∷ bs) = (is_space b ≡ false) × (is_hash b ≡ false) × Solid bs

shown_solid : (k : ℕ) (word rest : List ℕ) → Solid word → Ends rest → shown_up_to k (word ++ rest) ≡ take k (map shown_byte word)
unfolding shown_up_to
shown_solid zero word rest solid ends = refl
shown_solid (suc k) [] [] solid ends = refl
shown_solid (suc k) [] (b ∷ rest) solid ends = rw ends
shown_solid (suc k) (b ∷ word) rest solid ends = rw (solid.0, solid.1, shown_solid k word rest solid.2 ends)

-- ---- a word or a number in which the fault fell

-- a word or a number is under way at this place, or something was wrong there
abbrev HeldBy : Mode → ℕ → ℕ → Type 0
HeldBy Mode.Gap here node = ⊥
HeldBy Mode.Word here node = here ≡ node
HeldBy Mode.Number here node = here ≡ node
HeldBy Mode.Comment here node = ⊥
HeldBy (Mode.Wrong f) here node = here ≡ node

abbrev HeldAt : ℕ → Scan → Type 0
HeldAt node s = HeldBy s.mode s.node node

cond_held : (node : ℕ) (t : Bool) (x y : Scan) → HeldAt node x → HeldAt node y → HeldAt node (cond t x y)
cond_held node = cond_keeps (HeldAt node)

lettered_held : (node : ℕ) (s : Scan) (b : ℕ) → s.node ≡ node → HeldAt node (lettered s b)
lettered_held node s b h = cond_held node (ltb 36028797018963967 s.token) _ _ h h

numbered_held : (node : ℕ) (s : Scan) (b : ℕ) → s.node ≡ node → HeldAt node (numbered s b)
numbered_held node s b h = cond_held node (ltb 429496729 s.token) _ _ h h

-- its first byte
first_held : (node digits : ℕ) (bytes : List ℕ) (b : ℕ) → eqb node raw_node ≡ false → is_space b ≡ false → is_hash b ≡ false → HeldAt node (scan_next (at Mode.Gap 0 node digits bytes) b)
unfolding scan_next
first_held node digits bytes b plain space hash =
    let s = at Mode.Gap 0 node digits bytes in
    rw (space, hash, plain)
    (cond_held node (is_letter b) (lettered s b) _ (lettered_held node s b refl)
    (cond_held node (is_digit b) (numbered s b) _ (numbered_held node s b refl) refl))

-- a byte more
more_by : (m : Mode) (node : ℕ) (s : Scan) (b : ℕ) → s.mode ≡ m → is_space b ≡ false → is_hash b ≡ false → HeldBy m s.node node → HeldAt node (next_by m s b)
more_by Mode.Gap node s b e space hash h = absurd h
more_by Mode.Word node s b e space hash h =
    rw (space, hash, e) (cond_held node (is_letter b) (lettered s b) _ (lettered_held node s b h) h)
more_by Mode.Number node s b e space hash h =
    rw (space, hash, e) (cond_held node (is_digit b) (numbered s b) _ (numbered_held node s b h) h)
more_by Mode.Comment node s b e space hash h = absurd h
more_by (Mode.Wrong f) node s b e space hash h = rw e h

more_held : (node : ℕ) (s : Scan) (b : ℕ) → is_space b ≡ false → is_hash b ≡ false → HeldAt node s → HeldAt node (scan_next s b)
unfolding scan_next
more_held node s b space hash h = more_by s.mode node s b refl space hash h

all_held : (bs : List ℕ) (node : ℕ) (s : Scan) → Solid bs → HeldAt node s → HeldAt node (scan_all s bs)
unfolding scan_all
all_held [] node s solid h = h
all_held (b ∷ bs) node s solid h = all_held bs node (scan_next s b) solid.2 (more_held node s b solid.0 solid.1 h)

-- so it began where it began
held_stays : (m : Mode) (here node : ℕ) (from rest : List ℕ) → HeldBy m here node → from_by m from rest ≡ from
held_stays Mode.Gap here node from rest h = absurd h
held_stays Mode.Word here node from rest h = refl
held_stays Mode.Number here node from rest h = refl
held_stays Mode.Comment here node from rest h = absurd h
held_stays (Mode.Wrong f) here node from rest h = refl

held_at_from : (bs rest from : List ℕ) (node : ℕ) (s : Scan) → Solid bs → HeldAt node s → fault_from s from (bs ++ rest) ≡ fault_from (scan_all s bs) from rest
unfolding fault_from scan_all
held_at_from [] rest from node s solid h = refl
held_at_from (b ∷ bs) rest from node s solid h =
    let next : HeldAt node (scan_next s b) = more_held node s b solid.0 solid.1 h in
    ap (λ (l : List ℕ). fault_from (scan_next s b) l (bs ++ rest)) (held_stays (scan_next s b).mode (scan_next s b).node node from (bs ++ rest) next)
    ∙ held_at_from bs rest from node (scan_next s b) solid.2 next

gap_wrong : (f : Fault) → Mode.Gap ≡ Mode.Wrong f → ⊥
gap_wrong f e = let z : ◌≡◌ {A = ℕ} 0 1 = cc in omega arith

cond_wrong : (t : Bool) (x y : Scan) (node : ℕ) (f : Fault) → (x.mode ≡ Mode.Wrong f → x.node ≡ node) → (y.mode ≡ Mode.Wrong f → y.node ≡ node) → (cond t x y).mode ≡ Mode.Wrong f → (cond t x y).node ≡ node
cond_wrong t x y node f = cond_keeps (λ (s : Scan). s.mode ≡ Mode.Wrong f → s.node ≡ node) t x y

-- where it ends and is wrong, its place in the grammar is the one where it stood
wrong_by : (m : Mode) (node : ℕ) (s : Scan) (f : Fault) → s.mode ≡ m → HeldBy m s.node node → (end_by m s).mode ≡ Mode.Wrong f → (end_by m s).node ≡ node
unfolding word_taken number_taken
wrong_by Mode.Gap node s f e h w = absurd h
wrong_by Mode.Word node s f e h w =
    cond_wrong (ltb (edge_at s.node s.token) edge_count) (followed s (edge_of (edge_at s.node s.token))) (misplaced s) node f (λ x. absurd (gap_wrong f x)) (λ x. h) w
wrong_by Mode.Number node s f e h w =
    cond_wrong (eqb (slot_at s.node).width 0) (misplaced s) (filled s (slot_at s.node)) node f (λ x. h)
    (cond_wrong (ltb (most_in (slot_at s.node).width) s.token) (wrong s Fault.TooLarge) _ node f (λ x. h) (λ x. absurd (gap_wrong f x))) w
wrong_by Mode.Comment node s f e h w = absurd h
wrong_by (Mode.Wrong g) node s f e h w = h

wrong_held : (node : ℕ) (s : Scan) (f : Fault) → HeldAt node s → (end_of s).mode ≡ Mode.Wrong f → (end_of s).node ≡ node
wrong_held node s f h w = wrong_by s.mode node s f refl h w

-- what follows it changes nothing
end_there : (s : Scan) (b : ℕ) (f : Fault) → (end_of s).mode ≡ Mode.Wrong f → (is_space b || is_hash b) ≡ true → scan_next s b ≡ end_of s
end_there s b f e ends =
    ⊎_elim
    (λ (h : is_space b ≡ true). space_ends s b h)
    (λ (h : is_space b ≡ false).
    ap (λ (k : ℕ). scan_next s k) (eqb-true b 35 (or_second (is_space b) (is_hash b) ends h))
    ∙ hash_ends s
    ∙ ap (λ (m : Mode). noted_by m (end_of s)) e)
    (either (is_space b))

ended_from : (s : Scan) (rest from : List ℕ) (f : Fault) → (end_of s).mode ≡ Mode.Wrong f → Ends rest → fault_from s from rest ≡ from
unfolding fault_from
ended_from s [] from f e ends = rw e
ended_from s (b ∷ rest) from f e ends =
    ap (λ (x : Scan). fault_from x (from_by x.mode from rest) rest) (end_there s b f e ends)
    ∙ ap (λ (m : Mode). fault_from (end_of s) (from_by m from rest) rest) e
    ∙ wrong_from rest from (end_of s) f e

ended_node : (s : Scan) (rest : List ℕ) (f : Fault) → (end_of s).mode ≡ Mode.Wrong f → Ends rest → (end_of (scan_all s rest)).node ≡ (end_of s).node
unfolding scan_all
ended_node s [] f e ends = refl
ended_node s (b ∷ rest) f e ends =
    ap (λ (x : Scan). (end_of (scan_all x rest)).node) (end_there s b f e ends)
    ∙ ap (λ (x : Scan). (end_of x).node) (wrong_stays rest (end_of s) f e)
    ∙ ap (λ (x : Scan). x.node) (end_again s)

-- what a line with a fault says of it: the bytes that stood there, and the place of the grammar at which they stood
pub record Names (line word : List ℕ) (node : ℕ) : Type 0 where
  pub there : no_word (fault_in line) ≡ false
  pub shown : shown_up_to 20 (fault_in line) ≡ take 20 (map shown_byte word)
  pub place : place_in line ≡ node

-- it is the word or number in which the fault fell, and its place is the one at which that stood
-- `front` is the line before it, and ends in a gap at this place
module _ (front rest : List ℕ) (node digits : ℕ) (bytes : List ℕ) (f : Fault)
    (reached : scan_all blank front ≡ at Mode.Gap 0 node digits bytes) (ends : Ends rest) where
  pub fault_in_word :
      (word : List ℕ) → eqb node raw_node ≡ false → Solid word → (end_of (scan_all (at Mode.Gap 0 node digits bytes) word)).mode ≡ Mode.Wrong f
      → Names (front ++ (word ++ rest)) word node
  unfolding scan_all fault_from
  fault_in_word [] plain solid e = absurd (gap_wrong f e)
  fault_in_word (b ∷ word) plain solid e =
      let gap = at Mode.Gap 0 node digits bytes in
      let first : HeldAt node (scan_next gap b) = first_held node digits bytes b plain solid.0 solid.1 in
      let last : HeldAt node (scan_all (scan_next gap b) word) = all_held word node (scan_next gap b) solid.2 first in
      let line = b ∷ (word ++ rest) in
      let here : fault_from blank (front ++ line) (front ++ line) ≡ line =
      fault_behind front line (ap (λ (s : Scan). s.mode) reached)
      ∙ ap (λ (s : Scan). fault_from s line line) reached
      ∙ ap (λ (l : List ℕ). fault_from (scan_next gap b) l (word ++ rest)) (held_stays (scan_next gap b).mode (scan_next gap b).node node line (word ++ rest) first)
      ∙ held_at_from word rest line node (scan_next gap b) solid.2 first
      ∙ ended_from (scan_all (scan_next gap b) word) rest line f e ends in
      let place : (end_of (scan_all blank (front ++ line))).node ≡ node =
      ap (λ (s : Scan). (end_of s).node) (scan_append blank front line ∙ ap (λ (s : Scan). scan_all s line) reached ∙ scan_append (scan_next gap b) word rest)
      ∙ ended_node (scan_all (scan_next gap b) word) rest f e ends
      ∙ wrong_held node (scan_all (scan_next gap b) word) f last e in
      record {
        there = rw (here, solid.0, solid.1);
        shown = ap (λ (l : List ℕ). shown_up_to 20 l) here ∙ shown_solid 20 (b ∷ word) rest solid ends;
        place = place;
      }

  -- in `raw` it is the byte that is no digit, or one too many, and what stands behind it
  pub fault_in_raw :
      (b : ℕ) (more : List ℕ) → Solid (b ∷ more) → scan_next (at Mode.Gap 0 node digits bytes) b ≡ wrong (at Mode.Gap 0 node digits bytes) f
      → Names (front ++ (b ∷ (more ++ rest))) (b ∷ more) node
  unfolding scan_all fault_from
  fault_in_raw b more solid e =
      let gap = at Mode.Gap 0 node digits bytes in
      let line = b ∷ (more ++ rest) in
      let here : fault_from blank (front ++ line) (front ++ line) ≡ line =
      fault_behind front line (ap (λ (s : Scan). s.mode) reached)
      ∙ ap (λ (s : Scan). fault_from s line line) reached
      ∙ ap (λ (s : Scan). fault_from s (from_by s.mode line (more ++ rest)) (more ++ rest)) e
      ∙ wrong_from (more ++ rest) line (wrong gap f) f refl in
      let place : (end_of (scan_all blank (front ++ line))).node ≡ node =
      ap (λ (s : Scan). (end_of s).node) (scan_append blank front line ∙ ap (λ (s : Scan). scan_all s line) reached ∙ ap (λ (s : Scan). scan_all s (more ++ rest)) e ∙ wrong_stays (more ++ rest) (wrong gap f) f refl) in
      record {
        there = rw (here, solid.0, solid.1);
        shown = ap (λ (l : List ℕ). shown_up_to 20 l) here ∙ shown_solid 20 (b ∷ more) rest solid ends;
        place = place;
      }

-- ---- what the line that names a fault says of it

abbrev pub said_of : ℕ → List ℕ → ℕ → List ℕ
said_of number name node =
    text_bytes "line " ++ decimal_of number ++ text_bytes ": " ++ (name ++ (text_bytes ", " ++ expected_at node ++ text_bytes " expected")) ++ (10 ∷ [])

-- the word's first twenty bytes, between two marks
abbrev pub marks_of : List ℕ → List ℕ
marks_of word = text_bytes "'" ++ take 20 (map shown_byte word) ++ text_bytes "'"

module _ (number : ℕ) (line : List ℕ) where
  pub unknown_said :
      (word : List ℕ) (node : ℕ) → Names line word node
      → fault_line number Fault.UnknownWord line ≡ said_of number (text_bytes "unknown word " ++ marks_of word) node
  unfolding fault_line
  unknown_said word node n =
      ap (λ (shown : List ℕ). said_of number (text_bytes "unknown word " ++ (text_bytes "'" ++ shown ++ text_bytes "'")) (place_in line)) n.shown
      ∙ ap (said_of number (text_bytes "unknown word " ++ marks_of word)) n.place

  pub missing_said :
      (word : List ℕ) (node : ℕ) → Names line word node
      → fault_line number Fault.MissingField line ≡ said_of number (text_bytes "missing field" ++ (text_bytes " at " ++ marks_of word)) node
  unfolding fault_line
  missing_said word node n = rw (n.there, n.shown, n.place)

  pub end_said :
      fault_in line ≡ []
      → fault_line number Fault.MissingField line ≡ said_of number (text_bytes "missing field") (end_of (scan_all blank line)).node
  unfolding fault_line
  end_said e = rw e

-- letters, small and capital, and digits are shown as they are, and no other byte, at each end of their ranges
pub shown_bytes :
    map shown_byte (0 ∷ 47 ∷ 48 ∷ 57 ∷ 58 ∷ 64 ∷ 65 ∷ 90 ∷ 91 ∷ 96 ∷ 97 ∷ 122 ∷ 123 ∷ 127 ∷ 128 ∷ 255 ∷ [])
    ≡ text_bytes "??09??AZ??az????"
shown_bytes = refl

-- the other faults say their name alone
pub others_said :
    (number : ℕ) (line : List ℕ)
    → map (λ (f : Fault). fault_line number f line) (Fault.TooLarge ∷ Fault.LineTooLong ∷ Fault.TooManyLines ∷ [])
    ≡ map (λ (name : String). text_bytes "line " ++ decimal_of number ++ text_bytes ": " ++ text_bytes name ++ (10 ∷ [])) ("number too large" ∷ "line too long" ∷ "too many lines" ∷ [])
unfolding fault_line
others_said number line = refl
