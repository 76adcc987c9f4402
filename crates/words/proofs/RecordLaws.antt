-- What the writer says of any record, the reader reads as that record, by words or by `raw`. Assumes nothing.
use Rattle.std.specs.Prelude.{ℕ, zero, suc, ◌+◌, ◌*◌, ◌/◌, ◌%◌, ◌≤◌, ◌<◌, ◌≡◌, refl, true, List, [], ◌∷◌, ◌++◌, ltb, length, get_or, set, Some, None}
use Rattle.std.proofs.Common.{arith, add-zero, ap, ◌∙◌, subst, lt-ltb, length-append}
use Rattle.std.proofs.Math.Seq.{append_snoc}
use Rattle.std.proofs.lemmas.List.{set_at, get_or_at}
use Rattle.rules.specs.Loops.{first_up_to}
use Rattle.rules.specs.Record.{step_of_record}
use Rattle.rules.proofs.RecordLaws.{Each, each_row_at, Bytes16, read_writes, read_fits}
use Rattle.rules.specs.Listing.{spelt}
use Rattle.words.specs.Types.{Mode, Scan, Reading}
use Rattle.words.specs.Grammar.{edge_at}
use Rattle.words.specs.Scan.{at, blank, word_taken, scan_next, scan_all}
use Rattle.words.specs.Say.{step_text, hex_digit, hex_text, raw_text, record_by, record_text}
use Rattle.words.proofs.StepLaws.{Says, step_says}

-- ---- hex digits

module _ (k : ℕ) (bytes : List ℕ) (room : ltb k 32 ≡ true) where
  Hex : ℕ → Type 0
  Hex d =
      scan_next (at Mode.Gap 0 30 k bytes) (hex_digit d)
      ≡ at Mode.Gap 0 30 (k + 1) (set bytes (k / 2) (get_or bytes (k / 2) 0 % 16 * 16 + d))

  hexes : Each Hex 16
  unfolding Hex scan_next
  hexes =
      ((((((((((((((((tt, rw room), rw room), rw room), rw room), rw room), rw room), rw room), rw room), rw room), rw room), rw room), rw room), rw room), rw room), rw room), rw room)

  hex_digit_read :
      (d : ℕ) → d < 16
      → scan_next (at Mode.Gap 0 30 k bytes) (hex_digit d)
      ≡ at Mode.Gap 0 30 (k + 1) (set bytes (k / 2) (get_or bytes (k / 2) 0 % 16 * 16 + d))
  unfolding Hex
  hex_digit_read d h = each_row_at Hex 16 hexes d h

-- two of them are a byte
module _ (n x : ℕ) (front rest : List ℕ) (long : length front ≡ n) (room : n < 16) (byte : x < 256) where
  high_read :
      scan_next (at Mode.Gap 0 30 (2 * n) (front ++ 0 ∷ rest)) (hex_digit (x / 16))
      ≡ at Mode.Gap 0 30 (2 * n + 1) (front ++ x / 16 ∷ rest)
  high_read =
      let half : 2 * n / 2 ≡ n = omega arith in
      let there : 0 % 16 * 16 + x / 16 ≡ x / 16 = omega arith in
      hex_digit_read (2 * n) (front ++ 0 ∷ rest) (lt-ltb (2 * n) 32 (omega arith)) (x / 16) (omega arith)
      ∙ rw (half, get_or_at front 0 rest 0 n long, there, set_at front 0 rest (x / 16) n long)

  low_read :
      scan_next (at Mode.Gap 0 30 (2 * n + 1) (front ++ x / 16 ∷ rest)) (hex_digit (x % 16))
      ≡ at Mode.Gap 0 30 (2 * n + 2) (front ++ x ∷ rest)
  low_read =
      let half : (2 * n + 1) / 2 ≡ n = omega arith in
      let two : 2 * n + 1 + 1 ≡ 2 * n + 2 = omega arith in
      let there : x / 16 % 16 * 16 + x % 16 ≡ x = omega arith in
      hex_digit_read (2 * n + 1) (front ++ x / 16 ∷ rest) (lt-ltb (2 * n + 1) 32 (omega arith)) (x % 16) (omega arith)
      ∙ rw (half, two, get_or_at front (x / 16) rest 0 n long, there, set_at front (x / 16) rest x n long)

-- ---- raw

abbrev AllBytes : List ℕ → Type 0
AllBytes [] = Unit {0}
AllBytes (x ∷ xs) = (x < 256) × AllBytes xs

bytes_all : (b : List ℕ) → ((i : ℕ) → i < length b → get_or b i 0 < 256) → AllBytes b
bytes_all [] h = tt
bytes_all (x ∷ xs) h = (h zero (omega arith), bytes_all xs (λ i l. h (suc i) (omega arith)))

abbrev noughts : ℕ → List ℕ
noughts zero = []
noughts (suc n) = 0 ∷ noughts n

hex_read :
    (xs front : List ℕ) (n : ℕ) → length front ≡ n → n + length xs ≤ 16 → AllBytes xs
    → scan_all (at Mode.Gap 0 30 (2 * n) (front ++ noughts (length xs))) (hex_text xs)
    ≡ at Mode.Gap 0 30 (2 * (n + length xs)) (front ++ xs)
unfolding scan_all hex_text
hex_read [] front n long room all = rw add-zero
hex_read (x ∷ xs) front n long room all =
    let longer : length (front ++ (x ∷ [])) ≡ n + 1 = rw (length-append front (x ∷ []), long) in
    let twice : 2 * n + 2 ≡ 2 * (n + 1) = omega arith in
    let last : n + 1 + length xs ≡ n + suc (length xs) = omega arith in
    ap (λ (s : Scan). scan_all (scan_next s (hex_digit (x % 16))) (hex_text xs)) (high_read n x front (noughts (length xs)) long (omega arith) all.0)
    ∙ ap (λ (s : Scan). scan_all s (hex_text xs)) (low_read n x front (noughts (length xs)) long (omega arith) all.0)
    ∙ rw (twice, ← last, ← append_snoc front x (noughts (length xs)), ← append_snoc front x xs)
    (hex_read xs (front ++ (x ∷ [])) (n + 1) longer (omega arith) all.1)

raw_scan : (b : List ℕ) → Bytes16 b → scan_all blank (raw_text b) ≡ at Mode.Gap 0 30 32 b
unfolding scan_next scan_all spelt edge_at first_up_to word_taken raw_text
raw_scan b w =
    let sixteen : length b ≡ 16 = w.sixteen in
    let all : AllBytes b = bytes_all b (λ i l. w.byte i (omega arith)) in
    rw sixteen at (hex_read b [] 0 refl (omega arith) all)

pub raw_says : (b : List ℕ) → Bytes16 b → Says (raw_text b) b
raw_says b w = record { ends = rw (raw_scan b w); gives = rw (raw_scan b w) }

-- ---- any record

by_says : (r : Reading) (b : List ℕ) → Bytes16 b → step_of_record b ≡ r → Says (record_by r b) b
by_says None b w e = raw_says b w
by_says (Some s) b w e =
    subst (Says (step_text s)) (read_writes b w s e) (step_says s (read_fits b w s e))

-- "for every record, its line (words or raw) gives the record"
pub record_says : (b : List ℕ) → Bytes16 b → Says (record_text b) b
unfolding record_text
record_says b w = by_says (step_of_record b) b w refl
