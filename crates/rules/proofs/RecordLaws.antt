-- Laws of the record: what is written reads back, and what is read writes back, byte for byte. Assumes nothing.
-- First numbers and bytes, then fields and bytes, then the table, then steps and records.
use Rattle.std.specs.Prelude.{ℕ, zero, suc, ◌+◌, ◌*◌, ◌-◌, ◌/◌, ◌%◌, ◌≤◌, ◌<◌, ◌≡◌, refl, Bool, true, ◌&&◌, List, leb, ltb, eqb, length, get_or, Some}
use Rattle.std.proofs.Common.{arith, not-suc-le-zero, sym, ap, ◌∙◌, subst, ⊎_elim, leb-true, ltb-true, ltb-false, eqb-true, ext_get_or}
use Rattle.rules.specs.Types.{Step, Fields}
use Rattle.rules.specs.LoopsLaws.{and_left, and_right, either, below_or_last}
use Rattle.rules.specs.Record.{fields_of, bytes_of, is_code, row_of, is_named, fits, fields_fit, kept, kept_fields, steps_of, flat_of, step_of_fields, step_of_record, record_of_step}

-- ---- a fact at each index below n

abbrev pub Each : (ℕ → Type 0) → ℕ → Type 0
Each p zero = Unit {0}
Each p (suc n) = Each p n × p n

pub each_row_at : (p : ℕ → Type 0) (n : ℕ) → Each p n → (i : ℕ) → i < n → p i
each_row_at p zero e i h = absurd (not-suc-le-zero h)
each_row_at p (suc n) e i h =
    ⊎_elim
    (λ l. each_row_at p n e.0 i l)
    (λ l. subst p (sym l) e.1)
    (below_or_last i n h)

pub at_each : (p : ℕ → Type 0) (n : ℕ) → ((i : ℕ) → i < n → p i) → Each p n
at_each p zero f = tt
at_each p (suc n) f = (at_each p n (λ i h. f i (omega arith)), f n (omega arith))

-- a number from 1 to n + 1 that is none of the first n is the last
pub last_left : (n x : ℕ) → 1 ≤ x → x ≤ n + 1 → Each (λ i. x ≡ i + 1 → ⊥) n → x ≡ n + 1
last_left n x low high e =
    ⊎_elim
    (λ h. absurd (each_row_at (λ i. x ≡ i + 1 → ⊥) n e (x - 1) (ltb-true (x - 1) n h) (omega arith)))
    (λ h. let past : n ≤ x - 1 = ltb-false (x - 1) n h in omega arith)
    (either (ltb (x - 1) n))

-- ---- numbers in bytes

-- two bytes give back a number of two bytes
word_there : (x : ℕ) → x < 65536 → x % 256 + 256 * (x / 256 % 256) ≡ x
word_there x h = omega arith

-- four bytes give back a number of four
long_there :
    (x : ℕ)
    → x < 4294967296
    → x % 256 + 256 * (x / 256 % 256) + 65536 * (x / 65536 % 256) + 16777216 * (x / 16777216 % 256)
    ≡ x
long_there x h =
    let one : x / 256 ≡ x / 256 % 256 + 256 * (x / 65536) = omega arith in
    let two : x / 65536 ≡ x / 65536 % 256 + 256 * (x / 16777216) = omega arith in
    let three : x / 16777216 % 256 ≡ x / 16777216 = omega arith in
    omega arith

-- ---- fields and bytes

-- "The record has bytes code, a, b, c; handle h in two bytes; two zero bytes; u and v in four bytes each"
pub record Widths (f : Fields) : Type 0 where
  pub code : f.code < 256
  pub a : f.a < 256
  pub b : f.b < 256
  pub c : f.c < 256
  pub h : f.h < 65536
  pub zero : f.zero < 65536
  pub u : f.u < 4294967296
  pub v : f.v < 4294967296

-- sixteen bytes
pub record Bytes16 (b : List ℕ) : Type 0 where
  pub sixteen : length b ≡ 16
  pub byte : (i : ℕ) → i < 16 → get_or b i 0 < 256

-- fields that are written as bytes read back
pub bytes_fields : (f : Fields) → Widths f → fields_of (bytes_of f) ≡ f
bytes_fields f w =
    rw (word_there f.h w.h, word_there f.zero w.zero, long_there f.u w.u, long_there f.v w.v)

module _ (b : List ℕ) (w : Bytes16 b) where
  bytes : Each (λ i. get_or b i 0 < 256) 16
  bytes = at_each (λ i. get_or b i 0 < 256) 16 w.byte

  -- fields that are read from bytes have their widths
  pub fields_widths : Widths (fields_of b)
  fields_widths =
      record {
        code = omega (arith, bytes);
        a = omega (arith, bytes);
        b = omega (arith, bytes);
        c = omega (arith, bytes);
        h = omega (arith, bytes);
        zero = omega (arith, bytes);
        u = omega (arith, bytes);
        v = omega (arith, bytes);
      }

  -- and are written as the same bytes
  pub fields_bytes : bytes_of (fields_of b) ≡ b
  fields_bytes =
      ext_get_or 0 (bytes_of (fields_of b)) b (sym w.sixteen)
      (each_row_at (λ i. get_or (bytes_of (fields_of b)) i 0 ≡ get_or b i 0) 16 (omega (arith, bytes)))

-- fields of these widths are written as sixteen bytes
pub bytes_sixteen : (f : Fields) → Widths f → Bytes16 (bytes_of f)
bytes_sixteen f w =
    record { sixteen = refl; byte = each_row_at (λ i. get_or (bytes_of f) i 0 < 256) 16 (omega arith) }

-- ---- the table

-- a known code is one of the sixteen
pub code_known : (code : ℕ) → is_code code ≡ true → (1 ≤ code) × (code ≤ 16)
code_known code e =
    (leb-true 1 code (and_left (leb 1 code) (leb code 16) e), leb-true code 16 (and_right (leb 1 code) (leb code 16) e))

-- a field that fits its row is kept
kept_fits : (row field x : ℕ) → fits row field x ≡ true → kept row field x ≡ x
kept_fits row field x e =
    ⊎_elim
    (λ h. rw h)
    (λ h. rw h (sym (eqb-true x 0 (rw h at e))))
    (either (is_named row field))

-- each of seven tests that hold together
seven :
    (p q r s t u v : Bool)
    → (p && q && r && s && t && u && v) ≡ true
    → (p ≡ true) × (q ≡ true) × (r ≡ true) × (s ≡ true) × (t ≡ true) × (u ≡ true) × (v ≡ true)
seven p q r s t u v e6 =
    let e5 = and_left (p && q && r && s && t && u) v e6 in
    let e4 = and_left (p && q && r && s && t) u e5 in
    let e3 = and_left (p && q && r && s) t e4 in
    let e2 = and_left (p && q && r) s e3 in
    let e1 = and_left (p && q) r e2 in (
      and_left p q e1,
      and_right p q e1,
      and_right (p && q) r e2,
      and_right (p && q && r) s e3,
      and_right (p && q && r && s) t e4,
      and_right (p && q && r && s && t) u e5,
      and_right (p && q && r && s && t && u) v e6,
    )

-- so fields that fit their row are kept
fit_kept : (f : Fields) → fields_fit f ≡ true → kept_fields f ≡ f
fit_kept f e =
    let row = row_of f.code in
    let each =
    seven (fits row 1 f.a) (fits row 2 f.b) (fits row 4 f.c) (fits row 8 f.h)
    (fits row 16 f.u)
    (fits row 32 f.v)
    (eqb f.zero 0)
    e
    in
    rw (
      kept_fits row 1 f.a each.0,
      kept_fits row 2 f.b each.1,
      kept_fits row 4 f.c each.2,
      kept_fits row 8 f.h each.3,
      kept_fits row 16 f.u each.4,
      kept_fits row 32 f.v each.5,
      eqb-true f.zero 0 each.6,
    )

abbrev with_code : ℕ → Fields → Fields
with_code code f =
    record { code = code; a = f.a; b = f.b; c = f.c; h = f.h; zero = f.zero; u = f.u; v = f.v }

-- row by row, a step is made of the fields that its row keeps
RowKept : Fields → ℕ → Type 0
RowKept f i = flat_of (get_or (steps_of f) i (Step.Tick 0 0)) ≡ kept_fields (with_code (i + 1) f)

rows : (f : Fields) → Each (RowKept f) 16
unfolding RowKept
rows f =
    ((((((((((((((((tt, refl), refl), refl), refl), refl), refl), refl), refl), refl), refl), refl), refl), refl), refl), refl), refl)

-- a step's own fields make that step
flat_known : (s : Step) → step_of_fields (flat_of s) ≡ Some s
unfolding step_of_fields
flat_known (Step.Tick site n) = refl
flat_known (Step.Begin home slot q r) = refl
flat_known (Step.Invoke h site write object value) = refl
flat_known (Step.Refresh h q r) = refl
flat_known (Step.Terminate h) = refl
flat_known (Step.Prepare h) = refl
flat_known (Step.Ask h site) = refl
flat_known (Step.Close h) = refl
flat_known (Step.Tell h site) = refl
flat_known (Step.Abort h) = refl
flat_known (Step.Deliver m) = refl
flat_known (Step.Drop m) = refl
flat_known (Step.Sweep site) = refl
flat_known (Step.Crash site) = refl
flat_known (Step.Recover site) = refl
flat_known (Step.Retire h) = refl

-- ---- steps and records

-- fields that make a step fit their row
known_fits : (f : Fields) (s : Step) → step_of_fields f ≡ Some s → (is_code f.code && fields_fit f) ≡ true
unfolding step_of_fields
known_fits f s e =
    ⊎_elim
    (λ h. h)
    (λ h. absurd (let z : ◌≡◌ {A = ℕ} 0 1 = cc (rw h at e) in omega arith))
    (either (is_code f.code && fields_fit f))

-- and are that step's own fields
known_flat : (f : Fields) (s : Step) → step_of_fields f ≡ Some s → flat_of s ≡ f
unfolding step_of_fields RowKept
known_flat f s e =
    let k = known_fits f s e in
    let code = code_known f.code (and_left (is_code f.code) (fields_fit f) k) in
    let fit = and_right (is_code f.code) (fields_fit f) k in
    let made : get_or (steps_of f) (f.code - 1) (Step.Tick 0 0) ≡ s = cc (rw k at e) in
    let back : f.code - 1 + 1 ≡ f.code = omega arith in
    rw (← made) (rw back at (each_row_at (RowKept f) 16 (rows f) (f.code - 1) (omega arith)) ∙ fit_kept f fit)

-- each field of a step has its record's width
abbrev pub StepFits : Step → Type 0
StepFits s = Widths (flat_of s)

-- a step's own fields fit their row
flat_fits : (s : Step) → (is_code (flat_of s).code && fields_fit (flat_of s)) ≡ true
flat_fits s = known_fits (flat_of s) s (flat_known s)

-- and have a known code
pub flat_code : (s : Step) → (1 ≤ (flat_of s).code) × ((flat_of s).code ≤ 16)
flat_code s = code_known (flat_of s).code (and_left (is_code (flat_of s).code) (fields_fit (flat_of s)) (flat_fits s))

-- so nothing of a step is lost by its row
record_flat : (s : Step) → record_of_step s ≡ bytes_of (flat_of s)
unfolding record_of_step
record_flat s =
    ap bytes_of
    (fit_kept (flat_of s) (and_right (is_code (flat_of s).code) (fields_fit (flat_of s)) (flat_fits s)))

-- what is written reads back
pub written_reads : (s : Step) → StepFits s → step_of_record (record_of_step s) ≡ Some s
unfolding step_of_record
written_reads s w = rw (record_flat s, bytes_fields (flat_of s) w) (flat_known s)

-- what is read writes back, byte for byte
pub read_writes : (b : List ℕ) → Bytes16 b → (s : Step) → step_of_record b ≡ Some s → record_of_step s ≡ b
unfolding step_of_record
read_writes b w s e = rw (record_flat s, known_flat (fields_of b) s e) (fields_bytes b w)

-- a step that is read fits its record
pub read_fits : (b : List ℕ) → Bytes16 b → (s : Step) → step_of_record b ≡ Some s → StepFits s
unfolding step_of_record
read_fits b w s e = rw (known_flat (fields_of b) s e) (fields_widths b w)

-- what is written is sixteen bytes
pub written_bytes : (s : Step) → StepFits s → Bytes16 (record_of_step s)
written_bytes s w = rw (record_flat s) (bytes_sixteen (flat_of s) w)
