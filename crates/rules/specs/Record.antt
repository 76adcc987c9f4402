-- The record: 16 bytes to a step, a step to 16 bytes, by one table of which fields each step names. Assumes nothing.
-- "The record has bytes code, a, b, c; handle h in two bytes; two zero bytes; u and v in four bytes each; all little-endian."
use Rattle.std.specs.Prelude.{ℕ, ◌+◌, ◌*◌, ◌-◌, ◌/◌, ◌%◌, Bool, cond, ◌&&◌, ◌||◌, List, [], ◌∷◌, ◌++◌, leb, eqb, get_or, Err, Some, None}
use Rattle.rules.specs.Types.{Step, Fields, Reading, Tables, Refusal, Outcome}
use Rattle.rules.specs.Machine.{step_in_range_of, unless_out_of_range}

-- ---- numbers in bytes, little-endian

abbrev pub word_of : List ℕ → ℕ → ℕ
word_of b i = get_or b i 0 + 256 * get_or b (i + 1) 0

abbrev pub long_of : List ℕ → ℕ → ℕ
long_of b i = get_or b i 0 + 256 * get_or b (i + 1) 0 + 65536 * get_or b (i + 2) 0 + 16777216 * get_or b (i + 3) 0

abbrev pub word_bytes : ℕ → List ℕ
word_bytes x = x % 256 ∷ x / 256 % 256 ∷ []

abbrev pub long_bytes : ℕ → List ℕ
long_bytes x = x % 256 ∷ x / 256 % 256 ∷ x / 65536 % 256 ∷ x / 16777216 % 256 ∷ []

abbrev pub fields_of : List ℕ → Fields
fields_of b =
    record {
      code = get_or b 0 0;
      a = get_or b 1 0;
      b = get_or b 2 0;
      c = get_or b 3 0;
      h = word_of b 4;
      zero = word_of b 6;
      u = long_of b 8;
      v = long_of b 12;
    }

abbrev pub bytes_of : Fields → List ℕ
bytes_of f =
    f.code ∷ f.a ∷ f.b ∷ f.c
    ∷ (word_bytes f.h ++ word_bytes f.zero ++ long_bytes f.u ++ long_bytes f.v)

-- ---- "Which fields each step names is one table."
-- a counts 1, b 2, c 4, h 8, u 16, v 32; the row of code k is the k-th

abbrev pub named_fields : List ℕ
named_fields =
    17 ∷ 51 ∷ 31 ∷ 56 ∷ 8 ∷ 8 ∷ 9 ∷ 8 ∷ 9 ∷ 8 ∷ 4 ∷ 4 ∷ 1 ∷ 1 ∷ 1 ∷ 8 ∷ []

abbrev pub is_code : ℕ → Bool
is_code code = leb 1 code && leb code 16

abbrev pub row_of : ℕ → ℕ
row_of code = get_or named_fields (code - 1) 0

abbrev pub is_named : ℕ → ℕ → Bool
is_named row field = eqb (row / field % 2) 1

-- "A field that a step doesn't name is 0"
abbrev pub fits : ℕ → ℕ → ℕ → Bool
fits row field x = is_named row field || eqb x 0

-- ", the two zero bytes too"
abbrev pub fields_fit : Fields → Bool
fields_fit f =
    fits (row_of f.code) 1 f.a && fits (row_of f.code) 2 f.b && fits (row_of f.code) 4 f.c
    && fits (row_of f.code) 8 f.h
    && fits (row_of f.code) 16 f.u
    && fits (row_of f.code) 32 f.v
    && eqb f.zero 0

-- what a step doesn't name is written as 0
abbrev pub kept : ℕ → ℕ → ℕ → ℕ
kept row field x = cond (is_named row field) x 0

abbrev pub kept_fields : Fields → Fields
kept_fields f =
    record {
      code = f.code;
      a = kept (row_of f.code) 1 f.a;
      b = kept (row_of f.code) 2 f.b;
      c = kept (row_of f.code) 4 f.c;
      h = kept (row_of f.code) 8 f.h;
      zero = 0;
      u = kept (row_of f.code) 16 f.u;
      v = kept (row_of f.code) 32 f.v;
    }

-- ---- "The sixteen steps", each with its fields

-- the steps that these fields would make, by code from 1
abbrev pub steps_of : Fields → List Step
steps_of f =
    Step.Tick f.a f.u ∷ Step.Begin f.a f.b f.u f.v
    ∷ Step.Invoke f.h f.a f.b f.c f.u
    ∷ Step.Refresh f.h f.u f.v
    ∷ Step.Terminate f.h
    ∷ Step.Prepare f.h
    ∷ Step.Ask f.h f.a
    ∷ Step.Close f.h
    ∷ Step.Tell f.h f.a
    ∷ Step.Abort f.h
    ∷ Step.Deliver f.c
    ∷ Step.Drop f.c
    ∷ Step.Sweep f.a
    ∷ Step.Crash f.a
    ∷ Step.Recover f.a
    ∷ Step.Retire f.h
    ∷ []

abbrev pub flat : ℕ → ℕ → ℕ → ℕ → ℕ → ℕ → ℕ → Fields
flat code a b c h u v =
    record { code = code; a = a; b = b; c = c; h = h; zero = 0; u = u; v = v }

abbrev pub flat_of : Step → Fields
flat_of (Step.Tick site n) = flat 1 site 0 0 0 n 0
flat_of (Step.Begin home slot q r) = flat 2 home slot 0 0 q r
flat_of (Step.Invoke h site write object value) = flat 3 site write object h value 0
flat_of (Step.Refresh h q r) = flat 4 0 0 0 h q r
flat_of (Step.Terminate h) = flat 5 0 0 0 h 0 0
flat_of (Step.Prepare h) = flat 6 0 0 0 h 0 0
flat_of (Step.Ask h site) = flat 7 site 0 0 h 0 0
flat_of (Step.Close h) = flat 8 0 0 0 h 0 0
flat_of (Step.Tell h site) = flat 9 site 0 0 h 0 0
flat_of (Step.Abort h) = flat 10 0 0 0 h 0 0
flat_of (Step.Deliver m) = flat 11 0 0 m 0 0 0
flat_of (Step.Drop m) = flat 12 0 0 m 0 0 0
flat_of (Step.Sweep site) = flat 13 site 0 0 0 0 0
flat_of (Step.Crash site) = flat 14 site 0 0 0 0 0
flat_of (Step.Recover site) = flat 15 site 0 0 0 0 0
flat_of (Step.Retire h) = flat 16 0 0 0 h 0 0

-- whether a step has this code
abbrev pub is_step : ℕ → Step → Bool
is_step code s = eqb (flat_of s).code code

-- ---- bytes to step, step to bytes

-- 1: "code unknown, or an unnamed field isn't 0". "A record refused by 1 stands for no step."
unfoldable pub step_of_fields : Fields → Reading
step_of_fields f =
    cond
    (is_code f.code && fields_fit f)
    (Some (get_or (steps_of f) (f.code - 1) (Step.Tick 0 0)))
    None

unfoldable pub step_of_record : List ℕ → Reading
step_of_record b = step_of_fields (fields_of b)

unfoldable pub record_of_step : Step → List ℕ
record_of_step s = bytes_of (kept_fields (flat_of s))

-- ---- a record on the tables: 20, then 1, then the step

abbrev pub reading_of : Tables → Reading → Outcome
reading_of t None = record { answer = Err Refusal.NoStep; tables = t }
reading_of t (Some step) = step_in_range_of t step

-- a record on tables that are in range
unfoldable pub record_in_range_of : Tables → List ℕ → Outcome
record_in_range_of t b = reading_of t (step_of_record b)

unfoldable pub step_record_of : Tables → List ℕ → Outcome
step_record_of t b = unless_out_of_range t (record_in_range_of t b)
