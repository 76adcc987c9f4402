-- What the reader's contract says of the round trip: a step that is read writes as the bytes that it was read from.
-- Assumes nothing.
use Rattle.std.specs.Prelude.{ℕ, ◌≡◌, refl, List, Some, None}
use Rattle.rules.specs.Types.{Reading}
use Rattle.rules.specs.Record.{step_of_record, record_of_step}
use Rattle.rules.proofs.RecordLaws.{Bytes16, read_writes}

-- a known step writes as these bytes; where there is no step, nothing is said
abbrev pub WritesAs : List ℕ → Reading → Type 0
WritesAs b None = Unit {0}
WritesAs b (Some s) = record_of_step s ≡ b

-- whichever the bytes read as
by_reading : (b : List ℕ) → Bytes16 b → (r : Reading) → step_of_record b ≡ r → WritesAs b r
by_reading b w None e = tt
by_reading b w (Some s) e = read_writes b w s e

-- what sixteen bytes read as writes as those bytes
pub reading_writes : (b : List ℕ) → Bytes16 b → WritesAs b (step_of_record b)
reading_writes b w = by_reading b w (step_of_record b) refl
