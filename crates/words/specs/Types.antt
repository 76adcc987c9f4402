-- The types of src/ and of the steps, under short names. Assumes nothing.
use Rattle.std.specs.Prelude.{Result}
pub use Rattle.words.specs.declared.rows.Said.{Said}
pub use Rattle.words.specs.declared.rows.Edge.{Edge}
pub use Rattle.words.specs.declared.rows.Slot.{Slot}
pub use Rattle.words.specs.declared.scan.Fault.{Fault}
pub use Rattle.words.specs.declared.scan.Mode.{Mode}
pub use Rattle.words.specs.declared.scan.Scan.{Scan}
pub use Rattle.words.specs.declared.scan.Line.{Line}
pub use Rattle.words.specs.declared.scan.Reader.{Reader}
pub use Rattle.rules.specs.declared.steps.Step.{Step}
pub use Rattle.rules.specs.Types.{Reading}

-- what a line says, or what is wrong with it
abbrev pub Verdict : Type 0
Verdict = Result Line Fault
