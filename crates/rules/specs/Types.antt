-- The types of src/, under short names, and those that are std's own. Assumes nothing.
use Rattle.std.specs.Prelude.{ℕ, Bool, Option, Result}
pub use Rattle.rules.specs.declared.tables.Site.{Site}
pub use Rattle.rules.specs.declared.tables.Object.{Object}
pub use Rattle.rules.specs.declared.tables.Figures.{Figures}
pub use Rattle.rules.specs.declared.tables.Kind.{Kind}
pub use Rattle.rules.specs.declared.tables.Phase.{Phase}
pub use Rattle.rules.specs.declared.tables.Round.{Round}
pub use Rattle.rules.specs.declared.tables.Status.{Status}
pub use Rattle.rules.specs.declared.tables.Passage.{Passage}
pub use Rattle.rules.specs.declared.tables.Visit.{Visit}
pub use Rattle.rules.specs.declared.tables.Call.{Call}
pub use Rattle.rules.specs.declared.tables.Asked.{Asked}
pub use Rattle.rules.specs.declared.tables.Told.{Told}
pub use Rattle.rules.specs.declared.tables.Body.{Body}
pub use Rattle.rules.specs.declared.tables.Message.{Message}
pub use Rattle.rules.specs.declared.tables.Tables.{Tables}
pub use Rattle.rules.specs.declared.steps.Step.{Step}
pub use Rattle.rules.specs.declared.steps.Fields.{Fields}
pub use Rattle.rules.specs.declared.steps.SheetRefusal.{SheetRefusal}
pub use Rattle.rules.specs.declared.outcomes.Refusal.{Refusal}
pub use Rattle.rules.specs.declared.looking.MailAt.{MailAt}
pub use Rattle.rules.specs.declared.looking.SlotAt.{SlotAt}
pub use Rattle.rules.specs.declared.looking.SiteAt.{SiteAt}
pub use Rattle.rules.specs.declared.looking.Trip.{Trip}
pub use Rattle.rules.specs.declared.looking.Look.{Look}
pub use Rattle.rules.specs.declared.looking.Places.{Places}
pub use Rattle.rules.specs.declared.looking.Found.{Found}
pub use Rattle.rules.specs.declared.looking.Seen.{Seen}
pub use Rattle.rules.specs.declared.outcomes.Decision.{Decision}
pub use Rattle.rules.specs.declared.outcomes.Outcome.{Outcome}

-- who holds an object: a passage slot, or nobody
abbrev pub Holder : Type 0
Holder = Option ℕ

-- what a record of 16 bytes stands for: a step, or none
abbrev pub Reading : Type 0
Reading = Option Step

-- accepted with a value, or refused
abbrev pub Answer : Type 0
Answer = Result ℕ Refusal

-- what a sheet's reader says of it: taken, or one of the four refusals
abbrev pub SheetAnswer : Type 0
SheetAnswer = Result (Unit {0}) SheetRefusal

-- one line of the refusal table at a step: if it holds, this is the refusal
pub record Check : Type 0 where
  pub holds : Bool
  pub gives : Refusal
