-- The types of `rules`, under short names. Assumes nothing.
pub use Rattle.rules.specs.Types.{Holder}
pub use Rattle.rules.specs.declared.tables.Kind.{Kind}
pub use Rattle.rules.specs.declared.tables.Phase.{Phase}
pub use Rattle.rules.specs.declared.tables.Status.{Status}
pub use Rattle.rules.specs.declared.tables.Body.{Body}
pub use Rattle.rules.specs.declared.tables.Tables.{Tables}
pub use Rattle.rules.specs.declared.steps.Step.{Step}
