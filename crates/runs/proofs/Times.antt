-- The time rule: what one slot sees, the ledger kept of it and the clauses of the invariant; what a store leaves to each slot; the rule in every run.
pub mod ClausesLaws
pub mod Store
pub mod Ledgers
pub mod TimeRule
pub mod RunLaws
