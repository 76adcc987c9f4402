-- Definitions for the time rule: what one slot sees, the ledger kept of it, the clauses of the invariant, the rule.
pub mod View
pub mod Clauses
pub mod Rule
