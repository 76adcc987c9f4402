-- What parts' loops say of a round. Assumes nothing.
pub mod Balances
