pub mod Answers
pub mod Ledger
pub mod Histories
