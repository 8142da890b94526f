pub mod Rewriting
pub mod Rounds
