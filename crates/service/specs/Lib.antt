pub mod Keeping
pub mod Edits
pub mod Service
