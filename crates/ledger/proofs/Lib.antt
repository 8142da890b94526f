pub mod Sound
pub mod Histories
