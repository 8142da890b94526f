pub mod Lowest
pub mod Stages
pub mod Copies
