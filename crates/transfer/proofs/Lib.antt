pub mod Told
pub mod Storing
pub mod Writing
