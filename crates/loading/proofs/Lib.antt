pub mod Reading
pub mod Held
