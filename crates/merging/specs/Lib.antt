pub mod Tables
pub mod Held
pub mod Steps
pub mod Looking
pub mod Frames
pub mod Outputs
pub mod Levels
pub mod Going
