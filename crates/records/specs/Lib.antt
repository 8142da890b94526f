pub mod Bytes
pub mod Reading
pub mod Writing
pub mod Records
pub mod Views
pub mod Files
pub mod Worked
