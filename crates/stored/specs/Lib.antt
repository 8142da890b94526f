pub mod Words
pub mod Decoding
pub mod Own
pub mod Nodes
pub mod Lookup
