pub mod Regions
pub mod Splitting
pub mod Opening
pub mod Paths
pub mod Splicing
