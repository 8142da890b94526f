pub mod Heading
pub mod Lawful
pub mod Lower
