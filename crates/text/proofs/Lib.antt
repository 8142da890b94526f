pub mod Worked
pub mod Reported
pub mod Laying
pub mod Texts
