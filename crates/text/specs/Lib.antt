pub mod Text
pub mod Output
pub mod Report
pub mod Reporting
pub mod Worked
pub mod Reported
