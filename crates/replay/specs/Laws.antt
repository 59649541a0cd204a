pub mod Comparing
pub mod Reporting
pub mod Replaying
