pub mod Appending
pub mod Records
