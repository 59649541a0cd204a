pub mod Numbered
pub mod Outside
pub mod Ordinary
pub mod Steps
pub mod Taking
pub mod RowEnd
pub mod ScanLoop
pub mod Pairs
