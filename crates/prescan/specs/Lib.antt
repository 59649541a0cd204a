pub mod Matcher
pub mod Prescan
pub mod ScanState
pub mod Prescanned
pub mod Laws
pub mod Examples
