pub mod Entry
pub mod NamedRow
pub mod NamedPromised
pub mod Beside
