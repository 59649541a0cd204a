pub mod NamedReading
pub mod InOrder
pub mod NamedSays
pub mod Laws
pub mod Examples
