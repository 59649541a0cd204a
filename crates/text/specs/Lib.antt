pub mod Text
pub mod Puts
pub mod Laws
pub mod Examples
