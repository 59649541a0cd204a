pub mod Profile
pub mod Tested
pub mod Laws
pub mod Examples
