pub mod Numbers
pub mod Overlap
pub mod Laws
pub mod Examples
