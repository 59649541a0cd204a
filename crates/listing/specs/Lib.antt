pub mod Listing
pub mod FileListing
pub mod Laws
pub mod Examples
