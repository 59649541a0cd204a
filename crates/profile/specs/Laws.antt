pub mod Lacking
pub mod Monotone
pub mod SomeToken
pub mod Between
