pub mod NameList
pub mod NamesSay
pub mod OneList
pub mod Laws
pub mod Examples
