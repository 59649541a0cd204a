pub mod OuterTemplate
pub mod ByExtents
pub mod Formed
pub mod OuterPromises
pub mod Laws
pub mod Theorems
pub mod Examples
