pub mod NamedAnswers
pub mod NamedAnswersSay
pub mod NamedPromises
pub mod Laws
pub mod Theorems
pub mod Examples
