pub mod Replay
pub mod Report
pub mod Laws
pub mod Examples
