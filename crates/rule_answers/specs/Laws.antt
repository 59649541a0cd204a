pub mod Tables
pub mod RowPlaces
pub mod Promised
pub mod Matching
pub mod Overlaps
pub mod FirstPairs
pub mod Walks
