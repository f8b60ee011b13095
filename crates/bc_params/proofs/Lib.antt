pub mod Elements
pub mod Pairs
pub mod Through
pub mod Updated
pub mod Unfilled
pub mod Same
pub mod Searchable
