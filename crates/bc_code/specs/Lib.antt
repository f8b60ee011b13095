pub mod Emitted
pub mod Given
pub mod Instructions
pub mod Listing
pub mod Runs
pub mod Translation
