pub mod Spaces
pub mod Walk
