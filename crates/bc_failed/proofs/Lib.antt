pub mod Ordered
pub mod Stable
pub mod Touched
