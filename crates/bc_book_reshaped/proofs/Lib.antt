pub mod Puts
pub mod Members
pub mod Added
pub mod Shapes
pub mod Alike
pub mod Room
pub mod Way
