pub mod Area
pub mod Control
pub mod Created
pub mod Held
pub mod Parts
pub mod State
pub mod Stepping
