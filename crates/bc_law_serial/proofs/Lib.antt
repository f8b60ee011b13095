pub mod Ending
pub mod Unstuck
