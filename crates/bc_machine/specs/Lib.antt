pub mod Course
pub mod Parts
pub mod Running
pub mod Whole
pub mod Lends
