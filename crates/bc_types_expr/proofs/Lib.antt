pub mod Rows
pub mod LeftToRight
