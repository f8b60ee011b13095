pub mod Tree
pub mod Weights
