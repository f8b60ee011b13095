pub mod Steps
pub mod Forward
pub mod ForwardText
pub mod Backward
pub mod BackwardText
pub mod Completion
pub mod Exact
