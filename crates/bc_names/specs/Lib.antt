pub mod Space
pub mod Answers
