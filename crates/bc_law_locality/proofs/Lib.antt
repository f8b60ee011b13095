pub mod Commits
pub mod Expressions
pub mod Lists
pub mod Runs
pub mod Statements
pub mod Steps
pub mod Tied
