pub mod Bodies
pub mod Steps
pub mod Expressions
pub mod Statements
pub mod Growth
pub mod Room
