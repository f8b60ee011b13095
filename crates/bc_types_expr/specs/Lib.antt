pub mod Types
pub mod Scopes
pub mod Looks
pub mod Contexts
pub mod Expressions
pub mod Tails
