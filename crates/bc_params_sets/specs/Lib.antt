pub mod Members
pub mod Bindings
pub mod Orders
pub mod Indexed
pub mod Kept
