pub mod Statements
pub mod Chains
pub mod Lists
