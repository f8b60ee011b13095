pub mod Expressions
pub mod Listings
pub mod Statements
pub mod Texts
pub mod Units
pub mod Whole
