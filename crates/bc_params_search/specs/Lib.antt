pub mod Tuples
pub mod Search
pub mod Laws
pub mod Tied
