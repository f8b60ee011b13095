pub mod Records
pub mod Ordered
pub mod Laws
pub mod Touched
