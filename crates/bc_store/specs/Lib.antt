pub mod Resolved
pub mod Store
