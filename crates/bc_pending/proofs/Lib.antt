pub mod First
pub mod Kept
pub mod Left
pub mod Moved
pub mod Named
