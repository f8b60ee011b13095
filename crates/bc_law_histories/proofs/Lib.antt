pub mod Starting
pub mod Replaying
pub mod Mixing
