pub mod Taken
pub mod Given
pub mod Faults
pub mod Read
