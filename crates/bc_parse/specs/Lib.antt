pub mod Fault
pub mod Guards
