pub mod Reply
pub mod Contract
pub mod Runs
pub mod Statuses
