pub mod Kept
pub mod Rows
pub mod Laying
pub mod Appending
