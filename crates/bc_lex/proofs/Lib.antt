pub mod Bytes
pub mod Tables
pub mod Marks
pub mod Inside
pub mod Onward
pub mod Same
pub mod Exists
pub mod Order
