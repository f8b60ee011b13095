pub mod Courses
pub mod Ends
pub mod Gives
pub mod Known
pub mod Stores
