pub mod Lists
pub mod Literals
pub mod Rows
pub mod Unplaced
