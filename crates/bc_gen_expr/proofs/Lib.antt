pub mod Arms
pub mod Growing
pub mod Rows
pub mod Stays
