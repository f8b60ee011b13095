pub mod Adding
pub mod Ordering
pub mod Counting
pub mod CountReshaped
pub mod InOrder
pub mod Wanted
pub mod Before
pub mod Dropping
