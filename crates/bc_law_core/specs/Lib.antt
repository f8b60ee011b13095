pub mod Laws
pub mod Areas
