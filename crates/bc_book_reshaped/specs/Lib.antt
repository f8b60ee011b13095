pub mod Reshaped
pub mod Laws
