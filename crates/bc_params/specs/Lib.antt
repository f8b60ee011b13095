pub mod Look
pub mod Places
pub mod Laws
