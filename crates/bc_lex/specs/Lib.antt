pub mod Pieces
pub mod Contract
pub mod Laws
