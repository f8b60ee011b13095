pub mod Fitting
pub mod Frames
pub mod Laws
