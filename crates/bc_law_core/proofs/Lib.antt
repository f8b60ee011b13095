pub mod Standing
pub mod Sound
pub mod Given
pub mod Areas
