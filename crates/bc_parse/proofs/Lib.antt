pub mod Flags
pub mod Sequences
pub mod Lexed
