pub mod Commanding
