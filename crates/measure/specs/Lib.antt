pub mod Known
pub mod Sized
