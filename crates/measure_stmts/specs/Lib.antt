pub mod Heads
pub mod Walked
