pub mod Turns
pub mod Ops
