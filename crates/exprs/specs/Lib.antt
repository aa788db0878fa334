pub mod Literals
pub mod Constants
