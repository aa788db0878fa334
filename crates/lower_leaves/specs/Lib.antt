pub mod Constants
pub mod Literals
pub mod Closures
