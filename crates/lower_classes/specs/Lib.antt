pub mod Ending
pub mod Classes
