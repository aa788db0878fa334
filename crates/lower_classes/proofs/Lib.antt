pub mod Ending
pub mod Nested
