pub mod Instructions
pub mod Climbing
pub mod Marked
pub mod Checking
