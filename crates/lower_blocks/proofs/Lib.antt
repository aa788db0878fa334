pub mod Between
pub mod Jumping
pub mod Sequence
pub mod Branches
pub mod Functions
pub mod Classes
