pub mod Differing
pub mod Stepping
pub mod Parts
pub mod Leaves
pub mod Ways
