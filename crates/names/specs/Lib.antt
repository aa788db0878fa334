pub mod Made
pub mod Sought
pub mod Parts
