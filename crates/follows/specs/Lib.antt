pub mod Thereafter
pub mod Rereading
pub mod Following
pub mod Both
pub mod Ways
