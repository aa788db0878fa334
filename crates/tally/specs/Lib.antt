pub mod Walk
pub mod Counts
pub mod Listed
