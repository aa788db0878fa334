pub mod Outcome
pub mod Settling
