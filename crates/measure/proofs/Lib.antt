pub mod Ahead
pub mod Knowing
pub mod Measuring
pub mod Held
