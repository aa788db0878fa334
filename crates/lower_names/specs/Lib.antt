pub mod Naming
pub mod Variable
