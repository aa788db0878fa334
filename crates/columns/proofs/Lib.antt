pub mod Right
pub mod Splitting
