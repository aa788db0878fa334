pub mod Sections
pub mod Props
