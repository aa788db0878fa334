mod Beginning
pub mod Compiling
