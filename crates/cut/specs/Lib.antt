pub mod Tops
pub mod Seeking
pub mod Answered
