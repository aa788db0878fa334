pub mod Tracks
pub mod Seeking
pub mod Asking
