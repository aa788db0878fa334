pub mod Answered
pub mod Words
pub mod Index
pub mod State
pub mod Steps
pub mod Kept
pub mod Props
