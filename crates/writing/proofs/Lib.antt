pub mod Begun
mod HighFirst
