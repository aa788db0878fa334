pub mod Outcome
mod Answering
