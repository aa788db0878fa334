pub mod Ops
pub mod Patch
pub mod Nesting
pub mod Step
pub mod Emitting
pub mod Ends
